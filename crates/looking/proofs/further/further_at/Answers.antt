use Rattle.std.proofs.Common.{◌≡◌, Option, slice_get, arith, ◌++◌, ℕ, List, map, Some, sym, ap, ◌∙◌, subst, rules, Bor}
use Rattle.std.proofs.lemmas.Grind.{common_steps}
use borrow.Author.Tests.{tests}
use Rattle.std.proofs.lemmas.Iterator.Consumers.{nth_from_yields_List}
use Rattle.std.proofs.lemmas.Iterator.Search.{YieldsList-from_take_while}
use Rattle.std.proofs.lemmas.Iterator.{YieldsList}
use Rattle.std.specs.Option.{option_map}
use Rattle.lines.specs.declared.steps.Found.{Found}
use Rattle.lines.specs.Iterating.{GivesNext}
use Rattle.looking.specs.Looking.{text_in}
use Rattle.looking.proofs.Left.{cut_within, cut_left, left_more}
use Rattle.looking.proofs.Trailing.{whole_of}
use Rattle.looking.proofs.Onward.{seen, part_of, goes_on, cursor_gives, further_read, tested}
use Rattle.looking.proofs.further.further_at.Goals as goal

-- an item by its number, which is worked out in some way
nth_at : {A : Type 0} (r : Option A) (xs : List A) (k n : ℕ) → r ≡ slice_get xs k → k ≡ n → r ≡ slice_get xs n
nth_at r xs k n h e = h ∙ ap (slice_get xs) e

pub returns-in_err-cursor : goal.returns-in_err-cursor
returns-in_err-cursor c ps e l s =
    let w = whole_of ps c.args.byte e s in
    absurd (c.in_err-cursor.ensures ps w.place l (cut_within ps w.place w.cut) w.begins)

pub returns-in_err-next : goal.returns-in_err-next
returns-in_err-next c ps e l s =
    let at = c.in_ok-cursor.cursor in
    let w = whole_of ps c.args.byte e s in
    let left = cut_left at.file.now at.at ps w.place w.cut (c.in_ok-cursor.ensures ps w.place l (cut_within ps w.place w.cut) w.begins) in
    absurd (left_more at.file.now at.at w.cut.line w.cut.more left c.in_err-next.ensures.steps.1)

pub returns-in_err-found : goal.returns-in_err-found
returns-in_err-found c ps e l s =
    let w = whole_of ps c.args.byte e s in
    let before = c.in_ok-cursor.ensures ps w.place l (cut_within ps w.place w.cut) w.begins in
    let gives = cursor_gives ps c.args.byte e w c.in_ok-cursor.cursor c.next.new.self c.in_ok-next.field-0 before c.in_ok-next.ensures.steps in
    let told = nth_at _ _ _ c.args.number (nth_from_yields_List c.nth.result _ _ c.nth.ensures.ran (YieldsList-from_take_while _ goes_on (subst (λ t. YieldsList GivesNext seen t (map part_of (w.own ++ w.rest))) (sym c.take_while.ensures.source) gives) c.take_while.ensures.closure c.take_while.ensures.done (λ x b q k. search (rules, tests, tested)))) (grind (arith, common_steps)) in
    let read = further_read ps c.args.byte e w c.args.number c.nth.result told in
    ap (option_map (λ (t : Bor (List ℕ)). t.now)) c.from_residual-in_err-found.ensures ∙ sym (ap (option_map (λ (f : Found). text_in f.line.payload)) c.in_err-found.was) ∙ read

pub returns : goal.returns
returns c ps e l s =
    let w = whole_of ps c.args.byte e s in
    let before = c.in_ok-cursor.ensures ps w.place l (cut_within ps w.place w.cut) w.begins in
    let gives = cursor_gives ps c.args.byte e w c.in_ok-cursor.cursor c.next.new.self c.in_ok-next.field-0 before c.in_ok-next.ensures.steps in
    let told = nth_at _ _ _ c.args.number (nth_from_yields_List c.nth.result _ _ c.nth.ensures.ran (YieldsList-from_take_while _ goes_on (subst (λ t. YieldsList GivesNext seen t (map part_of (w.own ++ w.rest))) (sym c.take_while.ensures.source) gives) c.take_while.ensures.closure c.take_while.ensures.done (λ x b q k. search (rules, tests, tested)))) (grind (arith, common_steps)) in
    let read = further_read ps c.args.byte e w c.args.number c.nth.result told in
    ap Some c.text_in.ensures ∙ sym (ap (option_map (λ (f : Found). text_in f.line.payload)) c.in_ok-found.was) ∙ read
