use Rattle.std.specs.Option.{option_or}
use Rattle.std.specs.Bool.{then_some}
use Rattle.std.proofs.Common.{true, Bool, ◌≡◌, ℕ, ◌+◌, ◌<◌, ◌≤◌, false, cond, List, length, get_or, Some, None, Option, sym, refl, ap, ◌∙◌, subst, arith}
use Rattle.std.proofs.lemmas.Bool.Decides.{nat_tests}
use Rattle.model.specs.declared.Place.{Place}
use Rattle.model.specs.Bytes.{Checked, width_at, banned_at}
use Rattle.model.specs.LineTurns.{note, spot}
use Rattle.model.specs.Refusals.{is_end_at}
use Rattle.model.proofs.Bytes.{checked_step, checked_invalid, checked_banned, checked_clean}
use Rattle.characters.proofs.utf8.check.Goals as goal
use Rattle.characters.proofs.utf8.check.Goals.{then-ends_line, else-ends_line}

pub returns-in_default : goal.returns-in_default
returns-in_default c m cards = checked_invalid m c.args.file.now cards c.loop-i.i c.loop-i.ends c.loop-i.found (omega arith) c.loop-i.invariant c.loop-i-test.true c.in_default.ensures

unnoted : (o : Option Place) (s : Place) → o ≡ note o false s
unnoted None s = refl
unnoted (Some x) s = refl

-- a plain byte is one character more
plain : (file : List ℕ) (i ends : ℕ) (o : Option Place) → Checked file i ends o → i < length file → (32 ≤ get_or file i 0) × (get_or file i 0 < 127) → Checked file (i + 1) ends o
plain file i ends o h l (low, high) =
    let a = get_or file i 0 in
    let one : 1 ≡ width_at file i = grind (arith, nat_tests) in
    let allowed : false ≡ banned_at file i = grind (arith, nat_tests) in
    let inside : false ≡ is_end_at file i = grind (arith, nat_tests) in
    checked_step file i ends 1 ends o o false false h l (λ z. omega arith) one allowed inside (omega arith) (unnoted o (spot (ends + 1) i))

pub loop-i-preserved-then-is_plain : goal.loop-i-preserved-then-is_plain
loop-i-preserved-then-is_plain c = plain c.args.file.now c.loop-i.i c.loop-i.ends c.loop-i.found c.loop-i.invariant c.loop-i-test.true (c.is_plain.ensures c.if-is_plain.true)

-- the first place stays noted
first_noted : (o : Option Place) (b : Bool) (s : Place) → option_or o (then_some b s) ≡ note o b s
first_noted None true s = refl
first_noted None false s = refl
first_noted (Some x) b s = refl

pub loop-i-preserved : goal.loop-i-preserved
loop-i-preserved c =
    let ends = c.loop-i.ends in
    let here = spot (ends + 1) c.loop-i.i in
    let ended = c.ends_line.result in
    let more : c.if-ends_line.ends ≡ ends + cond ended 1 0 = elim c.if-ends_line.branch [
      | then-ends_line w ↦ w.ends-is ∙ ap (λ b. ends + cond b 1 0) (sym w.if-ends_line.true)
      | else-ends_line w ↦ w.ends-is ∙ (let z : ends ≡ ends + 0 = omega arith in z) ∙ ap (λ b. ends + cond b 1 0) (sym w.if-ends_line.false)
    ] in
    let noted = c.or-found.ensures ∙ ap (option_or c.loop-i.found) c.then_some.ensures ∙ first_noted c.loop-i.found c.is_banned.result here in
    checked_step c.args.file.now c.loop-i.i ends c.in-Some.width c.if-ends_line.ends c.loop-i.found c.or-found.result c.is_banned.result ended c.loop-i.invariant c.loop-i-test.true (λ z. omega arith) c.in-Some.ensures.0 c.is_banned.ensures c.ends_line.ensures more noted

pub returns-in-Some-found : goal.returns-in-Some-found
returns-in-Some-found c m cards = checked_banned m c.args.file.now cards c.loop-i.i c.loop-i.ends c.in-Some-found.place (omega arith) (subst (Checked c.args.file.now c.loop-i.i c.loop-i.ends) c.in-Some-found.is c.loop-i.invariant) c.loop-i-test.false

pub returns-in-None : goal.returns-in-None
returns-in-None c = (omega arith, checked_clean c.args.file.now c.loop-i.i c.loop-i.ends (subst (Checked c.args.file.now c.loop-i.i c.loop-i.ends) c.in-None.is c.loop-i.invariant) c.loop-i-test.false)
