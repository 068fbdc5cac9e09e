use Rattle.std.proofs.Common.{◌≡◌, ◌-◌, length, rules, sym, ap, ◌∙◌, subst, arith}
use Rattle.std.proofs.lemmas.Bool.Decides.{not_from_Decides, nat_tests}
use Rattle.lines.specs.declared.cursor.Cursor.{Cursor}
use Rattle.lines.specs.Iterating.{StopsAt}
use Rattle.looking.proofs.Left.{other_comes}
use Rattle.holding.proofs.Merging.{Merging, behind_all, behind_more, next_place, matched, unmatched, none_matched, merging_start, merging_match, merging_pass, merging_end}
use Rattle.holding.proofs.standing.on_lines.Goals as goal

pub loop-found-init : goal.loop-found-init
loop-found-init c =
    let cards = c.args.cards.now in
    let it : c.into_iter-found-iterator.result ≡ c.new-found-items.result = cc in (
      search rules,
      search rules,
      ap (λ (s : Cursor). s.file.now) it ∙ c.new-found-items.ensures.file,
      behind_all cards,
      λ ps l. subst (λ (s : Cursor). Merging c.args.file.now ps cards s.at (length cards - length cards)) (sym it)
          (subst (λ k. Merging c.args.file.now ps cards c.new-found-items.result.at k) (let z : 0 ≡ length cards - length cards = omega arith in z) (merging_start c.args.file.now ps cards c.new-found-items.result.at l c.new-found-items.ensures.start.0)),
    )

pub loop-found-preserved-then-is_card_of : goal.loop-found-preserved-then-is_card_of
loop-found-preserved-then-is_card_of c =
    let file = c.args.file.now in
    let cards = c.args.cards.now in
    let rest = c.loop-found.rest.now in
    let card = c.in-Some-split_first.card.now in
    let more = c.in-Some-split_first.behind.now in
    let s = c.loop-found.found-iterator in
    let t = c.next.new.self in
    let is = c.in-Some-split_first.ensures.cases.0 in
    let b = c.loop-found.invariant.3 in
    let line = other_comes file s.file.now s.at s.lines t.at t.lines c.in-Some.found c.loop-found.invariant.2 c.in-Some.ensures.steps.comes in
    let match = matched cards rest card more b is c.in-Some.found (c.is_card_of.ensures.0 c.if-is_card_of.true) in (
      search rules,
      search rules,
      c.in-Some.ensures.steps.file ∙ c.loop-found.invariant.2,
      behind_more cards rest card more b is,
      λ ps l. subst (λ k. Merging file ps cards t.at k) (sym (next_place cards rest card more b is)) (merging_match file ps cards s.at (length cards - length rest) s.lines t.at t.lines c.in-Some.found (c.loop-found.invariant.4 ps l) line match),
    )

pub loop-found-preserved-else-is_card_of : goal.loop-found-preserved-else-is_card_of
loop-found-preserved-else-is_card_of c =
    let file = c.args.file.now in
    let cards = c.args.cards.now in
    let rest = c.loop-found.rest.now in
    let s = c.loop-found.found-iterator in
    let t = c.next.new.self in
    let b = c.loop-found.invariant.3 in
    let line = other_comes file s.file.now s.at s.lines t.at t.lines c.in-Some.found c.loop-found.invariant.2 c.in-Some.ensures.steps.comes in
    let other = unmatched cards rest c.in-Some-split_first.card.now c.in-Some-split_first.behind.now b c.in-Some-split_first.ensures.cases.0 c.in-Some.found (not_from_Decides c.is_card_of.result c.is_card_of.ensures c.if-is_card_of.false) in (
      search rules,
      search rules,
      c.in-Some.ensures.steps.file ∙ c.loop-found.invariant.2,
      b,
      λ ps l. merging_pass file ps cards s.at (length cards - length rest) s.lines t.at t.lines c.in-Some.found (c.loop-found.invariant.4 ps l) line other,
    )

pub loop-found-preserved : goal.loop-found-preserved
loop-found-preserved c =
    let file = c.args.file.now in
    let cards = c.args.cards.now in
    let rest = c.loop-found.rest.now in
    let s = c.loop-found.found-iterator in
    let t = c.next.new.self in
    let line = other_comes file s.file.now s.at s.lines t.at t.lines c.in-Some.found c.loop-found.invariant.2 c.in-Some.ensures.steps.comes in
    let other = none_matched cards rest c.in-Some.found c.in_default.ensures.cases in (
      search rules,
      search rules,
      c.in-Some.ensures.steps.file ∙ c.loop-found.invariant.2,
      c.loop-found.invariant.3,
      λ ps l. merging_pass file ps cards s.at (length cards - length rest) s.lines t.at t.lines c.in-Some.found (c.loop-found.invariant.4 ps l) line other,
    )

pub returns : goal.returns
returns c ps l =
    let file = c.args.file.now in
    let cards = c.args.cards.now in
    let rest = c.loop-found.rest.now in
    let s = c.loop-found.found-iterator in
    let low = c.loop-found.invariant.3.0 in
    merging_end file ps cards s.at (length cards - length rest) _ (c.loop-found.invariant.4 ps l) (subst (λ f. StopsAt f s.at) c.loop-found.invariant.2 c.in-None.ensures.steps.1) (omega arith) (let e = c.is_empty.ensures in (λ t. grind (arith, nat_tests), λ q. grind (arith, nat_tests)))
