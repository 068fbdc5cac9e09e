use Rattle.std.proofs.Common.{set, sym, ap, ◌∙◌, arith}
use Rattle.std.proofs.lemmas.List.{take_all}
use Rattle.std.proofs.lemmas.Bool.{cond-true, cond-false}
use Rattle.model.specs.Datasets.{entries}
use Rattle.model.specs.Edits.{marked}
use Rattle.model.proofs.Editing.{held_room}
use Rattle.editing.proofs.Holding.{voided_turn}
use Rattle.editing.proofs.pointers.void_pointers.Goals as goal
use Rattle.editing.proofs.pointers.void_pointers.Goals.{then-points_to, else-points_to}

pub loop-card-preserved : goal.loop-card-preserved
loop-card-preserved c d h =
    let k = c.loop-card.card-index in
    let l = c.loop-card.cards in
    let turn = voided_turn c.args.file.now c.args.cards.now d h c.loop-card.card-index c.loop-card-test.true c.args.identifier.now c.loop-card.cards (c.loop-card.invariant d h) c.points_to.result c.points_to.ensures.shown c.points_to.ensures.blank in
    elim c.if-points_to.branch [
      | then-points_to w ↦ w.cards-is ∙ ap (set l k) (sym (cond-true c.points_to.result _ _ w.if-points_to.true)) ∙ turn
      | else-points_to w ↦ w.cards-is ∙ ap (set l k) (sym (cond-false c.points_to.result _ _ w.if-points_to.false)) ∙ turn
    ]

pub returns : goal.returns
returns c d h =
    let room = held_room c.args.file.now c.args.cards.now d h in
    c.loop-card.invariant d h ∙ ap (λ es. marked c.args.identifier.now es c.args.cards.now) (take_all c.loop-card.card-index (entries d) (omega arith))
