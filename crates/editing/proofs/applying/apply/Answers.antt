use Rattle.std.proofs.Common.{subst, arith}
use Rattle.model.specs.Removal.{card_count}
use Rattle.model.proofs.Editing.{held_room}
use Rattle.editing.specs.Showing.{Inside}
use Rattle.editing.proofs.applying.apply.Goals as goal

pub returns-in_default-clause-cards : goal.returns-in_default-clause-cards
returns-in_default-clause-cards c d h inside =
    let room = held_room c.args.file.now c.args.cards.now d h in
    let reach = subst (λ x. Inside x (card_count d)) c.in-Deleted.is inside in
    absurd (omega arith)

pub returns-in_default-3-clause-cards : goal.returns-in_default-3-clause-cards
returns-in_default-3-clause-cards c d h inside =
    let room = held_room c.args.file.now c.args.cards.now d h in
    let reach = subst (λ x. Inside x (card_count d)) c.in-Cleared.is inside in
    absurd (omega arith)
