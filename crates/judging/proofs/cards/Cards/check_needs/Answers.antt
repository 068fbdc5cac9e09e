use Rattle.std.proofs.Common.{Some, None, arith}
use Rattle.std.proofs.lemmas.Grind.{common_steps}
use Rattle.model.specs.Positions.{top_at}
use Rattle.judging.proofs.Asking.{asked_needs}
use Rattle.judging.proofs.Missing.{needs_first}
use Rattle.judging.proofs.cards.Cards.check_needs.Goals as goal

pub returns-in-Some : goal.returns-in-Some
returns-in-Some g c b s t =
    let m = g.B.Book.meaning c.args.self.now.book.now in
    let lacking = c.first_lacking-lacking in
    let missing = c.first_missing-missing.ensures (top_at m b) (λ u h. lacking.ensures.top b t 0 u (omega arith) h) in
    asked_needs m b (Some (c.in-Some.card, c.in-Some.typed)) (needs_first m b c.first_missing-missing.result missing lacking.result (lacking.ensures.lacking b t) (Some (c.in-Some.card, c.in-Some.typed)) (λ e. grind (arith, common_steps)) (λ u e. grind (arith, common_steps)))

pub returns-in-None : goal.returns-in-None
returns-in-None g c b s t =
    let m = g.B.Book.meaning c.args.self.now.book.now in
    let lacking = c.first_lacking-lacking in
    let missing = c.first_missing-missing.ensures (top_at m b) (λ u h. lacking.ensures.top b t 0 u (omega arith) h) in
    asked_needs m b None (needs_first m b c.first_missing-missing.result missing lacking.result (lacking.ensures.lacking b t) None (λ e. grind (arith, common_steps)) (λ u e. grind (arith, common_steps)))
