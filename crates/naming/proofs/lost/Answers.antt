use Rattle.std.proofs.Common.{true, false, rules}
use Rattle.std.proofs.lemmas.Iterator.{YieldsList-from_slice, IsFirst-from_position}
use Rattle.model.specs.declared.Card.{Card}
use Rattle.naming.specs.Naming.{IsLost}
use Rattle.naming.proofs.Indexing.{lost_told, first_lost}
use Rattle.naming.proofs.lost.Goals as goal

pub returns : goal.returns
returns c =
    let file = c.args.file.now in
    let names = c.args.names.now in
    first_lost file c.args.cards.now names c.position.result (IsFirst-from_position _ _ c.position.result (λ (x : Card). IsLost file x names true) (λ (x : Card). IsLost file x names false) c.position.ensures.ran (YieldsList-from_slice c.args.cards.now cc) (λ x q k. lost_told file x.now names true (search rules)) (λ x q k. (search rules, lost_told file x.now names false (search rules))))
