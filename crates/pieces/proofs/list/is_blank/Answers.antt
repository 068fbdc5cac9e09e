use Rattle.std.proofs.Common.{eqb, sym, ◌∙◌, rules}
use Rattle.std.proofs.lemmas.Iterator.{YieldsList-from_slice}
use Rattle.std.proofs.lemmas.Iterator.Search.{all_from_yields_List}
use borrow.Author.Tests.{tests}
use Rattle.pieces.proofs.Chains.{spaces_by_all}
use Rattle.pieces.proofs.list.is_blank.Goals as goal

pub returns : goal.returns
returns c = all_from_yields_List (λ c. eqb c 32) _ _ c.all.result c.all.ensures.ran (YieldsList-from_slice c.args.text.now cc) (λ x b q k. search (rules, tests)) ∙ sym (spaces_by_all c.args.text.now)
