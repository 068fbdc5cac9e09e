use Rattle.std.proofs.Common.{◌∙◌, rules, ◌≡◌, arith, tests}
use Rattle.std.specs.List.{prefix_len}
use Rattle.std.proofs.lemmas.Iterator.{YieldsList-from_slice}
use Rattle.std.proofs.lemmas.Iterator.Consumers.{count_from_yields_List}
use Rattle.std.proofs.lemmas.Iterator.Search.{YieldsList-from_take_while}
use Rattle.std.proofs.lemmas.Grind.{common_steps}
use Rattle.std.proofs.lemmas.List.Folds.{length-prefix_len}
use Rattle.std.proofs.lemmas.List.Sums.{prefix_len-le-length}
use Rattle.lines.proofs.part.run.Goals as goal

pub returns-clause-value : goal.returns-clause-value
returns-clause-value g c p e =
    let n : c.count.result ≡ prefix_len p c.args.bytes.now = count_from_yields_List c.take_while.result c.count.result c.count.ensures.ran (YieldsList-from_take_while _ p (YieldsList-from_slice c.args.bytes.now cc) c.take_while.ensures.closure c.take_while.ensures.done (λ x r q k. search (rules, tests, e))) ∙ length-prefix_len p c.args.bytes.now in
    let most = prefix_len-le-length p c.args.bytes.now in
    grind (arith, common_steps)
