use Rattle.std.proofs.Common.{◌∙◌, rules, arith}
use Rattle.std.proofs.lemmas.Iterator.{YieldsList-from_slice, YieldsList-from_map}
use Rattle.std.proofs.lemmas.Iterator.Consumers.{fits_by_from_yields_list, sum_by_from_yields_List}
use Rattle.std.proofs.lemmas.Grind.{common_steps}
use Rattle.pieces.proofs.Chains.{slash, slashes_by_sum, slashes_within}
use Rattle.pieces.proofs.plain.slashes_in.Goals as goal

pub sum-requires-clause-fits : goal.sum-requires-clause-fits
sum-requires-clause-fits c = fits_by_from_yields_list slash c.args.text.now c.map.result _ (YieldsList-from_map _ slash (YieldsList-from_slice c.args.text.now cc) c.map.ensures.closure (λ x r q k. search (rules, arith))) (let n = slashes_within c.args.text.now in grind (arith, common_steps))

pub returns : goal.returns
returns c = sum_by_from_yields_List slash c.args.text.now c.map.result c.sum.result c.sum.ensures.ran (YieldsList-from_map _ slash (YieldsList-from_slice c.args.text.now cc) c.map.ensures.closure (λ x r q k. search (rules, arith))) ∙ slashes_by_sum c.args.text.now
