use Rattle.std.proofs.Common.{◌≡◌, ◌∙◌, rules, arith}
use Rattle.std.specs.List.{prefix_len}
use Rattle.std.proofs.lemmas.Grind.{common_steps}
use Rattle.std.proofs.lemmas.Iterator.{YieldsList-from_slice}
use Rattle.std.proofs.lemmas.Iterator.Consumers.{count_from_yields_List}
use Rattle.std.proofs.lemmas.Iterator.Search.{YieldsList-from_take_while}
use Rattle.std.proofs.lemmas.List.Folds.{length-prefix_len}
use borrow.Author.Tests.{tests}
use Rattle.model.specs.Grammar.{other_than}
use Rattle.pieces.proofs.Cutting.{before_it, got_behind}
use Rattle.pieces.proofs.words.cut_at.Goals as goal

-- where the byte first stands, or the length
place : (c : goal.After-get) → c.count-end.result ≡ prefix_len (other_than c.args.byte) c.args.text.now
place c =
    let other = other_than c.args.byte in
    count_from_yields_List c.take_while.result c.count-end.result c.count-end.ensures.ran (YieldsList-from_take_while _ other (YieldsList-from_slice c.args.text.now cc) c.take_while.ensures.closure c.take_while.ensures.done (λ x r q k. search (rules, tests))) ∙ length-prefix_len other c.args.text.now

pub returns-clause-first : goal.returns-clause-first
returns-clause-first c = before_it c.args.byte c.args.text.now c.count-end.result (place c)

pub returns-clause-rest : goal.returns-clause-rest
returns-clause-rest c = got_behind c.args.byte c.args.text.now c.count-end.result (place c) c.get.result (λ e. grind (arith, common_steps)) (λ x e. (grind (arith, common_steps), grind (arith, common_steps)))
