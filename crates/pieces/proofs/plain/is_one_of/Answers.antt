use Rattle.std.proofs.Common.{ℕ, List, Bor, sym, ◌∙◌, rules}
use Rattle.std.specs.Str.{bytes_eq}
use Rattle.std.proofs.lemmas.Iterator.{YieldsList-from_slice}
use Rattle.std.proofs.lemmas.Iterator.Search.{any_from_yields_List}
use borrow.Author.Tests.{tests}
use Rattle.pieces.proofs.Chains.{among_by_any}
use Rattle.pieces.proofs.plain.is_one_of.Goals as goal

pub returns : goal.returns
returns c = any_from_yields_List (λ (w : Bor (List ℕ)). bytes_eq w.now c.args.word.now) _ _ c.any.result c.any.ensures.ran (YieldsList-from_slice c.args.words.now cc) (λ x b q k. search (rules, tests)) ∙ sym (among_by_any c.args.word.now c.args.words.now)
