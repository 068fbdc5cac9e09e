use Rattle.std.proofs.Common.{ℕ, List, Bor, sym, ap, ◌∙◌, rules}
use Rattle.std.specs.Str.{bytes_eq}
use Rattle.std.proofs.lemmas.Iterator.{YieldsList-from_slice}
use Rattle.std.proofs.lemmas.Iterator.Search.{any_from_yields_List}
use borrow.Author.Tests.{tests}
use Rattle.model.specs.Tables.{among}
use Rattle.books.proofs.Seeking.{among_words}
use Rattle.books.proofs.home.HomeBook.member.Goals as goal

pub returns : goal.returns
returns c = any_from_yields_List (λ (w : Bor (List ℕ)). bytes_eq w.now c.args.word.now) _ _ c.any.result c.any.ensures.ran (YieldsList-from_slice c.words.result.now cc) (λ x b q k. search (rules, tests)) ∙ sym (among_words c.args.word.now c.words.result.now) ∙ ap (λ ws. among ws c.args.word.now) c.words.ensures.words
