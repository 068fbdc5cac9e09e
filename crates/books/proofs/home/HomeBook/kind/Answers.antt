use Rattle.std.proofs.Common.{get_or, ap, ◌∙◌, arith}
use Rattle.std.specs.Option.{unwrap_or}
use Rattle.model.specs.declared.Kind.TheVariants.{Nothing}
use Rattle.model.specs.Tables.{home_kinds}
use Rattle.books.proofs.home.HomeBook.kind.Goals as goal

pub returns : goal.returns
returns c = c.unwrap_or.ensures ∙ ap (λ o. unwrap_or o Nothing) c.copied.ensures ∙ c.get.ensures.lookup.4 (omega arith) Nothing ∙ ap (λ n. get_or home_kinds n Nothing) c.from.ensures
