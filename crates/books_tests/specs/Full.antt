-- The meaning of a book of 1,000 types that knows no tag. Assumes nothing.
use Rattle.std.specs.Prelude.{false, None}
use Rattle.model.specs.declared.Kind.TheVariants.{Nothing}
use Rattle.model.specs.Books.{Meaning}

abbrev pub full : Meaning
full = record { types = 1000; row = λ c tag. None; needs = λ c. 0; need = λ c j. None; kind = λ t. Nothing; member = λ s w. false }
