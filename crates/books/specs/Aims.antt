-- What the pointers of a book name. Assumes nothing.
use Rattle.std.specs.Prelude.{◌≡◌, ℕ, ◌<◌}
use Rattle.model.specs.declared.Kind.TheVariants.{Pointer}
use Rattle.model.specs.Books.{Meaning}

-- the type that a pointer kind names is one of the book
abbrev pub PointersWithin : Meaning → Type 0
PointersWithin m = (t s : ℕ) → m.kind t ≡ Pointer s → s < m.types
