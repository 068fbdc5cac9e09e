-- What is taken off the front of a file. Assumes nothing.
use Rattle.std.specs.Prelude.{◌≡◌, ℕ, ◌⊎◌, List, ◌++◌}
use Rattle.model.specs.Datasets.{MARK}
use Rattle.model.specs.Refusals.{Starts}

-- the mark where the file begins with one, and else nothing
abbrev pub TakenOff : List ℕ → List ℕ → Type 0
TakenOff file rest = (file ≡ MARK ++ rest) ⊎ ((Starts file MARK → ⊥) × (rest ≡ file))
