-- The entries that cards file, with the index of their identifiers. Assumes nothing.
use Rattle.std.specs.Prelude.{◌≡◌, ℕ, ◌<◌, List, length, Some, slice_index_or}
use Rattle.std.specs.List.{AllByRecursion}
use Rattle.model.specs.declared.Card.{Card}
use Rattle.model.specs.Datasets.{Dataset, IsDataset, Entry, entries}
use Rattle.model.specs.Cards.{FilesAll}
use Rattle.model.specs.Edits.{no_entry, body}
use Rattle.model.specs.Files.{Placed, Lined}
use Rattle.naming.specs.Naming.{Name, InOrder}

-- names are the identifiers of the entries, in order
pub record Names (es : List Entry) (names : List Name) : Type 0 where
  pub order : InOrder names
  pub each : AllByRecursion (λ e. (e.1 < length es) × ((slice_index_or es e.1 no_entry).identifier ≡ Some e.0.now)) names
  pub all : (k : ℕ) (x : List ℕ) → k < length es → (slice_index_or es k no_entry).identifier ≡ Some x → (a : ℕ) × (a < length names) × ((d : Name) → (slice_index_or names a d).0.now ≡ x)

-- the cards file the entries of d one by one
pub record Entering (file : List ℕ) (cards : List Card) (names : List Name) (d : Dataset) : Type 0 where
  pub placed : List Placed
  pub lined : Lined file placed
  pub files : FilesAll placed cards (entries d)
  pub is : IsDataset d
  pub names_are : Names (entries d) names

-- b are those entries but the trailer's
abbrev pub Enters : List ℕ → List Card → List Name → List Entry → Type 0
Enters file cards names b = (d : Dataset) × Entering file cards names d × (b ≡ body (entries d))
