-- What is asked of a list of entries, and the records that they name. Assumes nothing.
use Rattle.std.specs.Prelude.{◌≡◌, ℕ, ◌<◌, ◌≤◌, List, length, Some, Option, MatchOption, slice_index_or}
use Rattle.model.specs.Datasets.{Entry, pointer}
use Rattle.model.specs.Edits.{no_entry}
use Rattle.model.specs.Positions.{Levelled, NamedApart}

-- those of a drawer are so: no level is skipped, no identifier stands twice, and a drawer names few cards
pub record Judgeable (b : List Entry) : Type 0 where
  pub levelled : Levelled b
  pub apart : NamedApart b
  pub few : length b ≤ 65535

-- entry i points to x, and x is the identifier of entry j
pub record Names (b : List Entry) (i j : ℕ) (x : List ℕ) : Type 0 where
  pub points : (slice_index_or b i no_entry).payload ≡ pointer x
  pub within : j < length b
  pub named : (slice_index_or b j no_entry).identifier ≡ Some x

-- the one that entry i names, if any
abbrev pub Targets : List Entry → ℕ → Option ℕ → Type 0
Targets b i o = MatchOption o ((j : ℕ) (x : List ℕ) → Names b i j x → ⊥) (λ j. (x : List ℕ) × Names b i j x)
