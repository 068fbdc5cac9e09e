-- What is noted of each entry: its level and its row. Assumes nothing.
use Rattle.std.specs.Prelude.{◌≡◌, ℕ, ◌<◌, ◌≤◌, false, List, length, get_or, Some, Option, MatchOption, slice_index_or}
use Rattle.model.specs.Books.{Meaning}
use Rattle.model.specs.Datasets.{Entry}
use Rattle.model.specs.Refusals.{First, known}
use Rattle.model.specs.Positions.{KeepsAt, level_at, row_at}
use Rattle.judging.specs.Entries.{Judgeable}
use Rattle.judging.specs.declared.marks.Mark.{Mark}

abbrev pub no_mark : Mark
no_mark = record { level = 0; row = record { typed = 0; required = false; many = false } }

-- the first n entries of b are marked with their levels and rows
pub record MarkedTo (m : Meaning) (b : List Entry) (marks : List Mark) (n : ℕ) : Type 0 where
  pub level : (i : ℕ) → i < n → (get_or marks i no_mark).level ≡ level_at b i
  pub row : (i : ℕ) → i < n → row_at m b i ≡ Some (get_or marks i no_mark).row

-- each is
pub record Marked (m : Meaning) (b : List Entry) (marks : List Mark) : Type 0 where
  pub judgeable : Judgeable b
  pub long : length b ≡ length marks
  pub all : MarkedTo m b marks (length b)

-- every entry is marked, or i is the first that has no row
abbrev pub RowsOf : Meaning → List Entry → List Mark → Option ℕ → Type 0
RowsOf m b marks o = MatchOption o (Marked m b marks) (First (KeepsAt m b known) (length b))

-- levels and types for which there is a set with room
pub record Small (x : Mark) : Type 0 where
  pub shallow : x.level ≤ 63
  pub few : x.row.typed < 1024

abbrev pub AllSmall : List Mark → Type 0
AllSmall marks = (i : ℕ) → i < length marks → Small (slice_index_or marks i no_mark)
