-- What the check of a file's lines answers. Assumes nothing.
use Rattle.std.specs.Prelude.{◌≡◌, ℕ, max, List, [], ◌∷◌, length, Ok, Err, Result}
use Rattle.model.specs.Books.{Meaning}
use Rattle.model.specs.Lines.{Line}
use Rattle.model.specs.Files.{Placed, Passes}
use Rattle.model.specs.Refusals.{Refuses, lines_of, others}
use Rattle.lines.specs.Faults.{line_fault}
use Rattle.lines.specs.declared.fault.LineFault.{LineFault}
use Rattle.lines.specs.declared.rules.Counts.{Counts}

abbrev pub deepest_of : List Line → ℕ
deepest_of [] = 0
deepest_of (l ∷ ls) = max l.level (deepest_of ls)

-- ps are the file's lines, and keep the rules; so many there are, so many of them continue none, and so deep they go
pub record Counted (file : List ℕ) (n : Counts) : Type 0 where
  pub placed : List Placed
  pub passes : Passes file placed
  pub lines : n.lines ≡ length placed
  pub cards : n.cards ≡ length (others placed)
  pub deepest : n.deepest ≡ deepest_of (lines_of placed)

-- granted where the file keeps the rules 1 to 10; else the fault is the one that they name, whatever book and drawer there are
abbrev pub Checks : List ℕ → Result Counts LineFault → Type 0
Checks file (Ok n) = Counted file n
Checks file (Err f) = (m : Meaning) (cards : ℕ) → Refuses m file cards (line_fault f)
