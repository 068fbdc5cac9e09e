-- What a cursor yields as an iterator. Assumes nothing.
use Rattle.std.specs.Prelude.{◌≡◌, ℕ, ◌≤◌, ◌⊎◌, List, length, Some, None, Option}
use Rattle.lines.specs.declared.cursor.Cursor.{Cursor}
use Rattle.lines.specs.declared.steps.Found.{Found}
use Rattle.lines.specs.Steps.{bytes_at, Comes, NoLineAt, Stays}

-- the file ends, or no line stands there
abbrev pub StopsAt : List ℕ → ℕ → Type 0
StopsAt file at = (length file ≤ at) ⊎ NoLineAt file at

-- a line with its bytes, and the cursor behind it
pub record Yields (s : Cursor) (f : Found) (t : Cursor) : Type 0 where
  pub file : t.file.now ≡ s.file.now
  pub comes : Comes s.file.now s.at s.lines t.at t.lines f
  pub bytes : f.bytes.now ≡ bytes_at s.file.now s.at

-- the next line, or none where the lines stop, and the cursor with them
abbrev pub GivesNext : Cursor → Option Found → Cursor → Type 0
GivesNext s None t = (t.file.now ≡ s.file.now) × StopsAt s.file.now s.at × Stays s.at s.lines t.at t.lines
GivesNext s (Some f) t = Yields s f t
