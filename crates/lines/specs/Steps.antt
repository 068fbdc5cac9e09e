-- What a cursor over the lines of a file comes to. Assumes nothing.
use Rattle.std.specs.Prelude.{◌≡◌, ℕ, ◌+◌, ◌<◌, ◌≤◌, ◌⊎◌, List, [], ◌∷◌, ◌++◌, length, drop, Some, None, Ok, Err, Option, Result}
use Rattle.model.specs.Lines.{Line}
use Rattle.model.specs.Files.{Placed, Lined}
use Rattle.model.specs.Refusals.{Unlined}
use Rattle.model.specs.LineTurns.{Scanned, line_end, next_line}
use Rattle.model.specs.Scan.{front, in_line, parse}
use Rattle.lines.specs.Shown.{Shows}
use Rattle.lines.specs.declared.steps.Found.{Found}
use Rattle.lines.specs.declared.steps.NoLine.{NoLine}

-- the bytes from `at` to the next line end
abbrev pub bytes_at : List ℕ → ℕ → List ℕ
bytes_at file at = front in_line (drop at file)

-- a line that begins at `at`, behind n others, and what the cursor then has
pub record Comes (file : List ℕ) (at n at' n' : ℕ) (f : Found) : Type 0 where
  pub line : Line
  pub spelled : parse (bytes_at file at) ≡ Some line
  pub ended : line_end file at < length file
  pub shows : Shows f.line line
  pub number : f.number ≡ n + 1
  pub byte : f.byte ≡ at
  pub next_at : at' ≡ next_line file (line_end file at)
  pub next_number : n' ≡ n + 1

-- no line begins at `at`, though bytes stand there
abbrev pub NoLineAt : List ℕ → ℕ → Type 0
NoLineAt file at = (at < length file) × ((parse (bytes_at file at) ≡ None) ⊎ (length file ≤ line_end file at))

abbrev pub Stays : ℕ → ℕ → ℕ → ℕ → Type 0
Stays at n at' n' = (at' ≡ at) × (n' ≡ n)

abbrev pub Steps : List ℕ → ℕ → ℕ → ℕ → ℕ → Result (Option Found) NoLine → Type 0
Steps file at n at' n' (Ok None) = (length file ≤ at) × Stays at n at' n'
Steps file at n at' n' (Err e) = NoLineAt file at × Stays at n at' n'
Steps file at n at' n' (Ok (Some f)) = Comes file at n at' n' f

-- a line comes with its bytes, without its end
abbrev pub BytesCome : List ℕ → ℕ → Result (Option Found) NoLine → Type 0
BytesCome file at (Ok None) = Unit {0}
BytesCome file at (Err e) = Unit {0}
BytesCome file at (Ok (Some f)) = f.bytes.now ≡ bytes_at file at

-- Of the file's lines ps are those before `at`: then there are no others, no line stands here, or p is the next, in its place.
abbrev pub Gives : List ℕ → List Placed → ℕ → Result (Option Found) NoLine → Type 0
Gives file ps at' (Ok None) = Lined file ps
Gives file ps at' (Err e) = Unlined file ps
Gives file ps at' (Ok (Some f)) = (p : Placed) × (f.byte ≡ p.byte) × (f.number ≡ length ps + 1) × Shows f.line p.line × Scanned file (ps ++ p ∷ []) at'
