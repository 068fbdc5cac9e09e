-- What is written of an entry, and how it gets into a buffer. Assumes nothing.
use Rattle.std.specs.Prelude.{◌≡◌, ℕ, ◌+◌, ◌≤◌, List, ◌∷◌, ◌++◌, length, drop}
use Rattle.model.specs.Lines.{Line, numeral, spell_identifier}
use Rattle.model.specs.Datasets.{Entry, entry_lines, with_line_feeds}

-- its lines, each ended by LF
abbrev pub card_bytes : Entry → List ℕ
card_bytes e = with_line_feeds (entry_lines e)

-- a line up to the end of its tag
abbrev pub head_of : Line → List ℕ
head_of l = numeral l.level ++ 32 ∷ spell_identifier l.identifier ++ l.tag

-- a buffer at the front of which w was written
abbrev pub over : List ℕ → List ℕ → List ℕ
over w buffer = w ++ drop (length w) buffer

-- behind what was written come these bytes too, where there is room for them
abbrev pub Adds : List ℕ → ℕ → List ℕ → ℕ → List ℕ → Type 0
Adds buffer at bytes r out = (w first : List ℕ) → buffer ≡ over w first → at ≡ length w → length w + length bytes ≤ length first → (out ≡ over (w ++ bytes) first) × (r ≡ length (w ++ bytes))
