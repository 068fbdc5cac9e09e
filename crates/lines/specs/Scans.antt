-- What the scan of the lines knows, as the definitions have it. Assumes nothing.
use Rattle.std.specs.Prelude.{◌≡◌, ℕ, ◌+◌, max, false, None, Option}
use Rattle.std.specs.Option.{option_map}
use Rattle.model.specs.Lines as model
use Rattle.model.specs.LineTurns as turns
use Rattle.lines.specs.Faults.{line_fault}
use Rattle.lines.specs.Shown.{Shows}
use Rattle.lines.specs.declared.fault.LineFault.{LineFault}
use Rattle.lines.specs.declared.line.Line.{Line}
use Rattle.lines.specs.declared.notes.Seen.{Seen}
use Rattle.lines.specs.declared.notes.Last.{Last}
use Rattle.lines.specs.declared.notes.Notes.{Notes}
use Rattle.lines.specs.declared.notes.Scan.{Scan}

abbrev pub seen : Seen → turns.Seen
seen v = turns.seen_with v.level v.named v.header v.trailer v.continuation v.concatenation v.pointing v.empty

abbrev pub last_of : Last → turns.Last
last_of o = turns.last_with o.level o.pointing o.first

abbrev pub notes_of : Notes → turns.Notes
notes_of s = turns.notes_with s.levels s.first s.trailer s.steps s.named s.continued

-- what is seen of a line that shows l
abbrev pub Sees : Line → Seen → Type 0
Sees line v = (l : model.Line) → Shows line l → seen v ≡ turns.seen_of line.level l

abbrev pub no_scan : Scan
no_scan = record { lines = 0; cards = 0; deepest = 0; last = record { level = 0; pointing = false; first = false }; notes = record { levels = None; first = None; trailer = None; steps = None; named = None; continued = None }; closed = false; here = record { line = 0; byte = 0 } }

-- one line more
pub record After (t : Scan) (v : Seen) (byte : ℕ) (r : Scan) : Type 0 where
  pub lines : r.lines ≡ t.lines + 1
  pub cards : r.cards ≡ turns.count_after t.cards (seen v)
  pub deepest : r.deepest ≡ max t.deepest v.level
  pub last_is : last_of r.last ≡ turns.last_after t.lines (last_of t.last) (seen v)
  pub notes_are : notes_of r.notes ≡ turns.notes_after t.lines byte (last_of t.last) (seen v) (notes_of t.notes)
  pub closed : r.closed ≡ turns.closes (seen v)
  pub here : r.here ≡ turns.spot (t.lines + 1) byte

abbrev pub Verdict : Scan → Option LineFault → Type 0
Verdict t r = option_map line_fault r ≡ turns.verdict (notes_of t.notes) t.closed t.here None
