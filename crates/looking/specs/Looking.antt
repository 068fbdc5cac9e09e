-- What the line at a byte of a file shows. Assumes nothing.
use Rattle.std.specs.Prelude.{◌≡◌, ℕ, ◌+◌, ◌<◌, min, Bool, cond, List, [], ◌∷◌, length, drop, IsSomeAnd, Decides, Option, ◌≢◌}
use Rattle.std.specs.Borrow.{Bor}
use Rattle.std.specs.Option.{option_map}
use Rattle.std.specs.List.{AllByRecursion, slice_get}
use Rattle.model.specs.declared.Card.{Card}
use Rattle.model.specs.declared.Place.{Place}
use Rattle.model.specs.Datasets.{CONT, text, further, Entry}
use Rattle.model.specs.Files.{Placed, GoodPlaced, Lined, all_bytes, at}
use Rattle.model.specs.Cards.{StandsAt, Files}
use Rattle.model.specs.Refusals.{Short, lines_of, byte_at}
use Rattle.model.specs.LineTurns.{spot_of}
use Rattle.kinds.specs.declared.payload.Content.{Content}
use Rattle.kinds.specs.declared.payload.Content.TheVariants as content
use Rattle.kinds.specs.Contents.{StandsFor}
use Rattle.lines.specs.declared.line.Payload.{Payload}
use Rattle.lines.specs.declared.line.Payload.TheVariants as payload
use Rattle.lines.specs.declared.line.Line.{Line}
use Rattle.lines.specs.declared.cursor.Cursor.{Cursor}
use Rattle.lines.specs.Shown.{Shows}

-- these good lines are what stands from a byte on
abbrev pub LinesFrom : List ℕ → ℕ → List Placed → Type 0
LinesFrom file from rest = (drop from file ≡ all_bytes rest) × AllByRecursion GoodPlaced rest

-- where a line of the file begins at the byte, a cursor before it
abbrev pub CursorAt : List ℕ → ℕ → Option Cursor → Type 0
CursorAt file byte r = (ps : List Placed) (i : ℕ) → Lined file ps → i < length ps → byte_at ps i ≡ byte → IsSomeAnd r (λ s. LinesFrom s.file.now s.at (drop i ps))

-- where a line of the file begins at the byte, that line
abbrev pub LineAt : List ℕ → ℕ → Option Line → Type 0
LineAt file byte r = (ps : List Placed) (i : ℕ) → Lined file ps → i < length ps → byte_at ps i ≡ byte → IsSomeAnd r (λ v. Shows v (at (lines_of ps) i))

-- where a line of the file begins at the byte, whether the one behind it continues it
abbrev pub ContinuedAt : List ℕ → ℕ → Bool → Type 0
ContinuedAt file byte r = (ps : List Placed) (i : ℕ) → Lined file ps → i < length ps → byte_at ps i ≡ byte → Decides r ((i + 1 < length ps) × ((at (lines_of ps) (i + 1)).tag ≡ CONT))

-- the first of these lines continues the one before it
abbrev pub BeginsOn : List Placed → Type 0
BeginsOn [] = ⊥
BeginsOn (p ∷ ps) = p.line.tag ≡ CONT

abbrev pub ContinuesNext : List ℕ → ℕ → Bool → Type 0
ContinuesNext file from r = (rest : List Placed) → LinesFrom file from rest → Decides r (BeginsOn rest)

-- and its place
abbrev pub PlaceAt : List ℕ → ℕ → Place → Type 0
PlaceAt file byte r = (ps : List Placed) (i : ℕ) → Short file → Lined file ps → i < length ps → byte_at ps i ≡ byte → r ≡ spot_of ps i

-- where an entry stands from the byte on, this further line of its text
abbrev pub FurtherAt : List ℕ → ℕ → ℕ → Option (Bor (List ℕ)) → Type 0
FurtherAt file byte k r = (ps : List Placed) (e : Entry) → Lined file ps → StandsAt ps byte e → option_map (λ (t : Bor (List ℕ)). t.now) r ≡ slice_get (further e.payload) k

abbrev pub text_in : Payload → List ℕ
text_in payload.None = []
text_in payload.Void = []
text_in (payload.Pointer p) = []
text_in (payload.Text t) = t.now

-- What a card says of its entry

-- the card files e, in the lines of the file
pub record Shown (file : List ℕ) (c : Card) (e : Entry) : Type 0 where
  pub placed : List Placed
  pub lined : Lined file placed
  pub files : Files placed c e

abbrev pub LevelOf : List ℕ → Card → ℕ → Type 0
LevelOf file c r = (ps : List Placed) (e : Entry) → Lined file ps → Files ps c e → r ≡ min 100 e.level

abbrev pub TagOf : List ℕ → Card → List ℕ → Type 0
TagOf file c r = (ps : List Placed) (e : Entry) → Lined file ps → Files ps c e → r ≡ e.tag

abbrev pub IdentifierOf : List ℕ → Card → Option (Bor (List ℕ)) → Type 0
IdentifierOf file c r = (ps : List Placed) (e : Entry) → Lined file ps → Files ps c e → option_map (λ (i : Bor (List ℕ)). i.now) r ≡ e.identifier

-- a text of one empty line is no payload of a dataset
abbrev pub ContentOf : List ℕ → Card → Content → Type 0
ContentOf file c r = (ps : List Placed) (e : Entry) → Lined file ps → Files ps c e → (e.payload ≢ text [] []) → StandsFor r e.payload

abbrev pub ContentAt : List ℕ → ℕ → Content → Type 0
ContentAt file byte r = (ps : List Placed) (e : Entry) → Lined file ps → StandsAt ps byte e → (e.payload ≢ text [] []) → StandsFor r e.payload

abbrev pub content_by : Payload → Bool → Content
content_by payload.None continued = cond continued content.Lines content.Nothing
content_by payload.Void continued = content.Void
content_by (payload.Pointer p) continued = content.Pointer p
content_by (payload.Text t) continued = cond continued content.Lines (content.Line t)

-- b says whether the first of the lines from a byte on continues the payload's
abbrev pub ContentBehind : Payload → List ℕ → ℕ → Content → Type 0
ContentBehind p file from r = (rest : List Placed) → LinesFrom file from rest → (b : Bool) → Decides b (BeginsOn rest) → r ≡ content_by p b
