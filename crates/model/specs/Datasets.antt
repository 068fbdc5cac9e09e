-- What a dataset is, the lines that it has, and its written form. Assumes nothing.
use Rattle.std.specs.Prelude.{◌≡◌, ℕ, ◌+◌, ◌<◌, ◌≤◌, ◌⊎◌, List, [], ◌∷◌, ◌++◌, length, Some, None, codes, Option}
use Rattle.std.specs.List.{ContainsAt as Has, AllByRecursion}
use Rattle.model.specs.Lines.{Line, Value, GoodLine, line_of, spell}
use Rattle.model.specs.Lines as line

-- nothing, a text of one or more lines, void, or a pointer to a record
pub data Payload : Type 0 where
  none : Payload
  text : (first : List ℕ) (more : List (List ℕ)) → Payload
  void : Payload
  pointer : (identifier : List ℕ) → Payload

-- structures in a row, each with a tag, a payload and substructures
pub data Structures : Type 0 where
  end : Structures
  next : (tag : List ℕ) (payload : Payload) (subs : Structures) (rest : Structures) → Structures

-- a structure at the top, which may have an identifier
pub record Record : Type 0 where
  pub identifier : Option (List ℕ)
  pub tag : List ℕ
  pub payload : Payload
  pub subs : Structures

-- the header is tagged HEAD and has no payload; the trailer is no structure
pub record Dataset : Type 0 where
  pub header : Structures
  pub records : List Record

-- the header's tag
abbrev pub HEAD : List ℕ
HEAD = codes "HEAD"

-- the trailer's tag
abbrev pub TRLR : List ℕ
TRLR = codes "TRLR"

-- the tag of a line that continues a text
abbrev pub CONT : List ℕ
CONT = codes "CONT"

-- a tag that no line may have
abbrev pub CONC : List ℕ
CONC = codes "CONC"

-- the header and the records: what stands at the top
abbrev pub tops : Dataset → List Record
tops d = record { identifier = None; tag = HEAD; payload = none; subs = d.header } ∷ d.records

-- A dataset's cards: its structures and its trailer, in the order of their lines.

-- what a card shows: a level, an identifier if there is one, a tag and a payload
pub record Entry : Type 0 where
  pub level : ℕ
  pub identifier : Option (List ℕ)
  pub tag : List ℕ
  pub payload : Payload

-- the entry with these parts
abbrev pub entry : ℕ → Option (List ℕ) → List ℕ → Payload → Entry
entry level i tag p = record { level = level; identifier = i; tag = tag; payload = p }

-- those of a row of structures at a level, each followed by those below it
abbrev pub entries_at : ℕ → Structures → List Entry
entries_at level end = []
entries_at level (next tag p subs rest) = entry level None tag p ∷ entries_at (level + 1) subs ++ entries_at level rest

-- those of records
abbrev pub entries_of : List Record → List Entry
entries_of [] = []
entries_of (r ∷ rs) = entry 0 r.identifier r.tag r.payload ∷ entries_at 1 r.subs ++ entries_of rs

-- the header's, the records', and the trailer's
abbrev pub entries : Dataset → List Entry
entries d = entries_of (tops d) ++ entry 0 None TRLR none ∷ []

-- The lines: that of each card, then one for each further line of its text.

-- an empty line of a text has no value
abbrev pub text_value : List ℕ → Value
text_value [] = line.nothing
text_value (c ∷ cs) = line.text (c ∷ cs)

-- what stands on the first line of a payload
abbrev pub first_value : Payload → Value
first_value none = line.nothing
first_value (text t more) = text_value t
first_value void = line.void
first_value (pointer i) = line.pointer i

-- the lines of a text behind its first
abbrev pub further : Payload → List (List ℕ)
further none = []
further (text t more) = more
further void = []
further (pointer i) = []

-- a CONT line for each
abbrev pub continuations : ℕ → List (List ℕ) → List Line
continuations level [] = []
continuations level (t ∷ ts) = line_of level None CONT (text_value t) ∷ continuations level ts

-- an entry's own line, and its continuations one level deeper
abbrev pub entry_lines : Entry → List Line
entry_lines e = line_of e.level e.identifier e.tag (first_value e.payload) ∷ continuations (e.level + 1) (further e.payload)

-- those of entries in a row
abbrev pub all_lines : List Entry → List Line
all_lines [] = []
all_lines (e ∷ es) = entry_lines e ++ all_lines es

-- those of a dataset
abbrev pub lines : Dataset → List Line
lines d = all_lines (entries d)

-- What makes it a dataset.

-- the identifiers that stand on entries
abbrev pub identifiers : List Entry → List (List ℕ)
identifiers [] = []
identifiers (e ∷ es) = elim e.identifier [ None ↦ identifiers es | Some i ↦ i ∷ identifiers es ]

-- no two of them are equal
abbrev pub Apart : List (List ℕ) → Type 0
Apart [] = Unit {0}
Apart (i ∷ is) = (Has is i → ⊥) × Apart is

-- a pointer names a record, and a text is not one empty line
abbrev pub GoodPayload : List (List ℕ) → Payload → Type 0
GoodPayload is none = Unit {0}
GoodPayload is (text t more) = (0 < length t) ⊎ (0 < length more)
GoodPayload is void = Unit {0}
GoodPayload is (pointer i) = Has is i

-- a structure is not tagged as a line that goes on with another
pub record OwnTag (e : Entry) : Type 0 where
  pub no_continuation : e.tag ≡ CONT → ⊥
  pub no_joint : e.tag ≡ CONC → ⊥

-- a record is tagged neither as the header nor as the trailer
pub record RecordTag (r : Record) : Type 0 where
  pub no_header : r.tag ≡ HEAD → ⊥
  pub no_trailer : r.tag ≡ TRLR → ⊥

-- its lines are good lines at most 63 deep, its tags are its own, its identifiers are apart, and its pointers name its records
pub record IsDataset (d : Dataset) : Type 0 where
  pub spelled : AllByRecursion GoodLine (lines d)
  pub shallow : AllByRecursion (λ l. l.level ≤ 63) (lines d)
  pub tagged : AllByRecursion OwnTag (entries d)
  pub records_tagged : AllByRecursion RecordTag d.records
  pub apart : Apart (identifiers (entries d))
  pub payloads : AllByRecursion (λ e. GoodPayload (identifiers (entries d)) e.payload) (entries d)

-- The written form.

-- the byte-order mark, U+FEFF
abbrev pub MARK : List ℕ
MARK = 0xEF ∷ 0xBB ∷ 0xBF ∷ []

-- each line, ended by LF
abbrev pub with_line_feeds : List Line → List ℕ
with_line_feeds [] = []
with_line_feeds (l ∷ ls) = spell l ++ 10 ∷ with_line_feeds ls

-- the mark, and the lines of the dataset
abbrev pub written : Dataset → List ℕ
written d = MARK ++ with_line_feeds (lines d)
