-- The promises over whole runs. Assumes nothing.
use Rattle.std.specs.Prelude.{◌≡◌, ℕ, ◌+◌, ◌<◌, ◌≤◌, ◌⊎◌, List, [], ◌∷◌, ◌++◌, map, length, take, Some, None, ◌≢◌}
use Rattle.std.specs.List.{AllByRecursion}
use Rattle.model.specs.declared.Card.{Card}
use Rattle.model.specs.declared.Call.{Call}
use Rattle.model.specs.declared.Call.TheVariants.{Read, Remove, Open, Count, Look, More, Size, Write}
use Rattle.model.specs.Datasets.{Dataset, Record, IsDataset, lines, written}
use Rattle.model.specs.Books.{Meaning, Lawful}
use Rattle.model.specs.Files.{Placed, Lined, HasLines}
use Rattle.model.specs.Rules.{Belongs}
use Rattle.model.specs.Cards.{Holds, Blanks}
use Rattle.model.specs.Removal.{removed, settled, card_count}
use Rattle.model.specs.Runs.{Plain, PlainStep, Reply, refused, unread, number, opened, seen, line, reply, ReadsAs, after_removal}
use Rattle.model.specs.Refusals.{Refuses}
use Rattle.model.specs.declared.Fault.{Fault}
use Rattle.model.specs.Calls.{Event, buffer_after, PerformsEvent}

-- what one call does, as the contract of the call that performs any of them says it
abbrev pub Performing : Type 1
Performing = Meaning → List ℕ → List Card → Event → List Card → Type 0

-- the calls of the events come one after the other
abbrev pub Chain : Performing → Meaning → List ℕ → List Card → List Event → List Card → Type 0
Chain P m file cards [] out = out ≡ cards
Chain P m file cards (e ∷ es) out = (mid : List Card) × P m file cards e mid × Chain P m file mid es out

-- a reading answers the count of what it gave the plain run, or the fault that the list of refusals names
abbrev pub ReadAnswered : Meaning → List ℕ → ℕ → Plain → Reply → Type 0
ReadAnswered m file room None answer = (f : Fault) × (answer ≡ unread f) × Refuses m file room f × ((g : Fault) → Refuses m file room g → g ≡ f)
ReadAnswered m file room (Some d) answer = (answer ≡ number (card_count d)) × ((g : Fault) → Refuses m file room g → ⊥)

-- every other call answers of the dataset that it met
abbrev pub Answered : Meaning → List ℕ → ℕ → Plain → Plain → Event → Type 0
Answered m file room s t e = (e.call ≡ Read → ReadAnswered m file room t e.answer) × ((r : Reply) → reply m s (length e.buffer) e.call ≡ Some r → e.answer ≡ r) × (e.left ≡ buffer_after s e.call e.buffer)

-- the plain run from s over the events
abbrev pub Runs : Meaning → List ℕ → ℕ → Plain → List Event → Plain → Type 0
Runs m file room s [] t = t ≡ s
Runs m file room s (e ∷ es) t = (mid : Plain) × PlainStep m file room e.call s mid × Answered m file room s mid e × Runs m file room mid es t

-- the drawer shows the state of the plain run
abbrev pub Shows : List ℕ → List Card → Plain → Type 0
Shows file cards None = Blanks cards
Shows file cards (Some d) = Holds file cards d

-- A reading accepts exactly when a dataset of the book has the file's lines within the limits. Then no other dataset has them, and the drawer holds that one.
abbrev pub ReadsExactly : Performing → Meaning → Type 0
ReadsExactly P m =
    (file : List ℕ) (cards out : List Card) (e : Event) → e.call ≡ Read → P m file cards e out →
    ((d : Dataset) × ReadsAs m file (length cards) d × (e.answer ≡ number (card_count d)) × ((x : Dataset) → IsDataset x → HasLines file x → x ≡ d) × Holds file out d)
    ⊎ (((d : Dataset) → ReadsAs m file (length cards) d → ⊥) × ((f : Fault) × (e.answer ≡ unread f)) × Blanks out)

-- what is written of d is read back as d, by any drawer with enough cards
abbrev pub ReadsBack : Performing → Meaning → Dataset → Type 0
ReadsBack P m d =
    (cards out : List Card) (e : Event) →
    e.call ≡ Read → length (written d) ≤ 16777216 → card_count d ≤ length cards → P m (written d) cards e out →
    (e.answer ≡ number (card_count d)) × Holds (written d) out d

-- From any reading on, a drawer holds the plain run's dataset, each call is answered of it, and what is written reads back. A run's beginnings are runs too, so this holds all the while.
abbrev pub Faithful : Performing → Meaning → Type 0
Faithful P m =
    (file : List ℕ) (cards out : List Card) (first : Event) (es : List Event) →
    first.call ≡ Read → Chain P m file cards (first ∷ es) out →
    (s : Plain) × Runs m file (length cards) None (first ∷ es) s × Shows file out s × ((d : Dataset) → s ≡ Some d → Belongs m d × ReadsBack P m d)

-- two datasets that are equal but for one record
pub record Twins (d e : Dataset) : Type 0 where
  pub header : d.header ≡ e.header
  pub before : List Record
  pub after : List Record
  pub one : Record
  pub other : Record
  pub left : d.records ≡ before ++ one ∷ after
  pub right : e.records ≡ before ++ other ∷ after

-- the removal of card k takes the one record out
abbrev pub TakesOut : Meaning → Dataset → ℕ → List Record → Record → List Record → Type 0
TakesOut m d k before r after = removed m d k ≡ Some (settled d.header (before ++ after, r.identifier))

-- what makes calls alike: the call with its card and number, and the length of the buffer
abbrev pub alike : List Event → List (Call × ℕ)
alike es = map (λ e. (e.call, length e.buffer)) es

-- what the calls answered
abbrev pub answers : List Event → List Reply
answers es = map (λ e. e.answer) es

-- no call of them is a reading
abbrev pub NoReading : List Event → Type 0
NoReading es = AllByRecursion (λ e. e.call ≢ Read) es

-- what a granted write put at the front of its buffer
abbrev pub written_by : Reply → List ℕ → List ℕ
written_by (refused n) b = []
written_by (unread f) b = []
written_by (number n) b = take n b
written_by opened b = []
written_by (seen x) b = []
written_by (line l) b = []

-- what a call put into its buffer
abbrev pub put : Event → List ℕ
put e = elim e.call [ Read ↦ [] | Remove k ↦ [] | Open ↦ [] | Count ↦ [] | Look k ↦ [] | More k j ↦ [] | Size ↦ [] | Write ↦ written_by e.answer e.left ]

-- what the buffers held before the calls
abbrev pub buffers : List Event → List (List ℕ)
buffers es = map (λ e. e.buffer) es

-- what they held after
abbrev pub lefts : List Event → List (List ℕ)
lefts es = map (λ e. e.left) es

-- one drawer, read once and accepted, whose first granted removal takes the one record out; then come the later calls
pub record Side (P : Performing) (m : Meaning) (file : List ℕ) (d : Dataset) (before : List Record) (r : Record) (after : List Record) (later : List Event) : Type 0 where
  pub drawer : List Card
  pub out : List Card
  pub first : Event
  pub quiet : List Event
  pub removal : Event
  pub card : ℕ
  pub reading : first.call ≡ Read
  pub accepted : ReadsAs m file (length drawer) d
  pub once : NoReading quiet
  pub none_granted : AllByRecursion (λ e. (k n : ℕ) → e.call ≡ Remove k → e.answer ≢ number n) quiet
  pub removing : removal.call ≡ Remove card
  pub granted : (n : ℕ) × (removal.answer ≡ number n)
  pub took : TakesOut m d card before r after
  pub no_more : NoReading later
  pub chain : Chain P m file drawer (first ∷ quiet ++ removal ∷ later) out

-- What was removed leaves no trace: later calls answer alike and write the same bytes, and leave equal buffers equal.
abbrev pub NoTrace : Performing → Meaning → Type 0
NoTrace P m =
    (file₁ file₂ : List ℕ) (d₁ d₂ : Dataset) (t : Twins d₁ d₂) (later₁ later₂ : List Event) →
    Side P m file₁ d₁ t.before t.one t.after later₁ →
    Side P m file₂ d₂ t.before t.other t.after later₂ →
    alike later₁ ≡ alike later₂ →
    (answers later₁ ≡ answers later₂) × (map put later₁ ≡ map put later₂) × (buffers later₁ ≡ buffers later₂ → lefts later₁ ≡ lefts later₂)

-- The three promises together, for every book that keeps the laws.
abbrev pub Promised : Performing → Type 0
Promised P = (m : Meaning) → Lawful m → ReadsExactly P m × Faithful P m × NoTrace P m

-- What the promises rest on.

-- a file has at most one list of lines
abbrev pub LinedOnce : Type 0
LinedOnce = (file : List ℕ) (ps qs : List Placed) → Lined file ps → Lined file qs → ps ≡ qs

-- two datasets with the same lines are equal
abbrev pub SameLinesOnce : Type 0
SameLinesOnce = (d e : Dataset) → IsDataset d → IsDataset e → lines d ≡ lines e → d ≡ e

-- no file has the lines of two datasets
abbrev pub LinesOnce : Type 0
LinesOnce = (file : List ℕ) (d e : Dataset) → IsDataset d → IsDataset e → HasLines file d → HasLines file e → d ≡ e

-- no drawer holds two datasets of one file
abbrev pub HeldOnce : Type 0
HeldOnce = (file : List ℕ) (cards : List Card) (d e : Dataset) → Holds file cards d → Holds file cards e → d ≡ e

-- a file gets at most one refusal
abbrev pub RefusedOnce : Type 0
RefusedOnce = (m : Meaning) (file : List ℕ) (room : ℕ) (f g : Fault) → Refuses m file room f → Refuses m file room g → f ≡ g

-- what is written of a dataset has its lines
abbrev pub WrittenHasLines : Type 0
WrittenHasLines = (d : Dataset) → IsDataset d → HasLines (written d) d

-- a removal from what belongs to the book leaves what belongs to it
abbrev pub BelongsKept : Type 0
BelongsKept = (m : Meaning) → Lawful m → (d e : Dataset) (k : ℕ) → IsDataset d → Belongs m d → 1 ≤ k → k + 1 < card_count d → removed m d k ≡ Some e → Belongs m e

-- and it leaves a dataset
abbrev pub DatasetKept : Type 0
DatasetKept = (m : Meaning) → Lawful m → (d e : Dataset) (k : ℕ) → IsDataset d → Belongs m d → 1 ≤ k → k + 1 < card_count d → removed m d k ≡ Some e → IsDataset e

-- so it is after any removal, granted or refused
abbrev pub AfterKept : Type 0
AfterKept = (m : Meaning) → Lawful m → (d : Dataset) (k : ℕ) → IsDataset d → Belongs m d → IsDataset (after_removal m d k) × Belongs m (after_removal m d k)

-- there is a lawful book, with files, drawers and calls that meet every premise of the last promise
abbrev pub PremisesMet : Type 0
PremisesMet =
    (m : Meaning) × Lawful m × ((file₁ file₂ : List ℕ) × (d₁ d₂ : Dataset) × (t : Twins d₁ d₂) × (later : List Event)
    × Side PerformsEvent m file₁ d₁ t.before t.one t.after later × Side PerformsEvent m file₂ d₂ t.before t.other t.after later)
