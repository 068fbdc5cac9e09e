-- What a reading answers, and what its parts find. Assumes nothing.
use Rattle.std.specs.Prelude.{◌≡◌, ℕ, ◌<◌, ◌≤◌, List, length, None, Ok, Err, Result, slice_index_or}
use Rattle.model.specs.declared.Card.{Card}
use Rattle.model.specs.declared.Place.{Place}
use Rattle.model.specs.Books.{Meaning}
use Rattle.model.specs.Rules.{Belongs}
use Rattle.model.specs.Files.{Placed, Lined, Passes}
use Rattle.model.specs.Refusals.{Short, Refuses, byte_at, Keeps11}
use Rattle.model.specs.LineTurns.{spot_of, Noted}
use Rattle.model.specs.Calls.{Accepted, Declined}
use Rattle.model.specs.Runs.{number, unread}
use Rattle.model.proofs.Answering.{Read}
use Rattle.naming.specs.declared.NameFault.{NameFault}
use Rattle.naming.specs.declared.NameFault.TheVariants as name
use Rattle.filling.specs.Filling.{cards_of, Filled}
use Rattle.model.specs.Datasets.{Dataset, entries}
use Rattle.model.specs.Edits.{body}
use Rattle.model.specs.Positions.{FindsNone, Told}
use Rattle.judging.specs.Findings.{rule_number, missing_type}
use Rattle.judging.specs.declared.finding.Finding.{Finding}
use Rattle.judging.specs.declared.finding.Rule.{Rule}
use Rattle.judging.specs.declared.finding.Rule.TheVariants.{Known, Taken, Aimed, Single, Needed, Filled as Unfilled}
use Rattle.reading.specs.Entered.{Entering}
use Rattle.reading.specs.declared.entered.Entered.{Entered}
use Rattle.reading.specs.Faults.{read_fault}
use Rattle.reading.specs.declared.fault.ReadFault.{ReadFault}
use Rattle.reading.specs.declared.fault.ReadFault.TheVariants.{Repeated, Lost, Unknown, Untaken, Misaimed, Second, Missing, Bare}

-- the place of the line of card k
abbrev pub PlacedAt : List ℕ → List Card → ℕ → Place → Type 0
PlacedAt file cards k r = (ps : List Placed) (i : ℕ) (c : Card) → Short file → Lined file ps → k < length cards → i < length ps → byte_at ps i ≡ (slice_index_or cards k c).byte → r ≡ spot_of ps i

-- the fault of each rule of the identifiers, told at the card's line
abbrev pub TellsNames : List ℕ → List Card → NameFault → ReadFault → Type 0
TellsNames file cards (name.Repeated k) r = (p : Place) × (r ≡ Repeated p) × PlacedAt file cards k p
TellsNames file cards (name.Lost k) r = (p : Place) × (r ≡ Lost p) × PlacedAt file cards k p

-- the fault of each rule of a book
abbrev pub fault_by : Rule → Place → ReadFault
fault_by Known at = Unknown at
fault_by Taken at = Untaken at
fault_by Aimed at = Misaimed at
fault_by Single at = Second at
fault_by (Needed t) at = Missing at t
fault_by Unfilled at = Bare at

-- and that of what the judge of a book finds, told at the card's line
abbrev pub TellsBook : List ℕ → List Card → Finding → ReadFault → Type 0
TellsBook file cards f r = (p : Place) × (r ≡ fault_by f.rule p) × PlacedAt file cards f.card p

-- f tells the lowest rule that an entry breaks, at the place of the first that does
pub record FoundBy (m : Meaning) (s : Entered) (d : Dataset) (f : ReadFault) : Type 0 where
  pub finding : Finding
  pub at : Place
  pub told : Told m (body (entries d)) (rule_number finding.rule) finding.card (missing_type finding.rule)
  pub is : f ≡ fault_by finding.rule at
  pub placed : PlacedAt s.file.now s.cards.now finding.card at

-- the entered cards keep the rules of the book, or the fault tells the first that does not
abbrev pub JudgesNamed : Meaning → Entered → Result (Unit {0}) ReadFault → Type 0
JudgesNamed m s (Ok u) = (d : Dataset) → Entering s.file.now s.cards.now s.names.now d → length (entries d) ≤ 65535 → FindsNone m (body (entries d))
JudgesNamed m s (Err f) = (d : Dataset) → Entering s.file.now s.cards.now s.names.now d → length (entries d) ≤ 65535 → FoundBy m s d f

-- the cards of the file's lines, for which there is room, keep the rules of the identifiers and of the book; or the fault is the one that the rules name
abbrev pub Judges : Meaning → List ℕ → List Card → Result (Unit {0}) ReadFault → Type 0
Judges m file cards (Ok u) = (ps : List Placed) (room : ℕ) → Passes file ps → cards ≡ cards_of ps → Noted (Keeps11 room ps) ps None → (r : Read file room ps) × Belongs m r.dataset
Judges m file cards (Err f) = (ps : List Placed) (room : ℕ) → Passes file ps → cards ≡ cards_of ps → Noted (Keeps11 room ps) ps None → Refuses m file room (read_fault f)

-- the cards are filed, and their dataset belongs to the book
pub record Filed (m : Meaning) (file : List ℕ) (room n : ℕ) (out : List Card) : Type 0 where
  pub placed : List Placed
  pub read : Read file room placed
  pub belongs : Belongs m read.dataset
  pub filled : Filled room n out placed

abbrev pub Fits : Meaning → List ℕ → ℕ → Result ℕ ReadFault → List Card → Type 0
Fits m file room (Ok n) out = Filed m file room n out
Fits m file room (Err f) out = Refuses m file room (read_fault f)

-- granted where a dataset of the book has the file's lines within the limits, and the drawer then holds that one; else the one fault that the rules name, and every card is blank
abbrev pub Reads : Meaning → List ℕ → List Card → Result ℕ ReadFault → List Card → Type 0
Reads m file cards (Ok n) out = Accepted m file cards (number n) out
Reads m file cards (Err f) out = Declined m file cards (unread (read_fault f)) out
