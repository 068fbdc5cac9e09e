-- The index of a drawer's identifiers, and what is found in it. Assumes nothing.
use Rattle.std.specs.Prelude.{◌≡◌, ℕ, ◌<◌, ◌≤◌, Bool, List, map, length, get_or, take, Some, None, Ok, Err, MatchBool, Option, Result, MatchOption, ◌≢◌, slice_index_or}
use Rattle.std.specs.declared.cmp.Ordering.TheVariants.{Less}
use Rattle.std.specs.Borrow.{Bor}
use Rattle.std.specs.Cmp.Lexicographic.{slice_cmp}
use Rattle.std.specs.Option.{option_map}
use Rattle.std.specs.Ordering.{is_lt, nat_cmp, ordering_then}
use Rattle.std.specs.List.Sorted.{IsSortedWithin}
use Rattle.std.specs.List.{AllByRecursion}
use Rattle.model.specs.declared.Card.{Card}
use Rattle.model.specs.declared.State.{State}
use Rattle.model.specs.declared.State.TheVariants.{Filed, Voided, Emptied, Blank}
use Rattle.model.specs.Lines.{Line, Value, nothing, void, pointer}
use Rattle.model.specs.Files.{Placed, Lined, at}
use Rattle.model.specs.Refusals.{lines_of, byte_at, others, apart, aimed, Keeps13, LineKeeps}
use Rattle.model.specs.LineTurns.{Noted, RulesKept}
use Rattle.model.specs.Index.{place_of, card_line, card_spot, CardsNoted, Indexed, LeastRepeat}
use Rattle.model.proofs.Sorting.{Collected}
use Rattle.naming.specs.declared.NameFault.{NameFault}
use Rattle.naming.specs.declared.NameFault.TheVariants.{Repeated, Lost}

-- What a card shows

-- what a card's state leaves of the value of its line
abbrev pub left_by : State → Value → Value
left_by Filed v = v
left_by Voided v = void
left_by Emptied v = nothing
left_by Blank v = v

-- a line of the file begins at the card's byte, and the card shows l of it
pub record CardShows (file : List ℕ) (c : Card) (l : Line) : Type 0 where
  pub placed : List Placed
  pub lined : Lined file placed
  pub place : ℕ
  pub within : place < length placed
  pub begins : byte_at placed place ≡ c.byte
  pub identifier : l.identifier ≡ (at (lines_of placed) place).identifier
  pub value : l.value ≡ left_by c.state (at (lines_of placed) place).value

-- the cards show the lines of ps that continue none, one by one
pub record CardsShow (file : List ℕ) (cards : List Card) (ps : List Placed) : Type 0 where
  pub many : length cards ≡ length (others ps)
  pub each : (k : ℕ) (d : Card) → k < length cards → CardShows file (slice_index_or cards k d) (card_line ps k)

abbrev pub ShowsName : List ℕ → Card → Option (Bor (List ℕ)) → Type 0
ShowsName file c r = (l : Line) → CardShows file c l → option_map (λ (p : Bor (List ℕ)). p.now) r ≡ l.identifier

abbrev pub ShowsPointer : List ℕ → Card → Option (Bor (List ℕ)) → Type 0
ShowsPointer file c r = (l : Line) → CardShows file c l → MatchOption r ((x : List ℕ) → l.value ≢ pointer x) (λ p. l.value ≡ pointer p.now)

-- The index

-- an identifier and the card that has it
abbrev pub Name : Type 0
Name = Bor (List ℕ) × ℕ

abbrev pub ByteLess : List ℕ → List ℕ → Type 0
ByteLess x y = slice_cmp nat_cmp x y ≡ Less

-- by identifier, and by card where that is the same
abbrev pub InOrder : List Name → Type 0
InOrder names = IsSortedWithin (λ x y. is_lt (ordering_then (slice_cmp nat_cmp x.0.now y.0.now) (nat_cmp x.1 y.1))) names 0 (length names)

abbrev pub Names : List Placed → Name → Type 0
Names ps e = (e.1 < length (others ps)) × ((card_line ps e.1).identifier ≡ Some e.0.now)

-- names are the cards with an identifier, in that order
pub record IndexOf (ps : List Placed) (names : List Name) : Type 0 where
  pub order : InOrder names
  pub each : AllByRecursion (Names ps) names
  pub index : Indexed ByteLess ps (map (λ e. e.1) names)

-- they stand at the front of a table, in any order
pub record Collects (file : List ℕ) (cards : List Card) (n : ℕ) (out : List Name) : Type 0 where
  pub within : n ≤ length out
  pub collected : (ps : List Placed) → CardsShow file cards ps → Collected (λ (e : Name). e.0.now) (λ (e : Name). e.1) ps (length (others ps)) (take n out)

pub record Indexes (file : List ℕ) (cards : List Card) (n : ℕ) (out : List Name) : Type 0 where
  pub within : n ≤ length out
  pub index : (ps : List Placed) → CardsShow file cards ps → IndexOf ps (take n out)

abbrev pub LeastName : List Name → ℕ → Option ℕ → Type 0
LeastName names n r = (d : Name) → LeastRepeat (λ a. (get_or names a d).0.now) (λ a. (get_or names a d).1) n r

-- a card that has the identifier, or none if the index is in order and has it nowhere
abbrev pub FindsName : List Name → List ℕ → Option ℕ → Type 0
FindsName names x r = MatchOption r (InOrder names → (a : ℕ) (d : Name) → a < length names → (get_or names a d).0.now ≢ x) (λ k. (a : ℕ) × (a < length names) × ((d : Name) → ((get_or names a d).0.now ≡ x) × ((get_or names a d).1 ≡ k)))

-- the card whose identifier is what the card's pointer names
pub record Target (ps : List Placed) (l : Line) (j : ℕ) (x : List ℕ) : Type 0 where
  pub points : l.value ≡ pointer x
  pub within : j < length (others ps)
  pub named : (card_line ps j).identifier ≡ Some x

abbrev pub TargetOf : List ℕ → Card → List Name → Option ℕ → Type 0
TargetOf file c names r = (ps : List Placed) (l : Line) → CardShows file c l → IndexOf ps names → MatchOption r ((j : ℕ) (x : List ℕ) → Target ps l j x → ⊥) (λ j. (x : List ℕ) × Target ps l j x)

abbrev pub IsLost : List ℕ → Card → List Name → Bool → Type 0
IsLost file c names r = (room : ℕ) (ps : List Placed) (k : ℕ) → CardShows file c (card_line ps k) → IndexOf ps names → RulesKept 11 room ps → MatchBool r (Keeps13 (lines_of ps) (place_of ps k) → ⊥) (Keeps13 (lines_of ps) (place_of ps k))

-- the first card whose pointer names no card
abbrev pub FindsLost : List ℕ → List Card → List Name → Option ℕ → Type 0
FindsLost file cards names r = (room : ℕ) (ps : List Placed) → CardsShow file cards ps → IndexOf ps names → RulesKept 11 room ps → CardsNoted (λ k. Keeps13 (lines_of ps) (place_of ps k)) (length (others ps)) r

-- What the rules 12 and 13 find

abbrev pub NamesFound : ℕ → List Placed → Result ℕ NameFault → List Name → Type 0
NamesFound room ps (Ok n) out = Noted (LineKeeps apart room ps) ps None × Noted (LineKeeps aimed room ps) ps None × IndexOf ps (take n out)
NamesFound room ps (Err (Repeated k)) out = Noted (LineKeeps apart room ps) ps (card_spot ps (Some k))
NamesFound room ps (Err (Lost k)) out = Noted (LineKeeps apart room ps) ps None × Noted (LineKeeps aimed room ps) ps (card_spot ps (Some k))

abbrev pub NamesFit : List ℕ → List Card → List Name → Result ℕ NameFault → List Name → Type 0
NamesFit file cards table r out = (room : ℕ) (ps : List Placed) → CardsShow file cards ps → RulesKept 11 room ps → length cards ≤ length table → NamesFound room ps r out
