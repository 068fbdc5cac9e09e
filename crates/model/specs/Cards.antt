-- What a drawer holds. Assumes nothing.
use Rattle.std.specs.Prelude.{◌≡◌, ℕ, ◌<◌, ◌≤◌, List, [], ◌∷◌, ◌++◌, map, length, ◌≢◌}
use Rattle.std.specs.List.{AllByRecursion}
use Rattle.model.specs.declared.Card.{Card}
use Rattle.model.specs.declared.State.{State}
use Rattle.model.specs.declared.State.TheVariants.{Filed, Voided, Emptied, Blank}
use Rattle.model.specs.Datasets.{CONT, Payload, none, text, void, pointer, Entry, entry, entries, entry_lines, Dataset, IsDataset}
use Rattle.model.specs.Files.{Placed, Passes}

-- the number of each state
abbrev pub state_number : State → ℕ
state_number Filed = 0
state_number Voided = 1
state_number Emptied = 2
state_number Blank = 3

-- a card that names no line
abbrev pub blank : Card
blank = record { byte = 0; state = Blank }

-- all of them are blank
abbrev pub Blanks : List Card → Type 0
Blanks cards = AllByRecursion (λ c. c ≡ blank) cards

-- a pointer or void
abbrev pub Points : Payload → Type 0
Points none = ⊥
Points (text t more) = ⊥
Points void = Unit {0}
Points (pointer i) = Unit {0}

-- what the state leaves of a payload
abbrev pub after : State → Payload → Payload
after Filed p = p
after Voided p = void
after Emptied p = none
after Blank p = p

-- on which payloads a state may stand
abbrev pub Allowed : State → Payload → Type 0
Allowed Filed p = Unit {0}
Allowed Voided p = Points p
Allowed Emptied p = Points p → ⊥
Allowed Blank p = ⊥

-- e stands in the file's lines, from the byte b: its own line and its continuations, and no more of them follow
pub record StandsAt (ps : List Placed) (b : ℕ) (e : Entry) : Type 0 where
  pub before : List Placed
  pub own : List Placed
  pub rest : List Placed
  pub are : ps ≡ before ++ own ++ rest
  pub reads : map (λ p. p.line) own ≡ entry_lines e
  pub begins : (p : Placed) (more : List Placed) → own ≡ p ∷ more → p.byte ≡ b
  pub whole : (p : Placed) (more : List Placed) → rest ≡ p ∷ more → p.line.tag ≢ CONT
  pub no_continuation : e.tag ≡ CONT → ⊥

-- a card that names a line, and what it says of its structure
pub record Files (ps : List Placed) (c : Card) (e : Entry) : Type 0 where
  pub filed : Payload
  pub stands : StandsAt ps c.byte (entry e.level e.identifier e.tag filed)
  pub allowed : Allowed c.state filed
  pub shows : e.payload ≡ after c.state filed

-- the cards, in rising order, file the entries one by one
abbrev pub FilesAll : List Placed → List Card → List Entry → Type 0
FilesAll ps [] [] = Unit {0}
FilesAll ps [] (e ∷ es) = ⊥
FilesAll ps (c ∷ cs) [] = ⊥
FilesAll ps (c ∷ cs) (e ∷ es) = Files ps c e × FilesAll ps cs es

-- each begins behind the one before
abbrev pub Rising : List Card → Type 0
Rising [] = Unit {0}
Rising (c ∷ []) = Unit {0}
Rising (c ∷ d ∷ cs) = (c.byte < d.byte) × Rising (d ∷ cs)

-- the cards before the first blank file the entries of d, which is a dataset; the file passes the rules 1 to 10
pub record Holds (file : List ℕ) (cards : List Card) (d : Dataset) : Type 0 where
  pub placed : List Placed
  pub passes : Passes file placed
  pub named : List Card
  pub blanks : List Card
  pub are : cards ≡ named ++ blanks
  pub few : length named ≤ 65535
  pub rest_blank : Blanks blanks
  pub rising : Rising named
  pub files : FilesAll placed named (entries d)
  pub is : IsDataset d
