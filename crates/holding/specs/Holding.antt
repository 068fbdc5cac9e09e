-- What a drawer that holds a dataset of a file is told to hold. Assumes nothing.
use Rattle.std.specs.Prelude.{◌≡◌, ℕ, ◌≤◌, List, length, take, drop, Some, None, Option}
use Rattle.std.specs.Borrow.{Bor}
use Rattle.model.specs.declared.Card.{Card}
use Rattle.model.specs.Datasets.{Dataset, lines}
use Rattle.model.specs.Files.{Placed, Passes}
use Rattle.model.specs.Cards.{Blanks, Holds}
use Rattle.model.specs.Refusals.{lines_of}
use Rattle.model.specs.Removal.{card_count}
use Rattle.naming.specs.Naming.{Name, IndexOf}
use Rattle.holding.specs.Standing.{NamedFront, OnLines, Fits}
use Rattle.holding.specs.declared.telling.Kept.{Kept}

-- the first n cards name lines of the file and fit, and the others are blank
pub record Front (file : List ℕ) (cards : List Card) (n : ℕ) : Type 0 where
  pub named : NamedFront cards n
  pub few : n ≤ 65535
  pub rest_blank : Blanks (drop n cards)
  pub placed : List Placed
  pub passes : Passes file placed
  pub lines : OnLines placed (take n cards)
  pub fits : Fits placed (take n cards)

-- those cards, or none where the drawer holds no dataset
abbrev pub Fronts : List ℕ → List Card → Option (Bor (List Card)) → Type 0
Fronts file cards None = (d : Dataset) → Holds file cards d → ⊥
Fronts file cards (Some front) = (n : ℕ) × Front file cards n × (front.now ≡ take n cards)

-- the drawer holds this dataset by its first cards, as many as it has, and the index of their identifiers stands at the front
-- of the table
pub record HeldAs (file : List ℕ) (cards : List Card) (h : Kept) (table : List Name) : Type 0 where
  pub dataset : Dataset
  pub holds : Holds file cards dataset
  pub cards_are : h.cards.now ≡ take (card_count dataset) cards
  pub counted : length h.cards.now ≡ card_count dataset
  pub placed : List Placed
  pub lines_are : lines_of placed ≡ lines dataset
  pub within : h.names ≤ length table
  pub index : IndexOf placed (take h.names table)

-- none where the drawer holds no dataset; the table has to be as long as a drawer may hold cards
abbrev pub Tells : List ℕ → List Card → ℕ → Option Kept → List Name → Type 0
Tells file cards room None out = 65535 ≤ room → (d : Dataset) → Holds file cards d → ⊥
Tells file cards room (Some h) out = HeldAs file cards h out
