-- Whether the dataset that a drawer holds belongs to a book. Assumes nothing.
use Rattle.std.specs.Prelude.{ℕ, Bool, List, Some, None, Decides, Option}
use Rattle.model.specs.declared.Card.{Card}
use Rattle.model.specs.Books.{Meaning}
use Rattle.model.specs.Datasets.{Dataset}
use Rattle.model.specs.Rules.{Belongs}
use Rattle.model.specs.Cards.{Holds}
use Rattle.model.specs.Calls.{Unheld}

-- the drawer holds a dataset of the file, and b says whether that belongs to the book
pub record HeldTells (m : Meaning) (file : List ℕ) (cards : List Card) (b : Bool) : Type 0 where
  pub held : (d : Dataset) × Holds file cards d
  pub belongs : (d : Dataset) → Holds file cards d → Decides b (Belongs m d)

-- none where the drawer holds no dataset of the file
abbrev pub Tells : Meaning → List ℕ → List Card → Option Bool → Type 0
Tells m file cards None = Unheld file cards
Tells m file cards (Some b) = HeldTells m file cards b
