-- The dataset that a drawer holds, by its entered cards. Assumes nothing.
use Rattle.std.specs.Prelude.{ℕ, ◌≤◌, List, Some, None, Option}
use Rattle.model.specs.declared.Card.{Card}
use Rattle.model.specs.Datasets.{Dataset}
use Rattle.model.specs.Cards.{Holds}
use Rattle.model.specs.Calls.{Unheld}
use Rattle.model.specs.Removal.{card_count}
use Rattle.reading.specs.Entered.{Entering}
use Rattle.reading.specs.declared.entered.Entered.{Entered}

-- the entered cards file d, and are no more than a drawer may hold
pub record EnteredAs (s : Entered) (d : Dataset) : Type 0 where
  pub entering : Entering s.file.now s.cards.now s.names.now d
  pub few : card_count d ≤ 65535

-- the drawer holds this dataset, and the entered cards file it
pub record EnteredFrom (file : List ℕ) (cards : List Card) (s : Entered) : Type 0 where
  pub dataset : Dataset
  pub holds : Holds file cards dataset
  pub entered : EnteredAs s dataset

-- none where the drawer holds no dataset of the file
abbrev pub Enters : List ℕ → List Card → Option Entered → Type 0
Enters file cards None = Unheld file cards
Enters file cards (Some s) = EnteredFrom file cards s
