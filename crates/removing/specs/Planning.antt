-- What a removal is to do, or why it is refused. Assumes nothing.
use Rattle.std.specs.Prelude.{◌≡◌, ℕ, ◌+◌, ◌<◌, ◌≤◌, ◌⊎◌, List, Ok, Err, Result, ◌≢◌}
use Rattle.model.specs.declared.Card.{Card}
use Rattle.model.specs.declared.Edit.{Edit}
use Rattle.model.specs.declared.Edit.TheVariants.{Withheld}
use Rattle.model.specs.declared.Refusal.{Refusal}
use Rattle.model.specs.declared.Refusal.TheVariants as refusal
use Rattle.model.specs.Books.{Meaning}
use Rattle.model.specs.Datasets.{Dataset}
use Rattle.model.specs.Rules.{Belongs}
use Rattle.model.specs.Cards.{Holds}
use Rattle.model.specs.Calls.{Unheld}
use Rattle.model.specs.Removal.{card_count}
use Rattle.model.specs.Edits.{edit}

-- card k is neither the first, nor the last, nor past them
pub record Inner (d : Dataset) (k : ℕ) : Type 0 where
  pub low : 1 ≤ k
  pub high : k + 1 < card_count d

-- the edit that the removal of card k from d is
pub record Planned (m : Meaning) (d : Dataset) (k : ℕ) (x : Edit) : Type 0 where
  pub belongs : Belongs m d
  pub inner : Inner d k
  pub is : edit m d k ≡ x

-- or the first reason for which there is none
abbrev pub PlansFor : Meaning → Dataset → ℕ → Result Edit Refusal → Type 0
PlansFor m d k (Ok x) = Planned m d k x × (x ≢ Withheld)
PlansFor m d k (Err refusal.Unheld) = ⊥
PlansFor m d k (Err refusal.Foreign) = Belongs m d → ⊥
PlansFor m d k (Err refusal.Fixed) = Belongs m d × (Inner d k → ⊥)
PlansFor m d k (Err refusal.Held) = Planned m d k Withheld
PlansFor m d k (Err refusal.Past) = ⊥
PlansFor m d k (Err refusal.Oversized) = ⊥
PlansFor m d k (Err refusal.Cramped) = ⊥

-- the same of the dataset that a drawer holds, if it holds one
abbrev pub Plans : Meaning → List ℕ → List Card → ℕ → Result Edit Refusal → Type 0
Plans m file cards k r = ((d : Dataset) × Holds file cards d × PlansFor m d k r) ⊎ ((r ≡ Err refusal.Unheld) × Unheld file cards)
