-- The edit of a removal in range stays inside the entries. Assumes nothing.
use Rattle.std.proofs.Common.{◌≡◌, ℕ, ◌+◌, ◌<◌, ◌≤◌, refl, arith}
use Rattle.model.specs.declared.Edit.{Edit}
use Rattle.model.specs.declared.Edit.TheVariants.{Withheld, Deleted, Cleared}
use Rattle.model.specs.Books.{Meaning}
use Rattle.model.specs.Datasets.{Dataset}
use Rattle.model.specs.Removal.{card_count}
use Rattle.model.specs.Edits.{edit}
use Rattle.model.proofs.Edits.{deleted_reach, cleared_reach}
use Rattle.editing.specs.Showing.{Inside}

pub edit_inside : (m : Meaning) (d : Dataset) (k : ℕ) → 1 ≤ k → k + 1 < card_count d → Inside (edit m d k) (card_count d)
edit_inside m d k low high = go (edit m d k) refl
  where
    go : (x : Edit) → edit m d k ≡ x → Inside x (card_count d)
    go Withheld is = tt
    go (Deleted from to) is = let r = deleted_reach m d k low high from to is in (omega arith, omega arith)
    go (Cleared place to) is = let r = cleared_reach m d k low high place to is in (omega arith, omega arith)
