-- Any removal, granted or not. Assumes nothing.
use Rattle.std.proofs.Common.{◌≡◌, ◌+◌, Bool, true, false, cond, ◌||◌, eqb, leb, Some, None, Option, refl}
use Rattle.model.specs.Datasets.{Dataset, IsDataset}
use Rattle.model.specs.Rules.{Belongs}
use Rattle.model.specs.Removal.{removed, card_count}
use Rattle.model.specs.Laws.{AfterKept}
use Rattle.model.proofs.Cuts.{all_cuts}
use Rattle.model.proofs.Keeping.{cut_belongs}
use Rattle.model.proofs.Shaping.{cut_dataset}

pub after_kept : AfterKept
after_kept m law d k is b = go (eqb k 0 || leb (card_count d) (k + 1)) (removed m d k) refl
  where
    go : (out : Bool) (o : Option Dataset) → removed m d k ≡ o → let e : Dataset = cond out d (elim o as (λ _. Dataset) [ None ↦ d | Some e ↦ e ]) in IsDataset e × Belongs m e
    go true o done = (is, b)
    go false None done = (is, b)
    go false (Some e) done = (cut_dataset m d is (all_cuts m d e k done), cut_belongs m law d b (all_cuts m d e k done))
