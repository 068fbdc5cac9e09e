use Rattle.model.proofs.Keeping.{belongs_kept}
use Rattle.model.proofs.Shaping.{dataset_kept}
use Rattle.model.proofs.After.{after_kept}
use Rattle.model.proofs.removal_keeps_rules.Goals as goal

pub returns : goal.returns
returns c = record { belongs = belongs_kept; dataset = dataset_kept; after = after_kept }
