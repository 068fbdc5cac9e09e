use Rattle.model.proofs.Deciding.{refuses_once}
use Rattle.model.proofs.refusals_are_unique.Goals as goal

pub returns : goal.returns
returns c = refuses_once
