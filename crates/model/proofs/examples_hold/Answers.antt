use Rattle.model.proofs.Examples.{worked, removals}
use Rattle.model.proofs.examples_hold.Goals as goal

pub returns : goal.returns
returns c = record { worked = worked; removals = removals }
