use Rattle.judging.proofs.Bits.{bit_clear}
use Rattle.judging.proofs.sets.Sets.new.Goals as goal

pub returns : goal.returns
returns c = bit_clear
