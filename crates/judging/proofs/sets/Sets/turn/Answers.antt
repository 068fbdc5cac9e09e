use Rattle.std.proofs.Common.{arith}
use Rattle.judging.proofs.Bits.{bit_turned}
use Rattle.judging.proofs.sets.Sets.turn.Goals as goal

pub returns : goal.returns
returns c k u low lt = bit_turned c.args.self.now.levels c.args.level c.args.typed k u _ (omega arith) lt (c.insert.ensures u lt)
