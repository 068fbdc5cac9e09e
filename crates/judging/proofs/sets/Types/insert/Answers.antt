use Rattle.std.proofs.Common.{◌%◌, ◌^◌, ◌*◌, arith}
use Rattle.std.proofs.lemmas.Nat.{one_shl}
use Rattle.judging.proofs.Bits.{type_joins}
use Rattle.judging.proofs.sets.Types.insert.Goals as goal

pub returns : goal.returns
returns c u lt = type_joins c.args.self.now.words c.args.typed u (1 * 2 ^ (c.args.typed % 64) % 2 ^ 64) (omega arith) (one_shl (c.args.typed % 64) 64 (omega arith))
