use Rattle.std.proofs.Common.{arith}
use Rattle.filling.proofs.fill.Goals as goal

pub returns-then-file-gt-LIMIT : goal.returns-then-file-gt-LIMIT
returns-then-file-gt-LIMIT c ps p = let short = p.short in absurd (omega arith)
