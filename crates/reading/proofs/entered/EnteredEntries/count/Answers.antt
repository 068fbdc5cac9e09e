use Rattle.std.proofs.Common.{arith}
use Rattle.reading.proofs.Entering.{counted}
use Rattle.reading.proofs.entered.EnteredEntries.count.Goals as goal

pub returns : goal.returns
returns c b e = let s = c.args.self.now in let n = counted s.file.now s.cards.now s.names.now b e in let r = c.saturating_sub.ensures in omega arith
