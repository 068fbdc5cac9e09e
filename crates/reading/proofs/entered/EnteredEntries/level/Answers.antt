use Rattle.std.proofs.Common.{arith}
use Rattle.reading.proofs.Entering.{filed_by, shallow}
use Rattle.reading.proofs.entered.EnteredEntries.level.Goals as goal

pub returns : goal.returns
returns c b e h =
    let s = c.args.self.now in
    let low = shallow s.file.now s.cards.now s.names.now b e c.args.i h in
    let is = c.level_of.ensures e.1.placed _ e.1.lined (filed_by s.file.now s.cards.now s.names.now b e c.args.i h c.card.result c.card.ensures) in
    omega arith
