use Rattle.reading.proofs.Entering.{targets}
use Rattle.reading.proofs.entered.EnteredEntries.target.Goals as goal

pub returns-in-Pointer : goal.returns-in-Pointer
returns-in-Pointer c b e h =
    let s = c.args.self.now in
    targets s.file.now s.cards.now s.names.now b e c.args.i h c.in-Pointer.pointer c.find.result (c.in-Pointer.ensures b e h) c.find.ensures
