use Rattle.reading.proofs.Entering.{filed_by}
use Rattle.reading.proofs.entered.EnteredEntries.tag.Goals as goal

pub returns : goal.returns
returns c b e h = let s = c.args.self.now in c.tag_of.ensures e.1.placed _ e.1.lined (filed_by s.file.now s.cards.now s.names.now b e c.args.i h c.card.result c.card.ensures)
