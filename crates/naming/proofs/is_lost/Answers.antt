use Rattle.std.proofs.Common.{rules}
use Rattle.naming.proofs.Indexing.{lost_by}
use Rattle.naming.proofs.is_lost.Goals as goal

pub returns : goal.returns
returns c = lost_by c.args.file.now c.args.card c.args.names.now c.pointer_of.result c.is_some_and.result c.pointer_of.ensures (search rules)
