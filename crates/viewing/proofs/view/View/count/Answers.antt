use Rattle.viewing.proofs.Named.{front_count}
use Rattle.viewing.proofs.view.View.count.Goals as goal

pub returns : goal.returns
returns c d h = front_count c.args.self.now.file.now c.args.self.now.drawer.now d h c.count_named.result c.count_named.ensures
