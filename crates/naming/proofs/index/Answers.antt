use Rattle.naming.proofs.Indexing.{index_front}
use Rattle.naming.proofs.index.Goals as goal

pub returns : goal.returns
returns c = index_front c.args.file.now c.args.cards.now c.collect-count.result c.collect-count.new.table c.sort_unstable.new.self _ c.collect-count.ensures c.sort_unstable.ensures.permutation c.sort_unstable.ensures.sorted
