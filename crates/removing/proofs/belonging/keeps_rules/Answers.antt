use Rattle.std.proofs.Common.{refl}
use Rattle.model.specs.Datasets.{entries}
use Rattle.model.specs.Edits.{body}
use Rattle.reading.proofs.Reading.{judgeable}
use Rattle.removing.proofs.Telling.{found_none}
use Rattle.removing.proofs.belonging.keeps_rules.Goals as goal

pub returns : goal.returns
returns g c d e = found_none (g.B.Book.meaning c.args.book.now) d e.entering.is c.judge.result (c.judge.ensures (body (entries d)) (d, e.entering, refl) (judgeable d e.entering.is e.few)) c.is_ok.result c.is_ok.ensures.value
