use Rattle.std.proofs.Common.{refl, rules}
use Rattle.model.specs.Datasets.{entries}
use Rattle.model.specs.Edits.{body}
use Rattle.reading.proofs.Reading.{judgeable, named_judged}
use Rattle.reading.proofs.filing.judge_named.Goals as goal

pub returns : goal.returns
returns g c = named_judged (g.B.Book.meaning c.args.book.now) c.args.entered c.judge.result c.map_err.result (λ d e few. c.judge.ensures (body (entries d)) (d, e, refl) (judgeable d e.is few)) c.map_err.ensures.cases (λ f x k. search rules)
