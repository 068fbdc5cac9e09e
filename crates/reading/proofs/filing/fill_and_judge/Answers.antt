use Rattle.std.proofs.Common.{length, rules}
use Rattle.std.proofs.lemmas.Result.{err_from_is_err_and}
use Rattle.reading.proofs.Reading.{fill_granted, fill_refused, filled_judged, refused_judged, fits_few}
use Rattle.reading.proofs.filing.fill_and_judge.Goals as goal

pub returns-in_err-check : goal.returns-in_err-check
returns-in_err-check g c = let p = err_from_is_err_and c.from_residual.result c.from_residual.ensures.1 in rw (p.1, p.2) (c.in_err-check.ensures (g.B.Book.meaning c.args.book.now) (length c.args.drawer.now))

pub returns-in_err-count : goal.returns-in_err-count
returns-in_err-count g c =
    let p = err_from_is_err_and c.from_residual-in_err-count.result c.from_residual-in_err-count.ensures.1 in
    let counted = c.in_ok-check.ensures in
    rw (p.1, p.2) (fill_refused c.args.file.now (length c.args.drawer.now) c.fill.new.drawer (g.B.Book.meaning c.args.book.now) c.fill.result c.in_err-count.field-0.0 (search rules) c.fill.ensures counted.placed counted.passes)

pub returns-in_err-judge_cards : goal.returns-in_err-judge_cards
returns-in_err-judge_cards g c =
    let p = err_from_is_err_and c.from_residual-in_err-judge_cards.result c.from_residual-in_err-judge_cards.ensures.1 in
    let counted = c.in_ok-check.ensures in
    let filled = fill_granted c.args.file.now (length c.args.drawer.now) c.fill.new.drawer c.fill.result c.in_ok-count.count c.in_ok-count.ensures.cases c.fill.ensures counted.placed counted.passes in
    rw (p.1, p.2) (refused_judged (g.B.Book.meaning c.args.book.now) c.args.file.now (length c.args.drawer.now) c.in_ok-count.count c.fill.new.drawer counted.placed counted.passes filled c.min-filled.result c.min-filled.ensures c.in_err-judge_cards.field-0.0 (c.in_err-judge_cards.ensures (fits_few (g.B.Book.meaning c.args.book.now) c.args.file.now (length c.args.drawer.now) c.in_ok-count.count c.fill.new.drawer counted.placed counted.passes filled c.min-filled.result c.min-filled.ensures)))

pub returns : goal.returns
returns g c =
    let counted = c.in_ok-check.ensures in
    let filled = fill_granted c.args.file.now (length c.args.drawer.now) c.fill.new.drawer c.fill.result c.in_ok-count.count c.in_ok-count.ensures.cases c.fill.ensures counted.placed counted.passes in
    filled_judged (g.B.Book.meaning c.args.book.now) c.args.file.now (length c.args.drawer.now) c.in_ok-count.count c.fill.new.drawer counted.placed counted.passes filled c.min-filled.result c.min-filled.ensures tt (c.in_ok-judge_cards.ensures (fits_few (g.B.Book.meaning c.args.book.now) c.args.file.now (length c.args.drawer.now) c.in_ok-count.count c.fill.new.drawer counted.placed counted.passes filled c.min-filled.result c.min-filled.ensures))
