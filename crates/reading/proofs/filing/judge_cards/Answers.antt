use Rattle.std.proofs.Common.{refl, rules}
use Rattle.std.proofs.lemmas.Result.{err_from_is_err_and}
use Rattle.reading.proofs.Reading.{names_told, names_judged}
use Rattle.reading.proofs.filing.judge_cards.Goals as goal

pub returns-in_err-count : goal.returns-in_err-count
returns-in_err-count g c few =
    let p = err_from_is_err_and c.from_residual.result c.from_residual.ensures.1 in
    rw (p.1, p.2) (names_told (g.B.Book.meaning c.args.book.now) c.args.file.now c.args.cards.now c.check_names.new.table few c.check_names.result c.check_names.ensures.names c.in_err-count.field-0.0 (search rules))

pub returns : goal.returns
returns g c few = names_judged (g.B.Book.meaning c.args.book.now) c.args.file.now c.args.cards.now c.check_names.new.table few c.check_names.result c.in_ok-count.count c.check_names.ensures.names c.in_ok-count.ensures.cases _ refl refl refl c.judge_named.result c.judge_named.ensures
