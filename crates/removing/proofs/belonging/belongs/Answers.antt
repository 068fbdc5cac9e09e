use Rattle.std.proofs.Common.{arith}
use Rattle.removing.proofs.Telling.{told_held}
use Rattle.removing.proofs.belonging.belongs.Goals as goal

pub returns : goal.returns
returns g c =
    let o = c.in_ok-entered.ensures (omega arith) in
    record { tells = told_held (g.B.Book.meaning c.args.book.now) c.args.file.now c.args.drawer.now o.dataset o.holds c.keeps_rules.result (c.keeps_rules.ensures o.dataset o.entered) }
