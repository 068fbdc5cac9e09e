use Rattle.std.proofs.Common.{sym, subst}
use Rattle.model.specs.Calls.{PerformsEvent}
use Rattle.calls.specs.Answers.{event}
use Rattle.calls.proofs.performing.perform.Goals as goal

pub returns-in-Read : goal.returns-in-Read
returns-in-Read g c = record { performs = subst (λ k. PerformsEvent (g.B.Book.meaning c.args.book.now) c.args.file.now c.args.drawer.now (event k c.args.buffer.now c.read_call.result c.args.buffer.now) c.read_call.new.drawer) (sym c.in-Read.is) (c.read_call.ensures c.args.buffer.now); promised = c.promises_stand.ensures }

pub returns-in-Remove : goal.returns-in-Remove
returns-in-Remove g c = record { performs = subst (λ k. PerformsEvent (g.B.Book.meaning c.args.book.now) c.args.file.now c.args.drawer.now (event k c.args.buffer.now c.remove_call.result c.args.buffer.now) c.remove_call.new.drawer) (sym c.in-Remove.is) (c.remove_call.ensures c.args.buffer.now); promised = c.promises_stand.ensures }

pub returns-in-Open : goal.returns-in-Open
returns-in-Open g c = record { performs = subst (λ k. PerformsEvent (g.B.Book.meaning c.args.book.now) c.args.file.now c.args.drawer.now (event k c.args.buffer.now c.open_call.result c.args.buffer.now) c.args.drawer.now) (sym c.in-Open.is) (c.open_call.ensures (g.B.Book.meaning c.args.book.now) c.args.buffer.now); promised = c.promises_stand.ensures }

pub returns-in-Count : goal.returns-in-Count
returns-in-Count g c = record { performs = subst (λ k. PerformsEvent (g.B.Book.meaning c.args.book.now) c.args.file.now c.args.drawer.now (event k c.args.buffer.now c.count_call.result c.args.buffer.now) c.args.drawer.now) (sym c.in-Count.is) (c.count_call.ensures (g.B.Book.meaning c.args.book.now) c.args.buffer.now); promised = c.promises_stand.ensures }

pub returns-in-Look : goal.returns-in-Look
returns-in-Look g c = record { performs = subst (λ k. PerformsEvent (g.B.Book.meaning c.args.book.now) c.args.file.now c.args.drawer.now (event k c.args.buffer.now c.look_call.result c.args.buffer.now) c.args.drawer.now) (sym c.in-Look.is) (c.look_call.ensures (g.B.Book.meaning c.args.book.now) c.args.buffer.now); promised = c.promises_stand.ensures }

pub returns-in-More : goal.returns-in-More
returns-in-More g c = record { performs = subst (λ k. PerformsEvent (g.B.Book.meaning c.args.book.now) c.args.file.now c.args.drawer.now (event k c.args.buffer.now c.more_call.result c.args.buffer.now) c.args.drawer.now) (sym c.in-More.is) (c.more_call.ensures (g.B.Book.meaning c.args.book.now) c.args.buffer.now); promised = c.promises_stand.ensures }

pub returns-in-Size : goal.returns-in-Size
returns-in-Size g c = record { performs = subst (λ k. PerformsEvent (g.B.Book.meaning c.args.book.now) c.args.file.now c.args.drawer.now (event k c.args.buffer.now c.size_call.result c.args.buffer.now) c.args.drawer.now) (sym c.in-Size.is) (c.size_call.ensures (g.B.Book.meaning c.args.book.now) c.args.buffer.now); promised = c.promises_stand.ensures }

pub returns-in-Write : goal.returns-in-Write
returns-in-Write g c = record { performs = subst (λ k. PerformsEvent (g.B.Book.meaning c.args.book.now) c.args.file.now c.args.drawer.now (event k c.args.buffer.now c.write_call.result c.write_call.new.buffer) c.args.drawer.now) (sym c.in-Write.is) (c.write_call.ensures (g.B.Book.meaning c.args.book.now)); promised = c.promises_stand.ensures }
