use Rattle.std.proofs.Common.{◌∙◌}
use Rattle.std.proofs.lemmas.Result.{err_from_is_err_and}
use Rattle.removing.proofs.Removed.{answers_refused, refused_plan, done_plan}
use Rattle.removing.proofs.removal.remove.Goals as goal

pub returns-in_err-edit : goal.returns-in_err-edit
returns-in_err-edit g c = record {
  removes = λ e says same_buffer.
      let p = err_from_is_err_and c.from_residual.result c.from_residual.ensures.1 in
      refused_plan (g.B.Book.meaning c.args.book.now) c.args.file.now c.args.drawer.now c.args.card e same_buffer c.in_err-edit.field-0.0 c.in_err-edit.ensures (says ∙ answers_refused c.from_residual.result c.in_err-edit.field-0.0 p.0 p.1 p.2);
}

pub returns : goal.returns
returns g c = record {
  removes = λ e says same_buffer.
      done_plan (g.B.Book.meaning c.args.book.now) c.args.file.now c.args.drawer.now c.args.card e same_buffer c.in_ok-edit.edit c.apply.result c.apply.new.cards c.in_ok-edit.ensures c.apply.ensures.cards c.apply.ensures.gone says;
}
