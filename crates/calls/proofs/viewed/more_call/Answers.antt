use Rattle.std.proofs.Common.{Some, Ok, Err, sym, refl, ap, ◌∙◌}
use Rattle.std.proofs.lemmas.Result.{err_from_is_err_and}
use Rattle.model.specs.declared.Call.TheVariants.{More}
use Rattle.calls.specs.Answers.{result_reply}
use Rattle.calls.specs.declared.answer.Answer.TheVariants.{Line}
use Rattle.calls.proofs.Granting.{view_denied, view_holds, view_granted}
use Rattle.calls.proofs.viewed.more_call.Goals as goal

pub returns-in_err-view : goal.returns-in_err-view
returns-in_err-view c m buffer =
    let p = err_from_is_err_and c.from_residual.result c.from_residual.ensures.1 in
    (view_denied m c.args.file.now c.args.drawer.now (More c.args.card c.args.number) buffer c.in_err-view.field-0.0 c.from_residual.result p.0 p.1 p.2 c.in_err-view.ensures, refl)

pub returns-in_err-more : goal.returns-in_err-more
returns-in_err-more c m buffer =
    let p = err_from_is_err_and c.from_residual-in_err-more.result c.from_residual-in_err-more.ensures.1 in (
      view_granted m c.args.file.now c.args.drawer.now (More c.args.card c.args.number) buffer c.from_residual-in_err-more.result buffer c.in_ok-view.ensures.2
          (λ d h. ap Some (sym (c.in_err-more.ensures d (view_holds c.args.file.now c.args.drawer.now c.in_ok-view.view d c.in_ok-view.ensures h))) ∙ ap (λ a. Some (result_reply a)) (sym (p.1 ∙ ap Err p.2))),
      refl,
    )

pub returns : goal.returns
returns c m buffer = (
  view_granted m c.args.file.now c.args.drawer.now (More c.args.card c.args.number) buffer (Ok (Line c.in_ok-more.field-0)) buffer c.in_ok-view.ensures.2
      (λ d h. ap Some (sym (c.in_ok-more.ensures d (view_holds c.args.file.now c.args.drawer.now c.in_ok-view.view d c.in_ok-view.ensures h)))),
  refl,
)
