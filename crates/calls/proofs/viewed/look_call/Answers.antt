use Rattle.std.proofs.Common.{Some, Ok, Err, sym, refl, ap, ◌∙◌}
use Rattle.std.proofs.lemmas.Result.{err_from_is_err_and}
use Rattle.model.specs.declared.Call.TheVariants.{Look}
use Rattle.calls.specs.Answers.{result_reply}
use Rattle.calls.specs.declared.answer.Answer.TheVariants.{Seen}
use Rattle.calls.proofs.Granting.{view_denied, view_holds, view_granted}
use Rattle.calls.proofs.viewed.look_call.Goals as goal

pub returns-in_err-view : goal.returns-in_err-view
returns-in_err-view c m buffer =
    let p = err_from_is_err_and c.from_residual.result c.from_residual.ensures.1 in
    (view_denied m c.args.file.now c.args.drawer.now (Look c.args.card) buffer c.in_err-view.field-0.0 c.from_residual.result p.0 p.1 p.2 c.in_err-view.ensures, refl)

pub returns-in_err-look : goal.returns-in_err-look
returns-in_err-look c m buffer =
    let p = err_from_is_err_and c.from_residual-in_err-look.result c.from_residual-in_err-look.ensures.1 in (
      view_granted m c.args.file.now c.args.drawer.now (Look c.args.card) buffer c.from_residual-in_err-look.result buffer c.in_ok-view.ensures.2
          (λ d h. ap Some (sym (c.in_err-look.ensures d (view_holds c.args.file.now c.args.drawer.now c.in_ok-view.view d c.in_ok-view.ensures h))) ∙ ap (λ a. Some (result_reply a)) (sym (p.1 ∙ ap Err p.2))),
      refl,
    )

pub returns : goal.returns
returns c m buffer = (
  view_granted m c.args.file.now c.args.drawer.now (Look c.args.card) buffer (Ok (Seen c.in_ok-look.field-0)) buffer c.in_ok-view.ensures.2
      (λ d h. ap Some (sym (c.in_ok-look.ensures d (view_holds c.args.file.now c.args.drawer.now c.in_ok-view.view d c.in_ok-view.ensures h)))),
  refl,
)
