use Rattle.std.proofs.Common.{Err, refl, ap, ◌∙◌}
use Rattle.std.proofs.lemmas.Result.{err_from_is_err_and}
use Rattle.model.specs.declared.Call.TheVariants.{Remove}
use Rattle.calls.specs.Answers.{event, result_reply}
use Rattle.calls.proofs.performing.remove_call.Goals as goal

pub returns-in_err-remove : goal.returns-in_err-remove
returns-in_err-remove g c buffer =
    let p = err_from_is_err_and c.from_residual.result c.from_residual.ensures.1 in
    c.in_err-remove.ensures.removes (event (Remove c.args.card) buffer c.from_residual.result buffer) (ap result_reply (p.1 ∙ ap Err p.2)) refl
