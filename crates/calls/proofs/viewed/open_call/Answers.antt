use Rattle.std.proofs.Common.{Ok, refl}
use Rattle.std.proofs.lemmas.Result.{err_from_is_err_and}
use Rattle.model.specs.declared.Call.TheVariants.{Open}
use Rattle.calls.specs.declared.answer.Answer.TheVariants.{Opened}
use Rattle.calls.proofs.Granting.{view_denied, view_granted}
use Rattle.calls.proofs.viewed.open_call.Goals as goal

pub returns-in_err-open : goal.returns-in_err-open
returns-in_err-open c m buffer =
    let p = err_from_is_err_and c.from_residual.result c.from_residual.ensures.1 in
    (view_denied m c.args.file.now c.args.drawer.now Open buffer c.in_err-open.field-0.0 c.from_residual.result p.0 p.1 p.2 c.in_err-open.ensures, refl)

pub returns : goal.returns
returns c m buffer = (view_granted m c.args.file.now c.args.drawer.now Open buffer (Ok Opened) buffer c.in_ok-open.ensures.2 (λ d h. refl), refl)
