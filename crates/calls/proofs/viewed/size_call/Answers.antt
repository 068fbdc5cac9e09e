use Rattle.std.proofs.Common.{refl}
use Rattle.std.proofs.lemmas.Result.{err_from_is_err_and}
use Rattle.model.specs.declared.Call.TheVariants.{Size}
use Rattle.calls.proofs.Granting.{view_denied}
use Rattle.calls.proofs.viewed.size_call.Goals as goal

pub returns-in_err-view : goal.returns-in_err-view
returns-in_err-view c m buffer =
    let p = err_from_is_err_and c.from_residual.result c.from_residual.ensures.1 in
    (view_denied m c.args.file.now c.args.drawer.now Size buffer c.in_err-view.field-0.0 c.from_residual.result p.0 p.1 p.2 c.in_err-view.ensures, refl)
