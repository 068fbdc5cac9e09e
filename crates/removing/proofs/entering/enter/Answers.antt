use Rattle.std.proofs.Common.{refl}
use Rattle.removing.proofs.Held.{entered}
use Rattle.removing.proofs.entering.enter.Goals as goal

pub returns-in_err-kept : goal.returns-in_err-kept
returns-in_err-kept c room = rw c.from_residual.ensures (c.in_err-kept.ensures room)

pub returns : goal.returns
returns c room = entered c.args.file.now c.args.drawer.now c.in_ok-kept.kept c.held.new.table _ c.in_ok-kept.ensures refl refl refl
