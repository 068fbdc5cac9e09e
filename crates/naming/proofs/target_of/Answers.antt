use Rattle.naming.proofs.Indexing.{target_by}
use Rattle.naming.proofs.target_of.Goals as goal

pub returns-in_err-pointer_of : goal.returns-in_err-pointer_of
returns-in_err-pointer_of c ps l s i = rw c.from_residual.ensures (λ j x t. c.in_err-pointer_of.ensures l s x t.points)

pub returns : goal.returns
returns c = target_by c.args.file.now c.args.card c.args.names.now c.in_ok-pointer_of.field-0.now c.find.result c.in_ok-pointer_of.ensures c.find.ensures
