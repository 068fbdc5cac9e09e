use Rattle.std.proofs.Common.{List}
use Rattle.model.specs.Files.{Placed, Passes}
use Rattle.holding.specs.Standing.{OnLines}
use Rattle.holding.proofs.Fitted.{Fitting}
use Rattle.holding.proofs.fitting.fits.Given as goal

abbrev pub invariant-loop-card : goal.invariant-loop-card
invariant-loop-card l = (ps : List Placed) → Passes l.file ps → OnLines ps l.cards → Fitting ps l.cards l.card-index l.before
