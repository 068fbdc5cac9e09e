use Rattle.std.proofs.Common.{◌≡◌, length}
use Rattle.model.specs.Kinds.{cut}
use Rattle.model.specs.Grammar.{ends_well}
use Rattle.pieces.proofs.list.last_piece.Given as goal

abbrev pub invariant-loop-behind : goal.invariant-loop-behind
invariant-loop-behind l = ends_well (cut 44 l.text) ≡ ends_well (cut 44 l.fn.text)

abbrev pub decreases-loop-behind : goal.decreases-loop-behind
decreases-loop-behind l = length l.text
