use Rattle.std.proofs.Common.{◌≡◌, length}
use Rattle.model.specs.Kinds.{left_trimmed}
use Rattle.pieces.proofs.list.left_trimmed.Given as goal

abbrev pub invariant-loop-text : goal.invariant-loop-text
invariant-loop-text l = left_trimmed l.text ≡ left_trimmed l.fn.text

abbrev pub decreases-loop-text : goal.decreases-loop-text
decreases-loop-text l = length l.text
