use Rattle.std.proofs.Common.{◌≡◌, length}
use Rattle.model.specs.Kinds.{right_trimmed}
use Rattle.pieces.proofs.list.right_trimmed.Given as goal

abbrev pub invariant-loop-text : goal.invariant-loop-text
invariant-loop-text l = right_trimmed l.text ≡ right_trimmed l.fn.text

abbrev pub decreases-loop-text : goal.decreases-loop-text
decreases-loop-text l = length l.text
