use Rattle.std.proofs.Common.{◌-◌, length}
use Rattle.model.specs.Bytes.{Checked}
use Rattle.characters.proofs.utf8.check.Given as goal

abbrev pub invariant-loop-i : goal.invariant-loop-i
invariant-loop-i l = Checked l.file l.i l.ends l.found

abbrev pub decreases-loop-i : goal.decreases-loop-i
decreases-loop-i l = length l.file - l.i
