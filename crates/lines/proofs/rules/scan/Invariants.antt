use Rattle.std.proofs.Common.{◌≡◌, ◌-◌, length}
use Rattle.lines.proofs.Scanned.{Going}
use Rattle.lines.proofs.rules.scan.Given as goal

abbrev pub invariant-loop-found : goal.invariant-loop-found
invariant-loop-found l = (l.cursor.file.now ≡ l.file) × Going l.file l.cursor.at l.scan

abbrev pub decreases-loop-found : goal.decreases-loop-found
decreases-loop-found l = length l.file - l.cursor.at
