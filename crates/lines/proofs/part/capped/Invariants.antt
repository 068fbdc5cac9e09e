use Rattle.std.proofs.Common.{◌≡◌, min, take}
use Rattle.model.specs.Scan.{number_of}
use Rattle.lines.proofs.part.capped.Given as goal

abbrev pub invariant-loop-d : goal.invariant-loop-d
invariant-loop-d l = l.n ≡ min 100 (number_of (take l.d-index l.digits))
