use Rattle.std.proofs.Common.{◌≡◌, List}
use Rattle.model.specs.Files.{Placed, Passes}
use Rattle.filling.proofs.Filed.{Filling}
use Rattle.filling.proofs.fill_short.Given as goal

abbrev pub invariant-loop-found : goal.invariant-loop-found
invariant-loop-found l =
    (goal.iterator-loop-found).can_next l.found-iterator
    × (goal.iterator-loop-found).is_finite l.found-iterator
    × (l.found-iterator.file.now ≡ l.file)
    × ((ps : List Placed) → Passes l.file ps → Filling l.file ps l.initial.drawer l.found-iterator.at l.found-iterator.lines l.count l.drawer)
