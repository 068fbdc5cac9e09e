use Rattle.std.proofs.Common.{◌≡◌, ◌-◌, List, length}
use Rattle.model.specs.Files.{Placed, Lined}
use Rattle.holding.proofs.Merging.{Merging, Behind}
use Rattle.holding.proofs.standing.on_lines.Given as goal

abbrev pub invariant-loop-found : goal.invariant-loop-found
invariant-loop-found l =
    (goal.iterator-loop-found).can_next l.found-iterator
    × (goal.iterator-loop-found).is_finite l.found-iterator
    × (l.found-iterator.file.now ≡ l.file)
    × Behind l.cards l.rest
    × ((ps : List Placed) → Lined l.file ps → Merging l.file ps l.cards l.found-iterator.at (length l.cards - length l.rest))
