use Rattle.std.proofs.Common.{◌≡◌, ℕ, ◌<◌, List, length}
use Rattle.model.specs.Files.{Placed, Lined}
use Rattle.model.specs.Refusals.{byte_at}
use Rattle.looking.proofs.Placing.{Seeking}
use Rattle.looking.proofs.shown.place_in.Given as goal

abbrev pub invariant-loop-found : goal.invariant-loop-found
invariant-loop-found l =
    (goal.iterator-loop-found).can_next l.found-iterator
    × (goal.iterator-loop-found).is_finite l.found-iterator
    × (l.found-iterator.file.now ≡ l.file)
    × ((ps : List Placed) (i : ℕ) → Lined l.file ps → i < length ps → byte_at ps i ≡ l.byte → Seeking l.file ps i l.found-iterator.at l.found-iterator.lines)
