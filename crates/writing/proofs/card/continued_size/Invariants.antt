use Rattle.std.proofs.Common.{◌≡◌, ℕ, ◌+◌, ◌-◌, ◌≤◌, List, length}
use Rattle.model.specs.Datasets.{continuations, with_line_feeds}
use Rattle.writing.specs.Own.{Trails}
use Rattle.writing.proofs.card.continued_size.Given as goal

abbrev pub invariant-loop-line : goal.invariant-loop-line
invariant-loop-line l =
    (l.cursor.file.now ≡ l.behind.file.now) × (l.behind.at + l.size ≤ l.cursor.at)
    × ((level : ℕ) (texts : List (List ℕ)) → Trails l.behind.file.now l.behind.at level texts → (more : List (List ℕ)) × Trails l.cursor.file.now l.cursor.at level more × (l.size + length (with_line_feeds (continuations level more)) ≡ length (with_line_feeds (continuations level texts))))

abbrev pub decreases-loop-line : goal.decreases-loop-line
decreases-loop-line l = length l.cursor.file.now - l.cursor.at
