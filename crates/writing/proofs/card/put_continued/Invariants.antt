use Rattle.std.proofs.Common.{◌≡◌, ℕ, ◌-◌, List, ◌++◌, length}
use Rattle.model.specs.Datasets.{continuations, with_line_feeds}
use Rattle.writing.specs.Written.{Adds}
use Rattle.writing.specs.Own.{Trails}
use Rattle.writing.proofs.card.put_continued.Given as goal

abbrev pub invariant-loop-line : goal.invariant-loop-line
invariant-loop-line l =
    (level : ℕ) (texts : List (List ℕ)) → Trails l.behind.file.now l.behind.at level texts → (more : List (List ℕ)) × Trails l.cursor.file.now l.cursor.at level more
    × ((done : List ℕ) × (done ++ with_line_feeds (continuations level more) ≡ with_line_feeds (continuations level texts)) × Adds l.initial.buffer l.at done l.end l.buffer)

abbrev pub decreases-loop-line : goal.decreases-loop-line
decreases-loop-line l = length l.cursor.file.now - l.cursor.at
