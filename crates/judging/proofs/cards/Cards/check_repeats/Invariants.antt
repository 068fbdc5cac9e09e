use Rattle.std.proofs.Common.{List, None}
use Rattle.model.specs.Datasets.{Entry}
use Rattle.model.specs.Refusals.{single}
use Rattle.model.specs.Positions.{FirstOf, KeepsAt, Seen}
use Rattle.judging.specs.Marks.{Marked}
use Rattle.judging.specs.Sets.{bit}
use Rattle.judging.proofs.cards.Cards.check_repeats.Given as goal

abbrev pub invariant-loop-i : goal.invariant-loop-i
invariant-loop-i g l =
    let m = g.B.Book.meaning l.self.book.now in
    (b : List Entry) → Marked m b l.self.marks.now → FirstOf (KeepsAt m b single) l.i None × Seen m b 1024 l.i (bit l.seen.levels)
