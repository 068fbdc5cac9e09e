use Rattle.std.proofs.Common.{◌≡◌, List, take, length}
use Rattle.std.specs.Slice.Iter.{iter_rest}
use Rattle.model.specs.Datasets.{Entry}
use Rattle.model.specs.Positions.{LackOf, Ahead}
use Rattle.judging.specs.Marks.{Marked}
use Rattle.judging.specs.Sets.{bit}
use Rattle.judging.proofs.cards.Cards.first_lacking.Given as goal

abbrev pub invariant-loop-i : goal.invariant-loop-i
invariant-loop-i g l =
    let m = g.B.Book.meaning l.self.book.now in
    let left = iter_rest l.i-iterator.iter.iter in
    (l.i-iterator.iter.count ≡ 0)
    × (left ≡ take (length left) l.self.marks.now)
    × ((b : List Entry) → Marked m b l.self.marks.now → LackOf m b (length left) l.found × Ahead m b 1024 (length left) (bit l.ahead.levels))
