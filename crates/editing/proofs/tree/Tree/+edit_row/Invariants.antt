use Rattle.std.proofs.Common.{◌≡◌, ◌-◌, List}
use Rattle.model.specs.Datasets.{Entry}
use Rattle.editing.specs.Rows.{edit_from}
use Rattle.editing.proofs.tree.Tree.+edit_row.Given as goal

-- a level is a byte
abbrev pub decreases-edit_row : goal.decreases-edit_row
decreases-edit_row g l = 256 - l.siblings.level

abbrev pub invariant-loop-at : goal.invariant-loop-at
invariant-loop-at g l =
    let m = g.B.Book.meaning l.self.book.now in
    (b : List Entry) → g.E.Entries.shows l.self.entries.now b → edit_from m b l.siblings l.start l.card ≡ edit_from m b l.siblings l.at l.card

abbrev pub decreases-loop-at : goal.decreases-loop-at
decreases-loop-at g l = l.count - l.at
