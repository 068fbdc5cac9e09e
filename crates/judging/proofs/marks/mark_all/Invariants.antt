use Rattle.std.proofs.Common.{◌≡◌, ℕ, ◌<◌, List, length, get_or}
use Rattle.model.specs.Datasets.{Entry}
use Rattle.model.specs.Positions.{Contexts}
use Rattle.judging.specs.Entries.{Judgeable}
use Rattle.judging.specs.Marks.{MarkedTo, Small, no_mark}
use Rattle.judging.proofs.marks.mark_all.Given as goal

abbrev pub invariant-loop-i : goal.invariant-loop-i
invariant-loop-i g l = (length l.contexts ≡ 65) × ((j : ℕ) → j < l.i → Small (get_or l.marks j no_mark)) × ((b : List Entry) → g.E.Entries.shows l.entries b → Judgeable b → length b ≡ length l.marks → Contexts (g.B.Book.meaning l.book) b l.i l.contexts × MarkedTo (g.B.Book.meaning l.book) b l.marks l.i)
