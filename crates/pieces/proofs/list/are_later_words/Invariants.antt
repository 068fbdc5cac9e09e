use Rattle.std.proofs.Common.{◌≡◌, length}
use Rattle.model.specs.Kinds.{cut}
use Rattle.model.specs.Grammar.{later_pass}
use Rattle.pieces.proofs.list.are_later_words.Given as goal

abbrev pub invariant-loop-piece : goal.invariant-loop-piece
invariant-loop-piece g l = later_pass ((g.B.Book.meaning l.book).member l.set) (cut 44 l.text) ≡ later_pass ((g.B.Book.meaning l.book).member l.set) (cut 44 l.fn.text)

abbrev pub decreases-loop-piece : goal.decreases-loop-piece
decreases-loop-piece g l = length l.text
