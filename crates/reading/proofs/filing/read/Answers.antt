use Rattle.std.proofs.Common.{◌≡◌, ℕ, true, false, List, length, is_err, Ok, Err, Result, sym, refl}
use Rattle.std.proofs.lemmas.Bool.{both_ways}
use Rattle.model.specs.declared.Card.{Card}
use Rattle.model.specs.Books.{Meaning}
use Rattle.filling.specs.Filling.{BlankFrom}
use Rattle.filling.proofs.Filed.{all_blank}
use Rattle.reading.specs.declared.fault.ReadFault.{ReadFault}
use Rattle.reading.specs.Read.{Fits, Reads}
use Rattle.reading.proofs.Reading.{granted, denied}
use Rattle.reading.proofs.filing.read.Goals as goal

refusing : (m : Meaning) (file : List ℕ) (cards mid out : List Card) (r : Result ℕ ReadFault) → is_err r ≡ true → Fits m file (length cards) r mid → BlankFrom 0 mid out → Reads m file cards r out
refusing m file cards mid out (Ok n) e f b = absurd (both_ways false refl e)
refusing m file cards mid out (Err x) e f b = denied m file cards out x f (all_blank mid out b)

granting : (m : Meaning) (file : List ℕ) (cards out : List Card) (r : Result ℕ ReadFault) → is_err r ≡ false → Fits m file (length cards) r out → Reads m file cards r out
granting m file cards out (Ok n) e f = granted m file cards out n f
granting m file cards out (Err x) e f = absurd (both_ways true e refl)

pub returns-then-is_err-clause-reads : goal.returns-then-is_err-clause-reads
returns-then-is_err-clause-reads g c = refusing (g.B.Book.meaning c.args.book.now) c.args.file.now c.args.drawer.now c.fill_and_judge-answer.new.drawer c.blank_from.new.drawer c.fill_and_judge-answer.result (sym c.if-is_err.ensures.value) c.fill_and_judge-answer.ensures c.blank_from.ensures

pub returns-else-is_err-clause-reads : goal.returns-else-is_err-clause-reads
returns-else-is_err-clause-reads g c = granting (g.B.Book.meaning c.args.book.now) c.args.file.now c.args.drawer.now c.fill_and_judge-answer.new.drawer c.fill_and_judge-answer.result (sym c.if-is_err.ensures.value) c.fill_and_judge-answer.ensures
