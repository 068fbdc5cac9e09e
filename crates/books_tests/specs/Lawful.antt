-- The meaning of the full book is lawful. Assumes nothing.
use Rattle.std.proofs.Common.{refl, le_refl, not-suc-le-zero}
use Rattle.model.specs.Books.{Lawful}
use Rattle.model.proofs.Options.{never}
use Rattle.books_tests.specs.Full.{full}

pub full_lawful : Lawful full
full_lawful = record {
  few = le_refl 1000;
  row_below = λ c tag r e. never r e;
  need_below = λ c j t e. never t e;
  counted = λ c j h. absurd (not-suc-le-zero h);
  uncounted = λ c j h. refl;
  once = λ c i j t e f. never t e;
  required_needed = λ c tag r e q. never r e;
  needed_required = λ c tag r e n. never r e;
  no_row = λ t tag h. refl;
  no_needs = λ t h. refl;
  no_kind = λ t h. refl;
}
