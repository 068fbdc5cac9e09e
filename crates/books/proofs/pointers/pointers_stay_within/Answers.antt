use Rattle.books.proofs.Aiming.{home_aims}
use Rattle.books.proofs.pointers.pointers_stay_within.Goals as goal

pub returns-clause-of_home : goal.returns-clause-of_home
returns-clause-of_home c = home_aims
