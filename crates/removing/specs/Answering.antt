-- What the result of a removal stands for. Assumes nothing.
use Rattle.std.specs.Prelude.{ℕ, Ok, Err, Result}
use Rattle.model.specs.declared.Refusal.{Refusal}
use Rattle.model.specs.Refusals.{refusal_number}
use Rattle.model.specs.Runs.{Reply, refused, number}

abbrev pub remove_answer : Result ℕ Refusal → Reply
remove_answer (Ok n) = number n
remove_answer (Err f) = refused (refusal_number f)
