-- What the answer of a call stands for, and the event that a call then is. Assumes nothing.
use Rattle.std.specs.Prelude.{ℕ, List, Ok, Err, Result}
use Rattle.model.specs.declared.Call.{Call}
use Rattle.model.specs.declared.Card.{Card}
use Rattle.model.specs.Books.{Meaning}
use Rattle.model.specs.Calls.{Event, Performs}
use Rattle.model.specs.Refusals.{refusal_number}
use Rattle.model.specs.Runs.{Reply, refused, unread, number, opened, seen, line}
use Rattle.reading.specs.Faults.{read_fault}
use Rattle.viewing.specs.Answers.{bytes_in, face_entry}
use Rattle.calls.specs.declared.answer.Answer.{Answer}
use Rattle.calls.specs.declared.answer.Answer.TheVariants.{Number, Opened, Seen, Line}
use Rattle.calls.specs.declared.answer.Denial.{Denial}
use Rattle.calls.specs.declared.answer.Denial.TheVariants.{Unread, Refused}

abbrev pub answer_reply : Answer → Reply
answer_reply (Number n) = number n
answer_reply Opened = opened
answer_reply (Seen f) = seen (face_entry f)
answer_reply (Line l) = line (bytes_in l)

abbrev pub denial_reply : Denial → Reply
denial_reply (Unread f) = unread (read_fault f)
denial_reply (Refused f) = refused (refusal_number f)

-- what is answered, granted or refused
abbrev pub result_reply : Result Answer Denial → Reply
result_reply (Ok a) = answer_reply a
result_reply (Err d) = denial_reply d

-- the call with the buffer that it was lent, its answer, and what the buffer then held
abbrev pub event : Call → List ℕ → Result Answer Denial → List ℕ → Event
event call buffer answer left = record { call = call; buffer = buffer; answer = result_reply answer; left = left }

-- the call does what the definitions say of it, and leaves any buffer as it was
abbrev pub DoesQuietly : Meaning → List ℕ → List Card → Call → Result Answer Denial → List Card → Type 0
DoesQuietly m file cards call answer out = (buffer : List ℕ) → Performs m file cards (event call buffer answer buffer) out call
