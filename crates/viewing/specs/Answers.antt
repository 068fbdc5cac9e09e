-- What the answers of a view stand for. Assumes nothing.
use Rattle.std.specs.Prelude.{ℕ, List, [], Ok, Err, Option, Result}
use Rattle.std.specs.Borrow.{Bor}
use Rattle.std.specs.Option.{option_map}
use Rattle.model.specs.declared.Refusal.{Refusal}
use Rattle.model.specs.Datasets.{Payload, none, text, void, pointer, Entry, entry}
use Rattle.model.specs.Refusals.{refusal_number}
use Rattle.model.specs.Runs.{Reply, refused, number, seen, line}
use Rattle.lines.specs.declared.line.Payload as shown
use Rattle.lines.specs.declared.line.Payload.TheVariants.{None, Void, Pointer, Text}
use Rattle.lines.specs.declared.line.Line.{Line as Face}

-- parts of the file are compared by their bytes
abbrev pub bytes_in : Option (Bor (List ℕ)) → Option (List ℕ)
bytes_in o = option_map (λ (p : Bor (List ℕ)). p.now) o

-- a text shows its first line
abbrev pub payload_of : shown.Payload → Payload
payload_of None = none
payload_of Void = void
payload_of (Pointer p) = pointer p.now
payload_of (Text t) = text t.now []

abbrev pub face_entry : Face → Entry
face_entry f = entry f.level (bytes_in f.identifier) f.tag.now (payload_of f.payload)

abbrev pub look_answer : Result Face Refusal → Reply
look_answer (Ok f) = seen (face_entry f)
look_answer (Err f) = refused (refusal_number f)

abbrev pub more_answer : Result (Option (Bor (List ℕ))) Refusal → Reply
more_answer (Ok l) = line (bytes_in l)
more_answer (Err f) = refused (refusal_number f)

abbrev pub write_answer : Result ℕ Refusal → Reply
write_answer (Ok n) = number n
write_answer (Err f) = refused (refusal_number f)
