-- What a fault in the bytes tells, and what the check of the characters answers. Assumes nothing.
use Rattle.std.specs.Prelude.{ℕ, List, Ok, Err, Result}
use Rattle.model.specs.declared.Fault.{Fault}
use Rattle.model.specs.Characters.{Clean}
use Rattle.model.specs.Books.{Meaning}
use Rattle.model.specs.Refusals.{fault, Short, Refuses}
use Rattle.characters.specs.declared.fault.ByteFault.{ByteFault}
use Rattle.characters.specs.declared.fault.ByteFault.TheVariants.{TooLong, Malformed, Banned}

abbrev pub byte_fault : ByteFault → Fault
byte_fault TooLong = fault 1 0 0
byte_fault (Malformed at) = fault 2 at.line at.byte
byte_fault (Banned at) = fault 3 at.line at.byte

-- granted where the file is short and clean; else the fault is the one that the rules name, whatever book and drawer there are
abbrev pub Checks : List ℕ → Result (Unit {0}) ByteFault → Type 0
Checks file (Ok u) = Short file × Clean file
Checks file (Err f) = (m : Meaning) (cards : ℕ) → Refuses m file cards (byte_fault f)
