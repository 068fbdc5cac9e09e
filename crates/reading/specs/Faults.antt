-- What a fault of reading tells. Assumes nothing.
use Rattle.std.specs.Prelude.{Some}
use Rattle.model.specs.declared.Fault.{Fault}
use Rattle.model.specs.Refusals.{fault}
use Rattle.lines.specs.Faults.{line_fault}
use Rattle.reading.specs.declared.fault.ReadFault.{ReadFault}
use Rattle.reading.specs.declared.fault.ReadFault.TheVariants.{Lines, NoCard, Repeated, Lost, Unknown, Untaken, Misaimed, Second, Missing, Bare}

abbrev pub read_fault : ReadFault → Fault
read_fault (Lines f) = line_fault f
read_fault (NoCard at) = fault 11 at.line at.byte
read_fault (Repeated at) = fault 12 at.line at.byte
read_fault (Lost at) = fault 13 at.line at.byte
read_fault (Unknown at) = fault 14 at.line at.byte
read_fault (Untaken at) = fault 15 at.line at.byte
read_fault (Misaimed at) = fault 16 at.line at.byte
read_fault (Second at) = fault 17 at.line at.byte
read_fault (Missing at t) = record { number = 18; line = at.line; byte = at.byte; missing = Some t }
read_fault (Bare at) = fault 19 at.line at.byte
