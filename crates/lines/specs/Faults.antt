-- What a fault in the lines tells. Assumes nothing.
use Rattle.model.specs.declared.Fault.{Fault}
use Rattle.model.specs.Refusals.{fault}
use Rattle.characters.specs.Faults.{byte_fault}
use Rattle.lines.specs.declared.fault.LineFault.{LineFault}
use Rattle.lines.specs.declared.fault.LineFault.TheVariants.{Bytes, NoLine, TooDeep, Header, Trailer, Jump, Named, Continuation}

abbrev pub line_fault : LineFault → Fault
line_fault (Bytes f) = byte_fault f
line_fault (NoLine at) = fault 4 at.line at.byte
line_fault (TooDeep at) = fault 5 at.line at.byte
line_fault (Header at) = fault 6 at.line at.byte
line_fault (Trailer at) = fault 7 at.line at.byte
line_fault (Jump at) = fault 8 at.line at.byte
line_fault (Named at) = fault 9 at.line at.byte
line_fault (Continuation at) = fault 10 at.line at.byte
