use Rattle.model.proofs.Writing.{written_has_lines}
use Rattle.model.proofs.writing_keeps_lines.Goals as goal

pub returns : goal.returns
returns c = written_has_lines
