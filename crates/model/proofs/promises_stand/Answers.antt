use Rattle.model.proofs.Keeping.{belongs_kept}
use Rattle.model.proofs.Writing.{written_has_lines}
use Rattle.model.proofs.Filing.{lines_once}
use Rattle.model.proofs.Exact.{stands}
use Rattle.model.proofs.promises_stand.Goals as goal

pub returns : goal.returns
returns c = stands belongs_kept written_has_lines lines_once
