use Rattle.model.proofs.Lining.{lined_once}
use Rattle.model.proofs.Entries.{same_lines_once}
use Rattle.model.proofs.Filing.{lines_once, held_once}
use Rattle.model.proofs.datasets_are_unique.Goals as goal

pub returns : goal.returns
returns c = record { lined = lined_once; same_lines = same_lines_once; of_file = lines_once; held = held_once }
