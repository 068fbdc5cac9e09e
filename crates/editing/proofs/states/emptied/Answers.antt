use Rattle.std.proofs.Common.{◌≡◌, ap, ◌∙◌, arith}
use Rattle.std.proofs.lemmas.Grind.{common_steps}
use Rattle.lines.specs.Shown.{value_of}
use Rattle.editing.specs.Showing.{emptied_value}
use Rattle.editing.proofs.Holding.{filed_line, emptied_first}
use Rattle.editing.proofs.states.emptied.Goals as goal

pub returns-in-Filed : goal.returns-in-Filed
returns-in-Filed c e s =
    let line = filed_line c.args.file.now c.args.card e s c.in-Filed.is c.line_at.result c.line_at.ensures in
    let told : c.map_or.result ≡ emptied_value (value_of line.0.payload) = let is = line.1 in grind (arith, common_steps) in
    told ∙ ap emptied_value line.2 ∙ emptied_first e.payload
