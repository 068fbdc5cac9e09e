use Rattle.std.proofs.Common.{◌≡◌, ap, ◌∙◌, arith, rules}
use Rattle.std.proofs.lemmas.Grind.{common_steps}
use Rattle.model.specs.declared.State.TheVariants.{Filed}
use Rattle.lines.specs.Shown.{value_of}
use Rattle.editing.specs.Showing.{aims_value}
use Rattle.editing.proofs.Holding.{filed_line, aims_first}
use Rattle.editing.proofs.pointers.points_to.Goals as goal

pub returns-then-eq-clause-shown : goal.returns-then-eq-clause-shown
returns-then-eq-clause-shown c e s =
    let i = c.args.identifier.now in
    let filed : c.args.card.state ≡ Filed = search rules in
    let line = filed_line c.args.file.now c.args.card e s filed c.line_at.result c.line_at.ensures in
    let told : c.is_some_and.result ≡ aims_value i (value_of line.0.payload) = let is = line.1 in grind (arith, common_steps) in
    told ∙ ap (aims_value i) line.2 ∙ aims_first i e.payload
