use Rattle.std.proofs.Common.{ap, ◌∙◌}
use Rattle.model.specs.Datasets.{entries}
use Rattle.model.specs.Edits.{body}
use Rattle.model.specs.Positions.{within}
use Rattle.editing.proofs.Descent.{in_header, in_records, some_body}
use Rattle.editing.proofs.removal.edit.Goals as goal

pub returns-then-card-header_end : goal.returns-then-card-header_end
returns-then-card-header_end g c d s =
    let m = g.B.Book.meaning c.args.book.now in
    let b = body (entries d) in
    c.edit_row.ensures b s ∙ in_header m d c.args.card c.block_end-header_end.result (c.block_end-header_end.ensures.ends b s) c.inside.result (c.inside.ensures ∙ ap (within m) (c.row.ensures b s (some_body d))) c.if-card-header_end.true

pub returns-else-card-header_end : goal.returns-else-card-header_end
returns-else-card-header_end g c d s =
    let m = g.B.Book.meaning c.args.book.now in
    let b = body (entries d) in
    c.edit_row-else-card-header_end.ensures b s ∙ in_records m d c.args.card c.block_end-header_end.result (c.block_end-header_end.ensures.ends b s) c.if-card-header_end.false
