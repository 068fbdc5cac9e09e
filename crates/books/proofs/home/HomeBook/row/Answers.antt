use Rattle.std.proofs.Common.{sym, ◌∙◌}
use Rattle.books.proofs.Seeking.{row_of_entries}
use Rattle.books.proofs.home.HomeBook.row.Goals as goal

pub returns : goal.returns
returns c = c.row_of_tag.ensures ∙ sym (row_of_entries c.args.tag.now c.entries.ensures)
