use Rattle.std.proofs.Common.{sym, ◌∙◌}
use Rattle.books.proofs.Seeking.{count_of_entries}
use Rattle.books.proofs.home.HomeBook.needs.Goals as goal

pub returns : goal.returns
returns c = c.count_required.ensures ∙ sym (count_of_entries c.entries.ensures)
