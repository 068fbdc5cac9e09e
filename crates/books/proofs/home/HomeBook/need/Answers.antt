use Rattle.std.proofs.Common.{sym, ap, ◌∙◌}
use Rattle.std.specs.List.{slice_get}
use Rattle.books.proofs.Seeking.{needs_of_entries}
use Rattle.books.proofs.home.HomeBook.need.Goals as goal

pub returns : goal.returns
returns c = c.required_type.ensures ∙ sym (ap (λ ns. slice_get ns c.args.j) (needs_of_entries c.entries.ensures))
