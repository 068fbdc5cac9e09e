use Rattle.looking.proofs.Showing.{entry_shows, entry_there}
use Rattle.looking.proofs.shown.identifier_of.Goals as goal

pub returns : goal.returns
returns c ps e l f = (entry_shows c.args.file.now c.args.card.byte c.in_ok-line_at.field-0 c.in_ok-line_at.ensures ps _ l f.stands).identifier

pub returns-in_err-line_at : goal.returns-in_err-line_at
returns-in_err-line_at c ps e l f = absurd (entry_there c.args.file.now c.args.card.byte c.in_err-line_at.ensures ps _ l f.stands)
