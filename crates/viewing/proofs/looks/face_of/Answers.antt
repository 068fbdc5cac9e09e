use Rattle.std.proofs.Common.{MatchOption, sym, subst}
use Rattle.model.specs.Datasets.{Entry}
use Rattle.looking.specs.Looking.{Shown}
use Rattle.viewing.specs.Views.{FaceOf}
use Rattle.looking.proofs.Showing.{entry_shows, entry_there}
use Rattle.viewing.proofs.Faces.{face_right}
use Rattle.viewing.proofs.looks.face_of.Goals as goal

pub returns : goal.returns
returns c e s low settled =
    let shows = entry_shows c.args.file.now c.args.card.byte c.in_ok-line.line c.in_ok-line.ensures s.placed _ s.lined s.files.stands in
    face_right e c.in_ok-line.line c.left_payload.result s.files.filed low shows (c.left_payload.ensures s.placed e s.files s.lined shows.value settled)

pub returns-in_err-line : goal.returns-in_err-line
returns-in_err-line c = subst (λ o. MatchOption o ((e : Entry) → Shown c.args.file.now c.args.card e → ⊥) (FaceOf c.args.file.now c.args.card)) (sym c.from_residual.ensures) (λ e s. entry_there c.args.file.now c.args.card.byte c.in_err-line.ensures s.placed _ s.lined s.files.stands)
