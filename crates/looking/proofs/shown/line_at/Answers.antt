use Rattle.std.proofs.Common.{sym, subst}
use Rattle.lines.specs.Shown.{Shows}
use Rattle.looking.proofs.Left.{cut, cut_left, left_shows, left_more}
use Rattle.looking.proofs.shown.line_at.Goals as goal

pub returns-in_err-cursor_at : goal.returns-in_err-cursor_at
returns-in_err-cursor_at c ps i l h e = absurd (c.in_err-cursor_at.ensures ps i l h e)

pub returns-in_err-found : goal.returns-in_err-found
returns-in_err-found c ps i l h e =
    let s = c.in_ok-cursor_at.field-0 in
    let k = cut ps i h in
    absurd (left_more s.file.now s.at k.line k.more (cut_left s.file.now s.at ps i k (c.in_ok-cursor_at.ensures ps i l h e)) c.in_err-found.ensures.steps.1)

pub returns : goal.returns
returns c ps i l h e =
    let s = c.in_ok-cursor_at.field-0 in
    let k = cut ps i h in
    subst (Shows c.in_ok-found.found.line) (sym k.is) (left_shows s.file.now s.at _ _ _ c.in_ok-found.found k.line k.more (cut_left s.file.now s.at ps i k (c.in_ok-cursor_at.ensures ps i l h e)) c.in_ok-found.ensures.steps.comes)
