use Rattle.std.proofs.Common.{◌≡◌, ℕ, ◌+◌, ◌<◌, Bool, List, [], ◌∷◌, length, None, Decides, arith, sym, refl, ap, ◌∙◌}
use Rattle.std.proofs.lemmas.Grind.{common_steps}
use Rattle.model.specs.Lines.{Line}
use Rattle.model.specs.Datasets.{CONT}
use Rattle.model.specs.Files.{Placed, at}
use Rattle.model.specs.Refusals.{lines_of}
use Rattle.looking.specs.Looking.{BeginsOn}
use Rattle.looking.proofs.Left.{Cut, cut, cut_left, given_some, given_goes}
use Rattle.looking.proofs.Placing.{cut_last, cut_next}
use Rattle.looking.proofs.shown.is_continued.Goals as goal

behind : (ps : List Placed) (i : ℕ) (k : Cut ps i) (r : Bool) (more : List Placed) → k.more ≡ more → Decides r (BeginsOn more) → Decides r ((i + 1 < length ps) × ((at (lines_of ps) (i + 1)).tag ≡ CONT))
behind ps i k r [] e d = (λ t. absurd (d.0 t), λ q. absurd (cut_last ps i k e q.0))
behind ps i k r (p ∷ more) e d =
    let n = cut_next ps i k p more e in
    let tag = ap (λ (x : Line). x.tag) n.1 in
    (λ t. (n.0, tag ∙ d.0 t), λ q. d.1 (sym tag ∙ q.1))

pub returns-in_default : goal.returns-in_default
returns-in_default c ps i l h e = absurd (c.in_default.ensures ps i l h e)

pub returns-then-is_some : goal.returns-then-is_some
returns-then-is_some c ps i l h e =
    let s = c.in-Some.cursor in
    let k = cut ps i h in
    let left = given_goes s c.next.new.self c.next.result k.line k.more (cut_left s.file.now s.at ps i k (c.in-Some.ensures ps i l h e)) c.next.ensures.steps in
    behind ps i k c.next_continues.result k.more refl (c.next_continues.ensures k.more (left.are, left.good))

pub returns-else-is_some : goal.returns-else-is_some
returns-else-is_some c ps i l h e =
    let s = c.in-Some.cursor in
    let k = cut ps i h in
    let none = given_some s c.next.new.self c.next.result k.line k.more (cut_left s.file.now s.at ps i k (c.in-Some.ensures ps i l h e)) c.next.ensures.steps in
    let is : c.next.result ≡ None = grind (arith, common_steps) in
    absurd (none is)
