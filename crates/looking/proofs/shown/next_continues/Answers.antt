use Rattle.std.proofs.Common.{◌≡◌, Bool, false, Some, None, Option, Decides, sym, refl, arith, ◌∙◌, subst, true≢false}
use Rattle.std.proofs.lemmas.Grind.{common_steps}
use Rattle.model.specs.Datasets.{CONT}
use Rattle.lines.specs.declared.cursor.Cursor.{Cursor}
use Rattle.lines.specs.declared.steps.Found.{Found}
use Rattle.lines.specs.Iterating.{GivesNext}
use Rattle.looking.specs.Looking.{BeginsOn, ContinuesNext}
use Rattle.looking.proofs.Left.{left_stops, left_comes}
use Rattle.looking.proofs.shown.next_continues.Goals as goal

continues : (s t : Cursor) (r : Option Found) (b : Bool) → GivesNext s r t → (r ≡ None → b ≡ false) → ((f : Found) → r ≡ Some f → Decides b (f.line.tag.now ≡ CONT)) → ContinuesNext s.file.now s.at b
continues s t None b (file, stops, stays) false_of d rest (are, good) =
    let none = left_stops s.file.now s.at rest (record { are = are; good = good }) stops in
    (λ e. absurd (true≢false (sym e ∙ false_of refl)), λ q. absurd (subst BeginsOn none q))
continues s t (Some f) b y false_of d rest (are, good) =
    let w = left_comes s.file.now s.at _ _ _ f rest (record { are = are; good = good }) y.comes in
    (λ e. subst BeginsOn (sym w.are) (sym w.shows.tag ∙ (d f refl).0 e), λ q. (d f refl).1 (w.shows.tag ∙ subst BeginsOn w.are q))

pub returns : goal.returns
returns c = continues c.args.cursor.now c.next.new.self c.next.result c.is_some_and.result c.next.ensures.steps (λ e. grind (arith, common_steps)) (λ f e. grind (arith, common_steps))
