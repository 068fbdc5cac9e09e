use Rattle.std.proofs.Common.{sym, ap, ◌∙◌, inl, inr}
use Rattle.std.specs.List.{slice_get}
use Rattle.std.proofs.lemmas.Result.{err_from_is_err_and}
use Rattle.model.specs.declared.State.{State}
use Rattle.model.specs.Datasets.{further}
use Rattle.model.specs.Cards.{after}
use Rattle.model.specs.Refusals.{refusal_number}
use Rattle.model.specs.Runs.{refused}
use Rattle.writing.proofs.Carded.{never_blank}
use Rattle.viewing.specs.Answers.{more_answer}
use Rattle.viewing.proofs.Named.{shown_card}
use Rattle.viewing.proofs.Faces.{more_inside, more_past, none_further}
use Rattle.viewing.proofs.view.View.more.Goals as goal

pub returns-in_err-card : goal.returns-in_err-card
returns-in_err-card c d h =
    let p = err_from_is_err_and c.from_residual.result c.from_residual.ensures.1 in
    let (is, past) = c.in_err-card.ensures c.args.self.now.file.now d h in
    ap more_answer p.1 ∙ ap (λ f. refused (refusal_number f)) (p.2 ∙ is) ∙ more_past d c.args.card c.args.number past

pub returns-in-Filed : goal.returns-in-Filed
returns-in-Filed c d h =
    let file = c.args.self.now.file.now in
    let k = c.args.card in
    let (inside, same) = c.in_ok-card.ensures file d h in
    let s = shown_card file c.args.self.now.drawer.now d h k c.in_ok-card.card inside same in
    more_inside d k c.args.number _ inside (elim c.in-Filed.is [
      | inl is ↦ c.further_at.ensures s.placed _ s.lined s.files.stands ∙ ap (λ p. slice_get (further p) c.args.number) (sym (s.files.shows ∙ ap (λ (x : State). after x s.files.filed) is))
      | inr is ↦ absurd (never_blank file c.in_ok-card.card _ s is)
    ])

pub returns-in-Voided : goal.returns-in-Voided
returns-in-Voided c d h =
    let file = c.args.self.now.file.now in
    let k = c.args.card in
    let (inside, same) = c.in_ok-card.ensures file d h in
    let s = shown_card file c.args.self.now.drawer.now d h k c.in_ok-card.card inside same in
    more_inside d k c.args.number _ inside (none_further c.in_ok-card.card.state s.files.filed _ c.in-Voided.is s.files.shows c.args.number)
