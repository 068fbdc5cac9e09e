use Rattle.std.proofs.Common.{◌≡◌, sym, ap, ◌∙◌, subst, inl, inr}
use Rattle.model.specs.declared.State.{State}
use Rattle.model.specs.Cards.{after, Allowed}
use Rattle.model.specs.Runs.{shown_payload}
use Rattle.viewing.proofs.looks.left_payload.Goals as goal

pub returns-in-Filed : goal.returns-in-Filed
returns-in-Filed c ps e f l v settled =
    elim c.in-Filed.is [
      | inl is ↦
          let same : e.payload ≡ f.filed = f.shows ∙ ap (λ (x : State). after x f.filed) is in
          c.first_payload.ensures ps _ l f.stands v (λ q. settled (same ∙ q)) ∙ ap shown_payload (sym same)
      | inr is ↦ absurd (subst (λ x. Allowed x f.filed) is f.allowed)
    ]
