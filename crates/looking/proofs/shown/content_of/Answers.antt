use Rattle.std.proofs.Common.{◌≡◌, sym, ap, ◌∙◌, subst, inl, inr}
use Rattle.model.specs.Cards.{after}
use Rattle.kinds.specs.Contents.{StandsFor}
use Rattle.looking.proofs.shown.content_of.Goals as goal

pub returns-in-Filed : goal.returns-in-Filed
returns-in-Filed c ps e l f settled =
    let shown : e.payload ≡ f.filed = f.shows ∙ elim c.in-Filed.is [ inl q ↦ ap (λ s. after s f.filed) q | inr q ↦ ap (λ s. after s f.filed) q ] in
    subst (StandsFor c.filed_content.result) (sym shown) (c.filed_content.ensures ps _ l f.stands (λ q. settled (shown ∙ q)))
