use Rattle.std.proofs.Common.{sym, refl, ◌∙◌, arith}
use Rattle.std.proofs.lemmas.Grind.{common_steps}
use Rattle.model.specs.Datasets.{entries}
use Rattle.model.specs.Edits.{body}
use Rattle.removing.proofs.Ranging.{inner, outer}
use Rattle.removing.proofs.removal.plan_entered.Goals as goal

pub returns-then-not-contains : goal.returns-then-not-contains
returns-then-not-contains g c d e = ((c.keeps_rules.ensures d e).0 c.if-not-keeps_rules.false, outer d c.args.card _ (let n = c.count.ensures (body (entries d)) (d, e.entering, refl) in grind (arith, common_steps)) c.if-not-contains.ensures.cases)

pub returns-in-Withheld : goal.returns-in-Withheld
returns-in-Withheld g c d e = record {
  belongs = (c.keeps_rules.ensures d e).0 c.if-not-keeps_rules.false;
  inner = inner d c.args.card _ (let n = c.count.ensures (body (entries d)) (d, e.entering, refl) in grind (arith, common_steps)) c.if-not-contains.ensures.cases;
  is = sym (c.edit.ensures d (d, e.entering, refl)) ∙ c.in-Withheld.is;
}

pub returns-in_default : goal.returns-in_default
returns-in_default g c d e = (
  record {
    belongs = (c.keeps_rules.ensures d e).0 c.if-not-keeps_rules.false;
    inner = inner d c.args.card _ (let n = c.count.ensures (body (entries d)) (d, e.entering, refl) in grind (arith, common_steps)) c.if-not-contains.ensures.cases;
    is = sym (c.edit.ensures d (d, e.entering, refl));
  },
  c.in_default.not-Withheld,
)
