use Rattle.std.proofs.Common.{ℕ, Some, None, subst, refl, rules, arith}
use Rattle.std.proofs.lemmas.Grind.{common_steps}
use borrow.Author.Tests.{tests}
use Rattle.std.specs.Iterator.Runs.{ItemsCountUp}
use Rattle.std.specs.declared.ops.Range.{Range}
use Rattle.std.proofs.iter.runs.Sources.{range_runs}
use Rattle.judging.specs.Sets.{bit}
use Rattle.judging.proofs.Missing.{first_need, gives}
use Rattle.judging.proofs.cards.Cards.first_missing.Goals as goal

pub returns : goal.returns
returns g c ts d =
    let m = g.B.Book.meaning c.args.self.now.book.now in
    let lawful = g.met.B.Book.lawful c.args.self.now.book.now in
    let has = bit c.args.sets.now.levels c.args.level in
    let need = m.need c.args.context in
    let u = c.find_map.ensures.runs in
    let ups : ItemsCountUp u.0 0 c.needs.result = subst (λ (w : Range ℕ). ItemsCountUp u.0 w.start w.end) u.1 (range_runs u.0 u.0.seen) in
    first_need m lawful c.args.context ts _ _ _ u.0.at u.0.whole u.0.len c.needs.result c.find_map.result u.2 (λ x y f k. search rules)
    (λ j h. gives m lawful c.args.context ts has d j (need j) refl None (search (rules, tests)))
    (λ t j h. gives m lawful c.args.context ts has d j (need j) refl (Some t) (search (rules, tests)))
    c.needs.ensures (omega (arith, ups.0)) (λ w. omega (arith, ups.1 w)) (λ k h. grind (arith, common_steps, ups.3))
