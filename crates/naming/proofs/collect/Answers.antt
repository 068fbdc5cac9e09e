use Rattle.std.proofs.Common.{◌≡◌, ◌<◌, length, take, ◌∙◌, subst, arith}
use Rattle.naming.proofs.Indexing.{Gathered, gathered_skip, gathered_more}
use Rattle.naming.proofs.collect.Goals as goal
use Rattle.naming.proofs.collect.Goals.{in-Some, in_default}

pub loop-card-preserved : goal.loop-card-preserved
loop-card-preserved c =
    let inv = c.loop-card.invariant in
    let fit : c.loop-card.count < length c.loop-card.table = let pre = c.requires in let lt = c.loop-card-test.true in let long = c.loop-card.auto.table in omega (arith, inv.0) in
    elim c.match-shown_name.branch [
      | in-Some w ↦ rw (w.count-is, w.table-is) (omega (arith, inv.0), λ ps s. gathered_more ps c.shown_name.result w.in-Some.name c.loop-card.count c.loop-card.card c.loop-card.table fit w.in-Some.is (c.shown_name.ensures _ (s.each c.loop-card.card _ c.loop-card-test.true)) (inv.1 ps s))
      | in_default w ↦ rw (w.count-is, w.table-is) (omega (arith, inv.0), λ ps s. gathered_skip ps c.shown_name.result c.loop-card.card (take c.loop-card.count c.loop-card.table) w.in_default.is (c.shown_name.ensures _ (s.each c.loop-card.card _ c.loop-card-test.true)) (inv.1 ps s))
    ]

pub returns : goal.returns
returns c =
    let inv = c.loop-card.invariant in
    let long = c.loop-card.auto.table in
    let pre = c.requires in
    let all : c.loop-card.card ≡ length c.args.cards.now = omega arith in
    record {
      within = let low = inv.0 in omega arith;
      collected = λ ps s. subst (λ n. Gathered ps n (take c.loop-card.count c.loop-card.table)) (all ∙ s.many) (inv.1 ps s);
    }
