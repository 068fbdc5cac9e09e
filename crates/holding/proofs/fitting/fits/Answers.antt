use Rattle.std.proofs.Common.{arith, ◌≡◌, length, subst, rules}
use Rattle.holding.proofs.Fitted.{never, Fitting, unread, not_allowed, not_followed, fitting_more, fitted}
use Rattle.looking.specs.Looking.{LineAt}
use Rattle.holding.proofs.fitting.fits.Goals as goal
use Rattle.holding.proofs.fitting.fits.Goals.{then-not-is_allowed-via-then-not-is_allowed, then-not-is_allowed-via-else-not-is_allowed+then-not-follows}

pub returns-in_default : goal.returns-in_default
returns-in_default c ps p on = never _ (λ f. unread c.args.file.now ps c.args.cards.now p on c.loop-card.card-index c.loop-card-test.true c.loop-card.before _ (subst (LineAt c.args.file.now _) c.in_default.is c.line_at.ensures))

pub returns-then-not-is_allowed : goal.returns-then-not-is_allowed
returns-then-not-is_allowed c ps p on = never _ (λ f. elim c.then-not-is_allowed.branch [
  | then-not-is_allowed-via-then-not-is_allowed w ↦ not_allowed c.args.file.now ps c.args.cards.now p on c.loop-card.card-index c.loop-card-test.true c.loop-card.before _ c.line_at.result c.in-Some.line c.line_at.ensures c.in-Some.is c.is_allowed.result c.is_allowed.ensures w.if-not-is_allowed.true f
  | then-not-is_allowed-via-else-not-is_allowed+then-not-follows w ↦ not_followed c.args.file.now ps c.args.cards.now p on c.loop-card.card-index c.loop-card-test.true c.loop-card.before _ c.line_at.result c.in-Some.line c.line_at.ensures c.in-Some.is c.is_allowed.result c.is_allowed.ensures w.follows.result w.follows.ensures (c.loop-card.invariant ps p on) w.if-not-follows.true f
])

pub loop-card-preserved : goal.loop-card-preserved
loop-card-preserved c ps p on = fitting_more c.args.file.now ps c.args.cards.now p on c.loop-card.card-index c.loop-card-test.true c.loop-card.before _ c.line_at.result c.in-Some.line c.line_at.ensures c.in-Some.is c.is_allowed.result c.is_allowed.ensures c.follows.result c.follows.ensures (c.loop-card.invariant ps p on) c.if-not-is_allowed.false c.if-not-follows.false

pub returns : goal.returns
returns c ps p on = fitted c.args.file.now ps c.args.cards.now p on c.loop-card.before c.is_some_and.result (subst (λ n. Fitting ps c.args.cards.now n c.loop-card.before) (let z : c.loop-card.card-index ≡ length c.args.cards.now = omega arith in z) (c.loop-card.invariant ps p on)) (search rules)
