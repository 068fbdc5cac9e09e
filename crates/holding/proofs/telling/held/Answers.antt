use Rattle.std.proofs.Common.{◌≤◌, length, ap, subst, arith, length-take}
use Rattle.naming.specs.Naming.{NamesFit}
use Rattle.holding.proofs.Fronting.{tell_found, tell_lost}
use Rattle.holding.proofs.telling.held.Goals as goal

pub returns-in_err-names : goal.returns-in_err-names
returns-in_err-names c = rw c.from_residual-in_err-names.ensures (λ big d h.
    let (n, front, is) = c.in_ok-cards.ensures in
    let low : n ≤ length c.args.table.now = let w = front.named.within in let fit = c.if-cards-table.false in omega (arith, ap length is, length-take n c.args.drawer.now) in
    tell_lost c.args.file.now c.args.drawer.now n front c.args.table.now c.check_names.new.table low c.check_names.result (subst (λ cards. NamesFit c.args.file.now cards c.args.table.now c.check_names.result c.check_names.new.table) is c.check_names.ensures.names) c.in_err-names.ensures.value d h)

pub returns : goal.returns
returns c =
    let (n, front, is) = c.in_ok-cards.ensures in
    let low : n ≤ length c.args.table.now = let w = front.named.within in let fit = c.if-cards-table.false in omega (arith, ap length is, length-take n c.args.drawer.now) in
    tell_found c.args.file.now c.args.drawer.now n front c.args.table.now c.check_names.new.table low _ c.check_names.result is (subst (λ cards. NamesFit c.args.file.now cards c.args.table.now c.check_names.result c.check_names.new.table) is c.check_names.ensures.names) c.check_names.ensures.within c.in_ok-names.ensures.value
