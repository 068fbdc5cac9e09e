use Rattle.std.proofs.Common.{◌≡◌, Some, arith, ℕ, ◌<◌, length, subst, sym, refl, ap, ◌∙◌, rules}
use borrow.Author.Tests.{tests}
use Rattle.std.specs.Iterator.Runs.{ItemsCountUp}
use Rattle.std.specs.declared.ops.Range.{Range}
use Rattle.std.proofs.iter.runs.Sources.{range_runs}
use Rattle.model.specs.Positions.{level_at}
use Rattle.std.proofs.lemmas.Grind.{common_steps}
use Rattle.model.specs.Removal.{how_many}
use Rattle.editing.specs.Rows.{stands_at, types_in}
use Rattle.editing.proofs.Counting.{counted, picked, answers, deep_to, stopped, told_end}
use Rattle.editing.proofs.tree.Tree.count_typed.Goals as goal

pub returns : goal.returns
returns g c b s =
    let m = g.B.Book.meaning c.args.self.now.book.now in
    let row = c.args.siblings in
    let first = row.first in
    let u = c.count.ensures.runs in
    let q = c.filter.ensures.runs u.0 u.0.seen u.1 in
    let r = c.map_while-row.ensures.runs q.0 q.0.seen q.1 in
    let ups : ItemsCountUp r.0 first (length b) = subst (ItemsCountUp r.0 first) (c.args.self.now.counted b s) (subst (λ (w : Range ℕ). ItemsCountUp r.0 w.start w.end) r.1 (range_runs r.0 r.0.seen)) in
    let filtered = q.2.4 (λ x. x) (λ x r f k. search rules) in
    let each = r.2.1 (λ x y f k. search rules) in
    let n = q.0.len in
    let here = answers m b row c.args.typed first n r.0.len q.0.at r.0.at r.2.0.0 ups.3 _ (λ x y h. search (rules, tests)) each.1 q.0.items q.0.reads in
    let deep = deep_to m b row c.args.typed first n r.0.len q.0.at r.0.at r.2.0.0 ups.3 _ (λ x y h. search (rules, tests)) each.1 in
    let end = stopped first (length b) n r.0.len r.0.at r.0.at (λ k h. refl) r.2.0.0 ups.3 ups.2 _ (λ x. level_at b x < row.level) r.0.whole (λ x lt h. told_end m b row c.args.typed x lt (search (rules, tests))) ups.1 (r.2.0.2 (q.2.0 ∙ u.2)) in
    let told : c.count.result ≡ how_many (Some c.args.typed) (types_in m b row) = u.3 ∙ u.0.long ∙ ap length filtered ∙ picked (stands_at m b row c.args.typed) q.0.items first n (sym q.0.long) here ∙ counted m b row c.args.typed n first deep end in
    grind (arith, common_steps)
