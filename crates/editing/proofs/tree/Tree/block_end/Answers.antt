use Rattle.std.proofs.Common.{ℕ, ◌+◌, ◌-◌, ◌<◌, ◌≤◌, length, get_or, subst, ap, ◌∙◌, arith, rules}
use borrow.Author.Tests.{tests}
use Rattle.std.specs.Iterator.Runs.{ItemsCountUp}
use Rattle.std.specs.declared.ops.Range.{Range}
use Rattle.std.proofs.iter.runs.Sources.{range_runs}
use Rattle.model.specs.Edits.{no_entry}
use Rattle.editing.proofs.Blocks.{block_walked}
use Rattle.editing.proofs.Counting.{kept_to, stopped}
use Rattle.editing.proofs.tree.Tree.block_end.Goals as goal

pub overflow_add-result : goal.overflow_add-result
overflow_add-result g c =
    let u = c.count.ensures.runs in
    let r = c.take_while-deeper.ensures.runs u.0 u.0.seen u.1 in
    let ups : ItemsCountUp r.0 c.args.from c.args.self.now.count = subst (λ (w : Range ℕ). ItemsCountUp r.0 w.start w.end) r.1 (range_runs r.0 r.0.seen) in
    let n : c.count.result ≤ c.args.self.now.count - c.args.from = (let all = u.3 in let some = r.2.0 in let most = ups.0 in omega arith) in
    omega arith

pub returns-clause-ends : goal.returns-clause-ends
returns-clause-ends g c b s =
    let l = c.args.level in
    let from = c.args.from in
    let u = c.count.ensures.runs in
    let r = c.take_while-deeper.ensures.runs u.0 u.0.seen u.1 in
    let taken = r.2.2 (λ x y f k. search rules) in
    let ups : ItemsCountUp r.0 from (length b) = subst (ItemsCountUp r.0 from) (c.args.self.now.counted b s) (subst (λ (w : Range ℕ). ItemsCountUp r.0 w.start w.end) r.1 (range_runs r.0 r.0.seen)) in
    let n = u.0.len in
    let deep = kept_to from (length b) n r.0.len u.0.at r.0.at r.2.1 r.2.0 ups.3 ups.2 _ (λ x. l < (get_or b x no_entry).level) (λ x lt h. search (rules, tests)) taken.0 in
    let end = stopped from (length b) n r.0.len u.0.at r.0.at r.2.1 r.2.0 ups.3 ups.2 _ (λ x. (get_or b x no_entry).level ≤ l) r.0.whole (λ x lt h. search (rules, tests)) ups.1 (taken.1 u.2) in
    ap (λ k. from + k) (u.3 ∙ block_walked b l from n deep end)
