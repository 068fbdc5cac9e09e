use Rattle.std.proofs.Common.{◌≡◌, ◌<◌, length, get_or, Some, None, sym, ap, ◌∙◌, subst, arith, rules}
use Rattle.std.specs.Slice.Iter.{iter_rest}
use Rattle.std.proofs.lemmas.Grind.{common_steps}
use Rattle.model.specs.Positions.{LackOf, Ahead, under_at}
use Rattle.model.proofs.Finding.{lack_start, lack_kept, lack_broken}
use Rattle.model.proofs.Turns.{ahead_empty, ahead_test, ahead_turn}
use Rattle.judging.specs.declared.marks.Mark.{Mark}
use Rattle.judging.specs.Marks.{no_mark}
use Rattle.judging.specs.Sets.{bit}
use Rattle.judging.proofs.Missing.{last_left}
use Rattle.judging.proofs.cards.Cards.first_lacking.Goals as goal
use Rattle.judging.proofs.cards.Cards.first_lacking.Goals.{in-Some-first_missing, in_default}

pub loop-i-init : goal.loop-i-init
loop-i-init g c =
    let marks = c.args.self.now.marks.now in
    let left = iter_rest c.into_iter-i-iterator.result.iter.iter in
    let all : left ≡ marks = search rules in
    let has = bit c.args.ahead.now.levels in (
      search rules,
      grind (arith, common_steps),
      λ b t.
          let m = g.B.Book.meaning c.args.self.now.book.now in
          let whole : length b ≡ length left = t.long ∙ sym (ap length all) in
          (subst (λ n. LackOf m b n None) whole (lack_start m b), subst (λ n. Ahead m b 1024 n has) whole (ahead_empty m b 1024 has c.requires)),
    )

pub loop-i-preserved : goal.loop-i-preserved
loop-i-preserved g c =
    let marks = c.args.self.now.marks.now in
    let left = iter_rest c.next.new.self.iter.iter in
    let s = c.in-Some.ensures.steps in
    let inv = c.loop-i.invariant in
    let last = last_left marks (iter_rest c.loop-i.i-iterator.iter.iter) left c.in-Some.mark.now no_mark s.1.0 inv.1 in (
      s.0 ∙ inv.0,
      last.0,
      λ b t.
          let m = g.B.Book.meaning c.args.self.now.book.now in
          let i = length left in
          let x = c.in-Some.mark.now in
          let h : i < length b = let low = last.2 in omega (arith, t.long) in
          let has = bit c.loop-i.ahead.levels in
          let is : get_or marks i no_mark ≡ x = last.3 in
          let row = t.all.row i h ∙ ap (λ (y : Mark). Some y.row) is in
          let at = sym (t.all.level i h) ∙ ap (λ (y : Mark). y.level) is in
          let here : c.in-Some.i ≡ i = let count = inv.0 in let place = s.1.1 in omega arith in
          let lev = t.judgeable.levelled in
          let lack = subst (λ n. LackOf m b n c.loop-i.found) last.1 (inv.2 b t).0 in
          let ahead = subst (λ n. Ahead m b 1024 n has) last.1 (inv.2 b t).1 in
          let under = ahead_test m b 1024 lev i h x.level at x.row row has ahead in (
            elim c.match-first_missing.branch [
              | in-Some-first_missing w ↦ subst (LackOf m b i) (sym (w.found-is ∙ ap (λ n. Some (n, w.in-Some-first_missing.typed)) here)) (lack_broken m b i x.row w.in-Some-first_missing.typed h row (w.in-Some-first_missing.ensures (under_at m b i) under))
              | in_default w ↦ subst (LackOf m b i) (sym w.found-is) (lack_kept m b i x.row c.loop-i.found row lack (w.in_default.ensures (under_at m b i) under))
            ],
            ahead_turn m b 1024 lev i h x.level at x.row row has (bit c.turn.new.self.levels) c.turn.ensures ahead,
          ),
    )

pub returns-clause-lacking : goal.returns-clause-lacking
returns-clause-lacking g c b t =
    let none : length (iter_rest c.loop-i.i-iterator.iter.iter) ≡ 0 = let e = c.in-None.ensures.steps in omega arith in
    subst (λ n. LackOf (g.B.Book.meaning c.args.self.now.book.now) b n c.loop-i.found) none (c.loop-i.invariant.2 b t).0

pub returns-clause-top : goal.returns-clause-top
returns-clause-top g c b t =
    let none : length (iter_rest c.loop-i.i-iterator.iter.iter) ≡ 0 = let e = c.in-None.ensures.steps in omega arith in
    subst (λ n. Ahead (g.B.Book.meaning c.args.self.now.book.now) b 1024 n (bit c.loop-i.ahead.levels)) none (c.loop-i.invariant.2 b t).1
