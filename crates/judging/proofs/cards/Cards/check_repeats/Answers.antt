use Rattle.std.proofs.Common.{◌<◌, length, get_or, sym, ◌∙◌, arith}
use Rattle.model.specs.Refusals.{single}
use Rattle.model.specs.Positions.{KeepsAt}
use Rattle.model.proofs.Finding.{first_start, first_kept, row_keeps}
use Rattle.model.proofs.Turns.{seen_empty, seen_test, seen_turn, single_many, single_new}
use Rattle.judging.specs.Marks.{no_mark}
use Rattle.judging.specs.Sets.{bit}
use Rattle.judging.proofs.cards.Cards.check_repeats.Goals as goal
use Rattle.judging.proofs.cards.Cards.check_repeats.Goals.{else-not-mark-via-then-not-mark+else-has, else-not-mark-via-else-not-mark}

pub loop-i-init : goal.loop-i-init
loop-i-init g c b t =
    let m = g.B.Book.meaning c.args.self.now.book.now in
    (first_start (KeepsAt m b single), seen_empty m b 1024 (bit c.new-seen.result.levels) (λ u h. c.new-seen.ensures 0 u (omega arith) h))

pub loop-i-preserved : goal.loop-i-preserved
loop-i-preserved g c b t =
    let m = g.B.Book.meaning c.args.self.now.book.now in
    let i = c.loop-i.i in
    let x = get_or c.args.self.now.marks.now i no_mark in
    let r = x.row in
    let h : i < length b = omega (arith, t.long) in
    let inv = c.loop-i.invariant b t in
    let small = c.args.self.now.small i (omega arith) in
    let row = t.all.row i h in
    let at = sym (t.all.level i h) in
    let has = bit c.loop-i.seen.levels in
    let seen = seen_test m b 1024 t.judgeable.levelled i h x.level at r row has inv.1 small.few in
    let kept : KeepsAt m b single i = row_keeps m b single i r row (elim c.else-not-mark.branch [
      | else-not-mark-via-then-not-mark+else-has w ↦ single_new m b i r (has x.level r.typed) seen (sym w.has.ensures ∙ w.if-has.false)
      | else-not-mark-via-else-not-mark w ↦ single_many m b i r w.if-not-mark.false
    ]) in
    (first_kept (KeepsAt m b single) i inv.0 kept, seen_turn m b 1024 t.judgeable.levelled i h x.level at r row has (bit c.turn.new.self.levels) c.turn.ensures inv.1)
