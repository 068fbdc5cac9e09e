use Rattle.std.proofs.Common.{◌≡◌, ◌<◌, length, get_or, replicate, Some, None, sym, refl, subst, ◌∙◌, arith, length-set}
use Rattle.std.specs.Result.{result_err}
use Rattle.std.proofs.lemmas.Grind.{common_steps}
use Rattle.model.specs.declared.Context.TheVariants.{Top}
use Rattle.model.specs.Refusals.{known}
use Rattle.model.specs.Positions.{KeepsAt, row_at}
use Rattle.model.proofs.Finding.{first_broken, no_row_breaks}
use Rattle.model.proofs.Turns.{contexts_start, contexts_more}
use Rattle.judging.specs.Marks.{RowsOf}
use Rattle.judging.proofs.Marking.{marked_none, marked_more, marked_known, row_found, small_more}
use Rattle.judging.proofs.marks.mark_all.Goals as goal

pub loop-i-init : goal.loop-i-init
loop-i-init g c = (
  refl,
  λ j h. absurd (omega arith),
  λ b s ok long.
      let m = g.B.Book.meaning c.args.book.now in
      (contexts_start m b ok.levelled (replicate 65 Top) refl, marked_none m b c.args.marks.now),
)

pub returns-in_err-row-clause-rows : goal.returns-in_err-row-clause-rows
returns-in_err-row-clause-rows g c b s ok long =
    let m = g.B.Book.meaning c.args.book.now in
    let i = c.loop-i.i in
    let l = c.level_of-level.result in
    let h : i < length b = omega arith in
    let inv = c.loop-i.invariant.2 b s ok (long ∙ sym c.loop-i.auto.marks) in
    let none : c.row.result ≡ None = grind (arith, common_steps) in
    let row : row_at m b i ≡ None = row_found m b ok.levelled i h l (c.level_of-level.ensures.level b s ok.levelled h) c.loop-i.contexts inv.0 c.tag.result.now (c.tag.ensures b s h) None (sym none ∙ c.row.ensures) in
    let told : result_err c.from_residual.result ≡ Some i = grind (arith, common_steps) in
    subst (RowsOf m b _) (sym told) (first_broken (KeepsAt m b known) i (length b) h (marked_known m b c.loop-i.marks i inv.1) (no_row_breaks m b i row))

pub loop-i-preserved : goal.loop-i-preserved
loop-i-preserved g c =
    let i = c.loop-i.i in
    let l = c.level_of-level.result in
    let r = c.in_ok-row.row in
    let m = g.B.Book.meaning c.args.book.now in
    let lawful = g.met.B.Book.lawful c.args.book.now in
    let some : c.row.result ≡ Some r = grind (arith, common_steps) in
    let is : m.row (get_or c.loop-i.contexts l Top) c.tag.result.now ≡ Some r = sym c.row.ensures ∙ some in
    let below = lawful.row_below (get_or c.loop-i.contexts l Top) c.tag.result.now r is in
    let few = lawful.few in
    let low = c.level_of-level.ensures.shallow in
    let room = c.loop-i.invariant.0 in (
      length-set c.loop-i.contexts _ _ ∙ room,
      small_more c.loop-i.marks i (record { level = l; row = r }) (omega arith) c.loop-i.invariant.1 (record { shallow = low; few = omega arith }),
      λ b s ok long.
          let h : i < length b = omega (arith, length-set c.loop-i.marks i (record { level = l; row = r })) in
          let inv = c.loop-i.invariant.2 b s ok (long ∙ length-set c.loop-i.marks i (record { level = l; row = r })) in
          let at = c.level_of-level.ensures.level b s ok.levelled h in
          let row : row_at m b i ≡ Some r = row_found m b ok.levelled i h l at c.loop-i.contexts inv.0 c.tag.result.now (c.tag.ensures b s h) (Some r) (sym is) in (
            contexts_more m b ok.levelled i h l (sym at) c.loop-i.contexts inv.0 r row (omega arith),
            marked_more m b c.loop-i.marks i (record { level = l; row = r }) (omega arith) inv.1 at row,
          ),
    )
