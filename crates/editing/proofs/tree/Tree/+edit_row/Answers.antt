use Rattle.std.proofs.Common.{◌<◌, length, sym, ◌∙◌, arith}
use Rattle.model.proofs.Flat.{edit_behind}
use Rattle.editing.specs.Rows.{types_in}
use Rattle.editing.proofs.Descent.{step_over}
use Rattle.editing.proofs.tree.Tree.+edit_row.Goals as goal
use Rattle.editing.proofs.tree.Tree.+edit_row.Goals.{else-level-siblings-2-via-then-level-siblings-2+else-card-stop, else-level-siblings-2-via-else-level-siblings-2}

pub loop-at-preserved : goal.loop-at-preserved
loop-at-preserved g t c b s =
    let m = g.B.Book.meaning c.args.self.now.book.now in
    let at = c.loop-at.at in
    let x = c.args.siblings.context in
    let l = c.args.siblings.level in
    let k = c.args.card in
    let all = types_in m b c.args.siblings in
    let stop = c.block_end-stop.result in
    let ends = c.block_end-stop.ensures.ends b s in
    let long = c.args.self.now.counted b s in
    let h : at < length b = omega arith in
    let level = c.level-level.ensures.level b s h in
    c.loop-at.invariant b s ∙ elim c.else-level-siblings-2.branch [
      | else-level-siblings-2-via-then-level-siblings-2+else-card-stop w ↦ edit_behind b at l m x all k stop h (sym level ∙ w.if-level-siblings-2.true) ends w.if-card-stop.false
      | else-level-siblings-2-via-else-level-siblings-2 w ↦ (let other = w.if-level-siblings-2.false in let low = c.if-level-siblings.false in step_over m b x all l k at stop ends h (omega arith))
    ]
