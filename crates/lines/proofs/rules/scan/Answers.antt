use Rattle.std.proofs.Common.{◌≡◌, ℕ, ◌+◌, ◌≤◌, List, length, sym, refl, ap, ◌∙◌, subst, arith, Ok, Err, Some, Option}
use Rattle.model.specs.Refusals.{Refuses, fault}
use Rattle.model.specs.LineTurns.{line_end}
use Rattle.model.proofs.LineTurns.{next_line_past}
use Rattle.lines.specs.declared.steps.Found.{Found}
use Rattle.lines.specs.Faults.{line_fault}
use Rattle.lines.specs.Counts.{Checks}
use Rattle.lines.specs.Steps.{Comes, NoLineAt, Steps}
use Rattle.lines.proofs.Giving.{came, ended}
use Rattle.lines.proofs.Scanned.{start, step, few, cards_few, no_line, bare, broken, kept}
use Rattle.std.proofs.lemmas.Result.{err_from_is_err_and}
use Rattle.lines.proofs.rules.scan.Goals as goal

pub loop-found-init : goal.loop-found-init
loop-found-init c = (c.new-cursor.ensures.file, start c.args.file.now c.new-cursor.result.at c.new-scan.result c.requires.clean c.new-cursor.ensures.start.0 c.new-scan.ensures)

pub overflow_add-result : goal.overflow_add-result
overflow_add-result c =
    let low = few c.args.file.now c.loop-found.cursor.at c.loop-found.scan c.requires.short c.requires.clean c.loop-found.invariant.1 in
    let within = c.loop-found.cursor.within in
    let same = ap length c.loop-found.invariant.0 in
    let short = c.requires.short in
    omega arith

pub returns-in-Err : goal.returns-in-Err
returns-in-Err c m cards =
    let file = c.args.file.now in
    let t = c.loop-found.scan in
    let (none, (stays, _)) = c.in-Err.ensures.steps in
    subst (λ i. Refuses m file cards (fault 4 (t.lines + 1) i)) (sym stays)
    (no_line file c.loop-found.cursor.at t c.requires.short c.requires.clean c.loop-found.invariant.1 m cards (subst (λ f. NoLineAt f c.loop-found.cursor.at) c.loop-found.invariant.0 none))

came_in : (file other : List ℕ) (at n at' n' : ℕ) (o : Option Found) (f : Found) → other ≡ file → Steps other at n at' n' (Ok o) → o ≡ Some f → Comes file at n at' n' f
came_in file other at n at' n' o f e s is = subst (λ x. Comes x at n at' n' f) e (came other at n at' n' o s f is)

pub after-scan-requires : goal.after-scan-requires
after-scan-requires c =
    let file = c.args.file.now in
    let at = c.loop-found.cursor.at in
    let g = c.loop-found.invariant.1 in
    let low = few file at c.loop-found.scan c.requires.short c.requires.clean g in
    let line = came_in file c.loop-found.cursor.file.now at _ _ _ c.in-Ok-Some.field-0 c.in-Ok-Some.found c.loop-found.invariant.0 c.in-Ok-Some.ensures.steps c.in-Ok-Some.field-0-is in
    let ended = line.ended in
    let from : at ≤ line_end file at = omega arith in
    let short = c.requires.short in
    (omega arith, cards_few file at c.loop-found.scan c.requires.short c.requires.clean g)

pub loop-found-smaller : goal.loop-found-smaller
loop-found-smaller c =
    let file = c.args.file.now in
    let at = c.loop-found.cursor.at in
    let line = came_in file c.loop-found.cursor.file.now at _ _ _ c.in-Ok-Some.field-0 c.in-Ok-Some.found c.loop-found.invariant.0 c.in-Ok-Some.ensures.steps c.in-Ok-Some.field-0-is in
    let ended = line.ended in
    let next = line.next_at in
    let past = next_line_past file at in
    omega arith

pub loop-found-preserved : goal.loop-found-preserved
loop-found-preserved c =
    let file = c.args.file.now in
    let at = c.loop-found.cursor.at in
    let line = came_in file c.loop-found.cursor.file.now at _ _ _ c.in-Ok-Some.field-0 c.in-Ok-Some.found c.loop-found.invariant.0 c.in-Ok-Some.ensures.steps c.in-Ok-Some.field-0-is in (
      c.in-Ok-Some.ensures.file ∙ c.loop-found.invariant.0,
      step file at c.loop-found.cursor.lines c.step.new.self.at c.step.new.self.lines c.loop-found.scan c.in-Ok-Some.found c.look.result c.in-Ok-Some.found.byte c.after-scan.result c.loop-found.invariant.1 line c.look.ensures refl c.after-scan.ensures,
    )

pub returns-then-scan-eq0 : goal.returns-then-scan-eq0
returns-then-scan-eq0 c m cards =
    let file = c.args.file.now in
    let (end, (stays, _)) = ended c.loop-found.cursor.file.now c.loop-found.cursor.at c.loop-found.cursor.lines c.step.new.self.at c.step.new.self.lines c.in-Ok-None.field-0 c.in-Ok-None.ensures.steps c.in-Ok-None.field-0-is in
    let same = ap length c.loop-found.invariant.0 in
    subst (λ i. Refuses m file cards (fault 4 1 i)) (sym stays)
    (bare file c.loop-found.cursor.at c.loop-found.scan c.requires.short c.requires.clean c.loop-found.invariant.1 (omega arith) m cards c.if-scan-eq0.true)

pub returns-in_err-verdict : goal.returns-in_err-verdict
returns-in_err-verdict c =
    let p = err_from_is_err_and c.from_residual.result c.from_residual.ensures.1 in
    let (end, _) = ended c.loop-found.cursor.file.now c.loop-found.cursor.at c.loop-found.cursor.lines c.step.new.self.at c.step.new.self.lines c.in-Ok-None.field-0 c.in-Ok-None.ensures.steps c.in-Ok-None.field-0-is in
    let same = ap length c.loop-found.invariant.0 in
    subst (Checks c.args.file.now) (sym (p.1 ∙ ap Err p.2))
    (λ m cards. broken c.args.file.now c.loop-found.cursor.at c.loop-found.scan c.requires.short c.requires.clean c.loop-found.invariant.1 (omega arith) m cards (line_fault c.in_err-verdict.field-0.0) c.if-scan-eq0.false (sym c.in_err-verdict.ensures))

pub returns : goal.returns
returns c =
    let (end, _) = ended c.loop-found.cursor.file.now c.loop-found.cursor.at c.loop-found.cursor.lines c.step.new.self.at c.step.new.self.lines c.in-Ok-None.field-0 c.in-Ok-None.ensures.steps c.in-Ok-None.field-0-is in
    let same = ap length c.loop-found.invariant.0 in
    kept c.args.file.now c.loop-found.cursor.at c.loop-found.scan c.requires.short c.requires.clean c.loop-found.invariant.1 (omega arith) _ c.if-scan-eq0.false (sym c.in_ok-verdict.ensures) refl refl refl
