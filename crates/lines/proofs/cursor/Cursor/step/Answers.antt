use Rattle.std.proofs.Common.{◌≡◌, ℕ, ◌+◌, ◌-◌, ◌<◌, ◌≤◌, List, length, take, drop, Err, sym, refl, ap, ◌∙◌, subst, inl, inr, arith}
use Rattle.std.proofs.lemmas.Bool.{cases_lt}
use Rattle.std.proofs.lemmas.Result.{err_from_is_err_and}
use Rattle.model.specs.LineTurns.{line_end, next_line}
use Rattle.model.specs.Scan.{parse}
use Rattle.model.proofs.LineTurns.{line_bytes, scanned_lined}
use Rattle.lines.specs.Shown.{Parsed}
use Rattle.lines.specs.Steps.{bytes_at, NoLineAt, Comes, Steps, Gives, BytesCome}
use Rattle.lines.proofs.Giving.{broken_given, line_given}
use Rattle.lines.proofs.cursor.Cursor.step.Goals as goal

cut : (file : List ℕ) (at end : ℕ) → end ≡ line_end file at → bytes_at file at ≡ take (end - at) (drop at file)
cut file at end e = line_bytes file at ∙ ap (λ n. take (n - at) (drop at file)) (sym e)

pub returns-in_err-line : goal.returns-in_err-line
returns-in_err-line c =
    let file = c.args.self.now.file.now in
    let at = c.args.self.now.at in
    let end = c.line_end-end.result in
    let p = err_from_is_err_and c.from_residual.result c.from_residual.ensures.1 in
    let parsed = subst (Parsed (take (end - at) (drop at file))) c.in_err-line.ensures.ok_part c.parse.ensures.parsed in
    let none : NoLineAt file at = (omega arith, inl (ap parse (cut file at end c.line_end-end.ensures.value) ∙ parsed)) in
    let is = sym (p.1 ∙ ap Err p.2) in
    record {
      file = refl;
      steps = subst (Steps file at c.args.self.now.lines at c.args.self.now.lines) is (none, (refl, refl));
      given = λ ps s n. subst (Gives file ps at) is (broken_given file at ps none s);
      bytes = subst (BytesCome file at) is tt;
    }

pub returns-then-self : goal.returns-then-self
returns-then-self c = record { file = refl; steps = (c.if-self.true, (refl, refl)); given = λ ps s n. scanned_lined c.args.self.now.file.now ps c.args.self.now.at s c.if-self.true; bytes = tt }

pub returns-then-end-self : goal.returns-then-end-self
returns-then-end-self c =
    let file = c.args.self.now.file.now in
    let at = c.args.self.now.at in
    let end = c.line_end-end.ensures.value in
    let none : NoLineAt file at = (omega arith, inr (omega arith)) in
    record { file = refl; steps = (none, (refl, refl)); given = λ ps s n. broken_given file at ps none s; bytes = tt }

ended : (file : List ℕ) (at end : ℕ) → end ≡ line_end file at → end ≤ length file → (end ≡ length file → ⊥) → line_end file at < length file
ended file at end e low other = elim (cases_lt (line_end file at) (length file)) [ inl h ↦ h | inr h ↦ absurd (other (omega arith)) ]

pub returns : goal.returns
returns c =
    let file = c.args.self.now.file.now in
    let at = c.args.self.now.at in
    let end = c.line_end-end.ensures in
    let (line, is, shows) = subst (Parsed (take (c.line_end-end.result - at) (drop at file))) c.in_ok-line.ensures.ok_part c.parse.ensures.parsed in
    let comes : Comes file at c.args.self.now.lines c.next_line-self.result (c.args.self.now.lines + 1) _ = record {
      line = line;
      spelled = ap parse (cut file at c.line_end-end.result end.value) ∙ is;
      ended = ended file at c.line_end-end.result end.value end.bounds.1 c.if-end-self.false;
      shows = shows;
      number = refl;
      byte = refl;
      next_at = c.next_line-self.ensures.value ∙ ap (next_line file) end.value;
      next_number = refl;
    } in
    record { file = refl; steps = comes; given = λ ps s n. line_given file at c.args.self.now.lines c.next_line-self.result (c.args.self.now.lines + 1) _ ps comes s n; bytes = sym (cut file at c.line_end-end.result end.value) }
