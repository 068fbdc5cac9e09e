use Rattle.std.proofs.Common.{◌≡◌, ℕ, ◌+◌, ◌-◌, false, cond, List, length, sym, refl, ap, ◌∙◌, inl, inr, arith, length-append}
use Rattle.std.proofs.lemmas.Bool.{cond-true, cond-false, cases_Bool}
use Rattle.model.specs.Datasets.{MARK}
use Rattle.model.specs.LineTurns.{is_marked, last_with, spot}
use Rattle.model.proofs.LineTurns.{marked_decides}
use Rattle.model.proofs.Scans.{turn_start}
use Rattle.characters.specs.Marks.{TakenOff}
use Rattle.lines.proofs.cursor.Cursor.new.Goals as goal

start : (file rest : List ℕ) → TakenOff file rest → length file - length rest ≡ cond (is_marked file) 3 0
start file rest (inl e) = let long : length file ≡ 3 + length rest = ap length e ∙ length-append MARK rest in let three : length file - length rest ≡ 3 = omega arith in three ∙ sym (cond-true (is_marked file) 3 0 ((marked_decides file).1 (rest, e)))
start file rest (inr (none, same)) =
    let long : length rest ≡ length file = ap length same in
    let nothing : length file - length rest ≡ 0 = omega arith in
    elim (cases_Bool (is_marked file)) [
      | inl t ↦ absurd (none ((marked_decides file).0 t))
      | inr f ↦ nothing ∙ sym (cond-false (is_marked file) 3 0 f)
    ]

pub returns : goal.returns
returns c =
    let file = c.args.file.now in
    let at = start file c.without_mark.result.now c.without_mark.ensures in
    record { file = refl; start = (at, refl); begins = λ clean. (turn_start file 0 _ (last_with 0 false false) false (spot 0 0) (is_marked file) clean refl at).scanned }
