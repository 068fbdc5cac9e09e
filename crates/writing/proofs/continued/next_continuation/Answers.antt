use Rattle.std.proofs.Common.{◌≡◌, ℕ, Bool, true, false, List, [], Option, MatchOption, Decides, refl, sym, subst, arith}
use Rattle.std.specs.Borrow.{Bor}
use Rattle.std.specs.Bool.{then_some}
use Rattle.model.specs.Datasets.{CONT}
use Rattle.lines.specs.declared.cursor.Cursor.{Cursor}
use Rattle.lines.specs.declared.steps.Found.{Found}
use Rattle.lines.specs.Iterating.{Yields}
use Rattle.writing.specs.Own.{NextOf, GoesOn, Advances}
use Rattle.std.proofs.lemmas.Bool.Decides.{not_from_Decides}
use Rattle.writing.proofs.Trails.{trails_next, trails_stop, trails_end, comes_past}
use Rattle.writing.proofs.continued.next_continuation.Goals as goal

module _ (s : Cursor) (f : Found) (t : Cursor) (y : Yields s f t) where
  goes : (b : Bool) → Decides b (f.line.tag.now ≡ CONT) → GoesOn s.file.now s.at t.at (then_some b f.bytes)
  goes true d level texts trails = trails_next s.file.now s.at _ _ _ level f y.comes y.bytes texts trails (d.0 refl)
  goes false d level texts trails = trails_stop s.file.now s.at _ _ _ level f y.comes y.bytes texts trails (not_from_Decides false d refl)

  advances : (b : Bool) → Advances s.at t.at (then_some b f.bytes)
  advances true = comes_past s.file.now s.at _ _ _ f y.comes y.bytes
  advances false = let past = comes_past s.file.now s.at _ _ _ f y.comes y.bytes in omega arith

pub returns : goal.returns
returns c =
    let s = c.args.cursor.now in
    let t = c.next.new.self in
    let f = c.in_ok-found.found in
    let step = c.in_ok-found.ensures.steps in
    let is = sym c.then_some.ensures in
    record {
      file = step.file;
      goes = subst (GoesOn s.file.now s.at t.at) is (goes s f t step c.is_continuation.result c.is_continuation.ensures);
      advances = subst (Advances s.at t.at) is (advances s f t step c.is_continuation.result);
    }

pub returns-in_err-found : goal.returns-in_err-found
returns-in_err-found c =
    let s = c.args.cursor.now in
    let next = c.next.new.self.at in
    let (file, stops, stays) = c.in_err-found.ensures.steps in
    let is = sym c.from_residual.ensures in
    record {
      file = file;
      goes = λ level texts t. subst (λ (r : Option (Bor (List ℕ))). MatchOption r (texts ≡ []) (λ b. NextOf s.file.now next level texts b.now)) is (trails_end s.file.now s.at level texts t stops);
      advances = subst (Advances s.at next) is (omega (arith, stays.0));
    }
