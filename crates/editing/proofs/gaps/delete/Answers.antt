use Rattle.std.proofs.Common.{◌≡◌, ℕ, ◌+◌, ◌-◌, ◌≤◌, List, [], ◌++◌, length, replicate, take, drop, ap, ap₂, ◌∙◌, arith, append-nil, drop-drop, length-drop}
use borrow.Rule.Slice.PartMut.{put_mid}
use Rattle.std.proofs.Math.Seq.{paste}
use Rattle.std.proofs.lemmas.List.{take_rest, drop_all}
use Rattle.std.proofs.lemmas.List.Edits.{take-paste}
use Rattle.model.specs.Cards.{blank}
use Rattle.model.specs.Edits.{without}
use Rattle.editing.proofs.gaps.delete.Goals as goal

-- what stands behind a gap has moved up to its start, and the end is filled
closed : {A : Type 0} (from to end : ℕ) (xs moved fill : List A) (y : A) → from ≤ to → to ≤ length xs → end ≡ from + (length xs - to) → moved ≡ paste xs from (drop to xs) (length xs - to) → length moved ≡ length xs → fill ≡ replicate (length (take (length moved - end) (drop end moved))) y → put_mid end (length moved - end) moved fill ≡ without from to xs ++ replicate (to - from) y
closed from to end xs moved fill y order inside at m long f =
    let kept : take end moved ≡ without from to xs = ap₂ take at m ∙ take-paste xs from (drop to xs) (length xs - to) (omega arith) (omega (arith, length-drop to xs)) ∙ ap (λ l. take from xs ++ l) (take_rest xs to) in
    let none : drop (length moved - end) (drop end moved) ≡ [] = drop-drop (length moved - end) end moved ∙ drop_all (end + (length moved - end)) moved (omega arith) in
    let gap : length (take (length moved - end) (drop end moved)) ≡ to - from = ap length (take_rest moved end) ∙ omega (arith, length-drop end moved) in
    ap₂ (λ a b. a ++ b) kept (ap₂ (λ a b. a ++ b) (f ∙ ap (λ n. replicate n y) gap) none ∙ append-nil (replicate (to - from) y))

pub returns : goal.returns
returns c =
    let cs = c.args.cards.now in
    closed c.args.from c.args.to (length cs - (c.args.to - c.args.from)) cs c.copy_within.new.self c.fill.new.self blank c.requires.ordered c.requires.inside (omega arith) c.copy_within.ensures.after c.copy_within.ensures.len (c.fill.ensures.after (λ y same. same))
