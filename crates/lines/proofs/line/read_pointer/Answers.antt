use Rattle.std.proofs.lemmas.Slice.Eq.{slice_eq-Decides}
use Rattle.std.proofs.lemmas.Bool.Decides.{Decides-eqb}
use Rattle.std.proofs.Common.{◌≡◌, Some, sym, ◌∙◌, subst, arith}
use Rattle.std.proofs.lemmas.Bool.{both_ways}
use Rattle.std.proofs.lemmas.Bool.Decides.{nat_tests}
use Rattle.model.specs.Lines.{pointer, VOID}
use Rattle.model.specs.Scan.{marked, read_marked}
use Rattle.lines.specs.Shown.{ReadsValue}
use Rattle.lines.proofs.Readers.{pointer_none, pointer_followed, pointer_void, pointer_found}
use Rattle.lines.proofs.line.read_pointer.Goals as goal

pub returns-in_err-pointer : goal.returns-in_err-pointer
returns-in_err-pointer c cs is other = subst (ReadsValue read_marked cs) (sym c.from_residual.ensures) (pointer_none cs other (c.in_err-pointer.ensures cs is))

pub returns-then-not-is_empty : goal.returns-then-not-is_empty
returns-then-not-is_empty c cs is other =
    let (name, found, whole) = c.in_ok-pointer.ensures cs is in
    let e = c.if-not-is_empty.ensures in
    pointer_followed cs other name c.in_ok-pointer.rest.now found (λ z. grind (arith, nat_tests))

pub returns-then-eq : goal.returns-then-eq
returns-then-eq c cs is other =
    let (name, found, whole) = c.in_ok-pointer.ensures cs is in
    let e = c.if-not-is_empty.ensures in
    pointer_void cs other name c.in_ok-pointer.rest.now found (grind (arith, nat_tests)) (sym whole ∙ (slice_eq-Decides Decides-eqb _ _ c.eq.result c.eq.ensures).0 c.if-eq.true)

pub returns-else-eq : goal.returns-else-eq
returns-else-eq c cs is other =
    let (name, found, whole) = c.in_ok-pointer.ensures cs is in
    let e = c.if-not-is_empty.ensures in
    let named : marked name ≡ VOID → ⊥ = λ v. both_ways c.eq.result c.if-eq.false ((slice_eq-Decides Decides-eqb _ _ c.eq.result c.eq.ensures).1 (whole ∙ v)) in
    pointer_found cs other name c.in_ok-pointer.rest.now found (grind (arith, nat_tests)) named ∙ (λ i. Some (pointer (sym whole i)))
