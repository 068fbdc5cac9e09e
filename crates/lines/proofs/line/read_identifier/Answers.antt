use Rattle.std.proofs.lemmas.Slice.Eq.{slice_eq-Decides}
use Rattle.std.proofs.lemmas.Bool.Decides.{Decides-eqb}
use Rattle.std.proofs.Common.{◌≡◌, Some, sym, ap, ◌∙◌, subst, arith, lit<}
use Rattle.std.proofs.lemmas.Bool.{both_ways}
use Rattle.model.specs.Lines.{VOID}
use Rattle.model.specs.Scan.{marked, read_identifier}
use Rattle.lines.specs.Shown.{ReadsIdentifier}
use Rattle.lines.proofs.Readers.{first_is, identifier_none, identifier_void, identifier_joined, identifier_found}
use Rattle.lines.proofs.line.read_identifier.Goals as goal

pub returns-in_err-identifier-in-64 : goal.returns-in_err-identifier-in-64
returns-in_err-identifier-in-64 c =
    let bs = c.args.bytes.now in
    let (cs, is) = first_is 64 bs (lit< tt) (omega arith) in
    subst (ReadsIdentifier bs) (sym c.from_residual.ensures) (ap read_identifier is ∙ identifier_none cs (c.in_err-identifier-in-64.ensures cs is))

pub returns-then-eq : goal.returns-then-eq
returns-then-eq c =
    let bs = c.args.bytes.now in
    let (cs, is) = first_is 64 bs (lit< tt) (omega arith) in
    let (name, found, whole) = c.in_ok-identifier-in-64.ensures cs is in
    ap read_identifier is ∙ identifier_void cs name c.in_ok-identifier-in-64.rest.now found (sym whole ∙ (slice_eq-Decides Decides-eqb _ _ c.eq.result c.eq.ensures).0 c.if-eq.true)

pub returns-in_err-read_space-in-64 : goal.returns-in_err-read_space-in-64
returns-in_err-read_space-in-64 c =
    let bs = c.args.bytes.now in
    let (cs, is) = first_is 64 bs (lit< tt) (omega arith) in
    let (name, found, whole) = c.in_ok-identifier-in-64.ensures cs is in
    let named : marked name ≡ VOID → ⊥ = λ v. both_ways c.eq.result c.if-eq.false ((slice_eq-Decides Decides-eqb _ _ c.eq.result c.eq.ensures).1 (whole ∙ v)) in
    subst (ReadsIdentifier bs) (sym c.from_residual-in_err-read_space-in-64.ensures) (ap read_identifier is ∙ identifier_joined cs name c.in_ok-identifier-in-64.rest.now found named (sym c.in_err-read_space-in-64.ensures))

pub returns-in_ok-read_space-in-64 : goal.returns-in_ok-read_space-in-64
returns-in_ok-read_space-in-64 c =
    let bs = c.args.bytes.now in
    let (cs, is) = first_is 64 bs (lit< tt) (omega arith) in
    let (name, found, whole) = c.in_ok-identifier-in-64.ensures cs is in
    let named : marked name ≡ VOID → ⊥ = λ v. both_ways c.eq.result c.if-eq.false ((slice_eq-Decides Decides-eqb _ _ c.eq.result c.eq.ensures).1 (whole ∙ v)) in
    let more = c.in_ok-read_space-in-64.field-0.now in
    ap read_identifier is ∙ identifier_found cs name c.in_ok-identifier-in-64.rest.now found more named (sym c.in_ok-read_space-in-64.ensures) ∙ (λ i. Some (Some (sym whole i), more))
