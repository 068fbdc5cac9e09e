use Rattle.std.proofs.Common.{◌≡◌, ◌≤◌, ◌⊎◌, length, inl, Ok, Err, sym}
use Rattle.std.proofs.lemmas.Bool.{ltb-false, ltb-true}
use Rattle.std.proofs.lemmas.Bool.Decides.{Decides-eqb}
use Rattle.std.proofs.lemmas.Slice.Eq.{slice_eq-Decides}
use Rattle.naming.proofs.Indexing.{ended_at, absent_by, found_by}
use Rattle.naming.proofs.find.Goals as goal
use Rattle.naming.proofs.find.Goals.{in-Ok, in-Ok-2}

pub returns-in_err-entry : goal.returns-in_err-entry
returns-in_err-entry c =
    let at = c.match-binary_search.at in
    let ended : (c.binary_search.result ≡ Ok at) ⊎ (c.binary_search.result ≡ Err at) = elim c.match-binary_search.branch [ in-Ok w ↦ ended_at c.binary_search.result at _ w.in-Ok.is w.at-is | in-Ok-2 w ↦ ended_at c.binary_search.result at _ w.in-Ok.is w.at-is ] in
    let past : length c.args.names.now ≤ at = ltb-false at (length c.args.names.now) (sym c.in_err-entry.ensures.lookup.0) in
    rw c.from_residual.ensures (absent_by c.args.names.now c.args.name c.binary_search.result at c.binary_search.ensures.position c.binary_search.ensures.bound ended (inl past))

pub returns : goal.returns
returns c =
    let at = c.match-binary_search.at in
    let ended : (c.binary_search.result ≡ Ok at) ⊎ (c.binary_search.result ≡ Err at) = elim c.match-binary_search.branch [ in-Ok w ↦ ended_at c.binary_search.result at _ w.in-Ok.is w.at-is | in-Ok-2 w ↦ ended_at c.binary_search.result at _ w.in-Ok.is w.at-is ] in
    let low = ltb-true at (length c.args.names.now) (sym c.in_ok-entry.ensures.lookup.0) in
    rw c.then_some.ensures (found_by c.args.names.now c.args.name c.binary_search.result at c.binary_search.ensures.position c.binary_search.ensures.bound ended c.eq.result c.in_ok-entry.entry.now low c.in_ok-entry.ensures.lookup.1 (slice_eq-Decides Decides-eqb _ _ c.eq.result c.eq.ensures))
