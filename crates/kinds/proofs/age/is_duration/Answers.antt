use Rattle.std.proofs.Common.{◌≡◌, ℕ, List, [], ◌∷◌, ◌++◌, codes, sym, refl, ap, ◌∙◌, rules, arith}
use Rattle.std.proofs.iter.Yields.{fronts}
use Rattle.std.proofs.lemmas.Fn.{fold_over}
use Rattle.std.proofs.lemmas.Iterator.{YieldsList-from_slice}
use Rattle.std.proofs.lemmas.Grind.{common_steps}
use Rattle.model.specs.Grammar.{after_unit, after_units}
use Rattle.pieces.specs.Words.{words_of}
use Rattle.kinds.proofs.age.is_duration.Goals as goal

after_one_more : (us : List ℕ) (u : ℕ) (ws : List (List ℕ)) → after_units (us ++ u ∷ []) ws ≡ after_unit u (after_units us ws)
after_one_more [] u ws = refl
after_one_more (v ∷ vs) u ws = after_one_more vs u (after_unit v ws)

pub returns-then-not-is_empty : goal.returns-then-not-is_empty
returns-then-not-is_empty c =
    let ws = words_of c.args.words in
    let units : List ℕ = codes "ymwd" in
    let after : words_of c.fold-rest.result ≡ after_units units ws =
    fold_over (fronts {A = ℕ}) _ _ (λ us rest. words_of rest ≡ after_units us ws) _
    (λ us rest u next f' is k. let step : words_of next ≡ after_unit u.now (words_of rest) = search rules in (step ∙ ap (after_unit u.now) is ∙ sym (after_one_more us u.now ws), search rules))
    c.iter.result units c.args.words c.fold-rest.result (YieldsList-from_slice {s = c.iter.result} units cc).runs refl c.fold-rest.ensures.ran in
    grind (arith, common_steps)
