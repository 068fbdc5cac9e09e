use Rattle.std.proofs.Common.{◌≡◌, ℕ, ◌+◌, ◌-◌, ◌*◌, ◌<◌, min, List, [], ◌∷◌, ◌++◌, map, length, get_or, take, sym, ap, ◌∙◌, arith}
use Rattle.std.specs.Int.Digits.{number_from_digits}
use Rattle.std.proofs.lemmas.List.{take_all, take_more, map-append}
use Rattle.model.specs.Scan.{number_of}
use Rattle.model.proofs.Cutting.{capped_push}
use Rattle.lines.proofs.part.capped.Goals as goal

-- one digit more
more : (digits : List ℕ) (i n m : ℕ) → i < length digits → n ≡ min 100 (number_of (take i digits)) → m ≡ min 100 (n * 10 + (get_or digits i 0 - 48)) → m ≡ min 100 (number_of (take (i + 1) digits))
more digits i n m h e f =
    let value : ℕ → ℕ = λ c. c - 48 in
    let cut : number_of (take (i + 1) digits) ≡ number_from_digits 10 (map value (take i digits) ++ value (get_or digits i 0) ∷ []) = ap number_of (take_more digits i 0 h) ∙ ap (number_from_digits 10) (map-append value (take i digits) (get_or digits i 0 ∷ [])) in
    f ∙ ap (λ k. min 100 (k * 10 + (get_or digits i 0 - 48))) e ∙ sym (capped_push 100 (map value (take i digits)) (value (get_or digits i 0))) ∙ ap (min 100) (sym cut)

pub overflow_mul-n : goal.overflow_mul-n
overflow_mul-n c = let h = c.loop-d.invariant in omega arith

pub loop-d-preserved : goal.loop-d-preserved
loop-d-preserved c = more c.args.digits.now c.loop-d.d-index c.loop-d.n c.min-n.result c.loop-d-test.true c.loop-d.invariant (omega arith)

pub returns : goal.returns
returns c = c.loop-d.invariant ∙ ap (λ ds. min 100 (number_of ds)) (take_all c.loop-d.d-index c.args.digits.now c.loop-d-test.false)
