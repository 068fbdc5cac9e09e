-- Which cards of a dataset a removal may name, by how many there are before the trailer's. Assumes nothing.
use Rattle.std.proofs.Common.{◌≡◌, ℕ, ◌<◌, ◌≤◌, true, false, length, Some, is_le, is_lt, nat_cmp, inl, inr, arith}
use Rattle.std.specs.Range.{TellsInRange}
use Rattle.std.proofs.lemmas.Bool.Decides.{nat_tests}
use Rattle.model.specs.Datasets.{Dataset, entries}
use Rattle.model.specs.Edits.{body}
use Rattle.model.proofs.Turns.{length_body}
use Rattle.removing.specs.Planning.{Inner}

le_true : (a b : ℕ) → is_le (nat_cmp a b) ≡ true → a ≤ b
le_true a b e = grind (arith, nat_tests)

le_false : (a b : ℕ) → is_le (nat_cmp a b) ≡ false → b < a
le_false a b e = grind (arith, nat_tests)

lt_true : (a b : ℕ) → is_lt (nat_cmp a b) ≡ true → a < b
lt_true a b e = grind (arith, nat_tests)

lt_false : (a b : ℕ) → is_lt (nat_cmp a b) ≡ false → b ≤ a
lt_false a b e = grind (arith, nat_tests)

module _ (d : Dataset) (k n : ℕ) (counted : n ≡ length (body (entries d))) where
  pub inner : TellsInRange (λ x y. Some (nat_cmp x y)) 1 n k true → Inner d k
  inner (low, high) = let long = length_body (entries d) in let below = lt_true k n high in record { low = le_true 1 k low; high = omega arith }

  pub outer : TellsInRange (λ x y. Some (nat_cmp x y)) 1 n k false → Inner d k → ⊥
  outer (inl e) i = let low = i.low in let past = le_false 1 k e in omega arith
  outer (inr e) i = let long = length_body (entries d) in let high = i.high in let past = lt_false k n e in omega arith
