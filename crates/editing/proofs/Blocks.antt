-- Where a block ends. Assumes nothing.
use Rattle.std.proofs.Common.{◌≡◌, ℕ, zero, suc, ◌+◌, ◌<◌, ◌≤◌, List, length, get_or, drop, ◌⊎◌, refl, ap, inl, inr, arith}
use Rattle.model.specs.Datasets.{Entry}
use Rattle.model.specs.Edits.{block, no_entry}
use Rattle.model.proofs.Flat.{block_ends, block_stops, block_more}

module _ (b : List Entry) (l from : ℕ) where
  -- as far as all are deeper
  block_run : (n i : ℕ) → i ≡ from + n → i ≤ length b → ((k : ℕ) → from ≤ k → k < i → l < (get_or b k no_entry).level) → block l (drop from b) ≡ n + block l (drop i b)
  block_run zero i e h deep = let same : from ≡ i = omega arith in omega (arith, ap (λ x. block l (drop x b)) same)
  block_run (suc n) i e h deep =
      let j = from + n in
      let next : j + 1 ≡ i = omega arith in
      omega (arith, block_run n j refl (omega arith) (λ k low lt. deep k low (omega arith)), block_more b j l (omega arith) (deep j (omega arith) (omega arith)), ap (λ x. block l (drop x b)) next)

  -- and then one that is not, or the end
  pub block_walked : (n : ℕ) → ((k : ℕ) → from ≤ k → k < from + n → (k < length b) × (l < (get_or b k no_entry).level)) → (length b ≤ from + n ⊎ (from + n < length b) × ((get_or b (from + n) no_entry).level ≤ l)) → n ≡ block l (drop from b)
  block_walked zero deep (inl over) = omega (arith, block_ends b from l (omega arith))
  block_walked (suc n) deep (inl over) =
      let last : from + n < length b = (deep (from + n) (omega arith) (omega arith)).0 in
      omega (arith, block_run (suc n) (from + suc n) refl (omega arith) (λ k low h. (deep k low h).1), block_ends b (from + suc n) l (omega arith))
  block_walked n deep (inr (h, stops)) = omega (arith, block_run n (from + n) refl (omega arith) (λ k low h. (deep k low h).1), block_stops b (from + n) l h stops)
