-- A rule of a table, shown at all of its entries by one test that is computed. Assumes nothing.
use Rattle.std.proofs.Common.{◌≡◌, ℕ, zero, suc, ◌+◌, ◌<◌, Bool, true, ◌&&◌, List, [], ◌∷◌, length, get_or, subst, arith}
use Rattle.std.proofs.lemmas.Bool.{and_parts}

-- the test passes at each entry and its place, counted from i
abbrev pub every : (ℕ → ℕ → Bool) → ℕ → List ℕ → Bool
every f i [] = true
every f i (x ∷ xs) = f i x && every f (suc i) xs

from : (f : ℕ → ℕ → Bool) (xs : List ℕ) (i : ℕ) → every f i xs ≡ true → (k : ℕ) → k < length xs → f (i + k) (get_or xs k 0) ≡ true
from f [] i t k h = absurd (omega arith)
from f (x ∷ xs) i t zero h = let e : i ≡ i + zero = omega arith in subst (λ m. f m x ≡ true) e (and_parts (f i x) (every f (suc i) xs) t).0
from f (x ∷ xs) i t (suc k) h = let e : suc i + k ≡ i + suc k = omega arith in subst (λ m. f m (get_or xs k 0) ≡ true) e (from f xs (suc i) (and_parts (f i x) (every f (suc i) xs) t).1 k (omega arith))

pub entry : (f : ℕ → ℕ → Bool) (xs : List ℕ) → every f 0 xs ≡ true → (k : ℕ) → k < length xs → f k (get_or xs k 0) ≡ true
entry f xs t k h = let e : 0 + k ≡ k = omega arith in subst (λ m. f m (get_or xs k 0) ≡ true) e (from f xs 0 t k h)
