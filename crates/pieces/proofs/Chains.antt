-- The model's questions about every byte or word, as chains of iterators ask them. Assumes nothing.
use Rattle.std.proofs.Common.{◌≡◌, ◌≤◌, ℕ, sum_by, ◌+◌, Bool, true, false, not, ◌&&◌, ◌||◌, eqb, cond, List, [], ◌∷◌, length, map, refl, ap, ◌∙◌, arith, Bor}
use Rattle.std.specs.Char.{is_ascii_digit}
use Rattle.std.specs.List.{list_any, list_all}
use Rattle.std.specs.Str.{bytes_eq}
use Rattle.std.proofs.lemmas.Grind.{common_steps}
use Rattle.std.proofs.lemmas.List.Sums.{sum_by-cons, sum_by-le}
use Rattle.model.specs.Kinds.{all_digits, all_spaces, slashes, no_tab}
use Rattle.model.specs.Tables.{among}

pub digits_by_all : (t : List ℕ) → all_digits t ≡ list_all is_ascii_digit t
digits_by_all [] = refl
digits_by_all (c ∷ cs) = ap (λ b. is_ascii_digit c && b) (digits_by_all cs)

pub spaces_by_all : (t : List ℕ) → all_spaces t ≡ list_all (λ c. eqb c 32) t
spaces_by_all [] = refl
spaces_by_all (c ∷ cs) = ap (λ b. eqb c 32 && b) (spaces_by_all cs)

-- what a byte adds to the number of slashes
abbrev pub slash : ℕ → ℕ
slash c = cond (eqb c 47) 1 0

pub slashes_by_sum : (t : List ℕ) → sum_by slash t ≡ slashes t
slashes_by_sum [] = refl
slashes_by_sum (c ∷ cs) = sum_by-cons slash c cs ∙ ap (λ n. slash c + n) (slashes_by_sum cs)

one_at_most : (c : ℕ) → slash c ≤ 1
one_at_most c = grind (arith, common_steps)

pub slashes_within : (t : List ℕ) → sum_by slash t ≤ length t
slashes_within t = let n = sum_by-le slash 1 t (λ i d lt. one_at_most _) in omega arith

none_of : (b c : Bool) → (not b && not c) ≡ not (b || c)
none_of true c = refl
none_of false c = refl

pub tab_by_any : (t : List ℕ) → no_tab t ≡ not (list_any (λ c. eqb c 9) t)
tab_by_any [] = refl
tab_by_any (c ∷ cs) = ap (λ b. not (eqb c 9) && b) (tab_by_any cs) ∙ none_of (eqb c 9) (list_any (λ c. eqb c 9) cs)

pub among_by_any : (w : List ℕ) (ws : List (Bor (List ℕ))) → among (map (λ x. x.now) ws) w ≡ list_any (λ x. bytes_eq x.now w) ws
among_by_any w [] = refl
among_by_any w (v ∷ vs) = ap (λ b. bytes_eq v.now w || b) (among_by_any w vs)
