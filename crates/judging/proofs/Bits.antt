-- Bits of words, and the writes to them. Assumes nothing.
use Rattle.std.proofs.Common.{◌≡◌, ℕ, ◌+◌, ◌/◌, ◌%◌, ◌^◌, ◌<◌, ◌≤◌, Bool, false, not, ◌&&◌, ◌||◌, eqb, List, length, get_or, set, replicate, sym, ap, ◌∙◌, inl, inr, arith, length-set, get_or-set_other, get_or-set_same}
use lib.Bits.{bit_or}
use Rattle.std.specs.Int.{bit_at}
use Rattle.std.proofs.lemmas.Nat.Bits.{bit_at_or, bit_at-lt, bit_at-pow_same, bit_at-pow_other, bit_at-zero}
use Rattle.std.proofs.lemmas.List.{get_or-replicate}
use Rattle.std.proofs.lemmas.Bool.{cases_eq}
use Rattle.std.proofs.lemmas.Bool.Decides.{nat_tests}
use Rattle.std.proofs.lemmas.Grind.{common_steps}
use Rattle.model.specs.Positions.{turned}
use Rattle.judging.specs.declared.sets.Types.{Types}
use Rattle.judging.specs.Sets.{has_type, no_types, bit}

-- a word with one bit set
or_bit : (w s u : ℕ) → eqb (bit_at (bit_or w (2 ^ s)) u) 1 ≡ (eqb (bit_at w u) 1 || eqb u s)
or_bit w s u = grind (arith, nat_tests, bit_at_or, bit_at-lt, bit_at-pow_same, bit_at-pow_other)

-- a type joins a set
pub type_joins : (w : List ℕ) (t u p : ℕ) → t / 64 < length w → p ≡ 2 ^ (t % 64) → has_type (set w (t / 64) (bit_or (get_or w (t / 64) 0) p)) u ≡ (has_type w u || eqb u t)
type_joins w t u p h e = elim (cases_eq (u / 64) (t / 64)) [
  | inl same ↦ (
      let is : get_or (set w (t / 64) (bit_or (get_or w (t / 64) 0) p)) (u / 64) 0 ≡ bit_or (get_or w (u / 64) 0) (2 ^ (t % 64)) = grind (arith, common_steps) in
      let one : eqb (u % 64) (t % 64) ≡ eqb u t = grind (arith, nat_tests) in
      ap (λ x. eqb (bit_at x (u % 64)) 1) is ∙ or_bit (get_or w (u / 64) 0) (t % 64) (u % 64) ∙ ap (λ b. has_type w u || b) one)
  | inr other ↦ ap (λ x. eqb (bit_at x (u % 64)) 1) (get_or-set_other w (t / 64) (u / 64) (bit_or (get_or w (t / 64) 0) p) 0 other) ∙ stays (has_type w u) other
]
  where
    stays : (x : Bool) → (u / 64 ≡ t / 64 → ⊥) → x ≡ (x || eqb u t)
    stays x other = grind (arith, nat_tests)

-- an empty one
abbrev empty : Types
empty = record { words = replicate 16 0 }

none_there : (u : ℕ) → u < 1024 → has_type empty.words u ≡ false
none_there u h = ap (λ w. eqb (bit_at w (u % 64)) 1) (get_or-replicate 16 (u / 64) 0 0 (omega arith)) ∙ ap (λ n. eqb n 1) (bit_at-zero (u % 64))

-- all are empty
pub bit_clear : (k u : ℕ) → k ≤ 64 → u < 1024 → bit (replicate 65 empty) k u ≡ false
bit_clear k u low h = ap (λ (x : Types). has_type x.words u) (get_or-replicate 65 k empty no_types (omega arith)) ∙ none_there u h

-- one is written, and the next becomes empty
pub bit_turned : (levels : List Types) (l t k u : ℕ) (x : Types) → l + 1 < length levels → u < 1024 → has_type x.words u ≡ (bit levels l u || eqb u t) → bit (set (set levels l x) (l + 1) empty) k u ≡ turned (bit levels) l t k u
bit_turned levels l t k u x h lt e = elim (cases_eq k (l + 1)) [
  | inl below ↦ test (ap (λ n. get_or (set first (l + 1) empty) n no_types) below ∙ get_or-set_same first (l + 1) empty no_types (omega (arith, length-set levels l x))) ∙ none_there u lt ∙ gone (bit levels k u) below
  | inr other ↦ test (get_or-set_other first (l + 1) k empty no_types other) ∙ elim (cases_eq k l) [
    | inl here ↦ test (ap (λ n. get_or first n no_types) here ∙ get_or-set_same levels l x no_types (omega arith)) ∙ e ∙ ap (λ n. bit levels n u || eqb u t) (sym here) ∙ joins (bit levels k u) other here
    | inr far ↦ test (get_or-set_other levels l k x no_types far) ∙ stays (bit levels k u) other far
  ]
]
  where
    first : List Types
    first = set levels l x

    test : {x y : Types} → x ≡ y → has_type x.words u ≡ has_type y.words u
    test e = ap (λ (x : Types). has_type x.words u) e

    gone : (x : Bool) → k ≡ l + 1 → false ≡ (x && not (eqb k (l + 1)) || eqb k l && eqb u t)
    gone x below = grind (arith, nat_tests)

    joins : (x : Bool) → (k ≡ l + 1 → ⊥) → k ≡ l → (x || eqb u t) ≡ (x && not (eqb k (l + 1)) || eqb k l && eqb u t)
    joins x other here = grind (arith, nat_tests)

    stays : (x : Bool) → (k ≡ l + 1 → ⊥) → (k ≡ l → ⊥) → x ≡ (x && not (eqb k (l + 1)) || eqb k l && eqb u t)
    stays x other far = grind (arith, nat_tests)
