-- The readers of a line's parts, case by case. Assumes nothing.
use Rattle.std.proofs.Common.{◌≡◌, ℕ, ◌<◌, true, false, cond, List, [], ◌∷◌, length, get_or, drop, Some, None, codes, Decides, refl, ap, ◌∙◌, inl, inr, arith}
use mathlib.Core.List.{append_cancel_right}
use Rattle.std.proofs.lemmas.Slice.Eq.{bytes_eq-Decides}
use Rattle.std.proofs.lemmas.Bool.{cond-true, cond-false, cases_Bool}
use Rattle.std.proofs.lemmas.Bool.Decides.{nat_tests}
use Rattle.model.specs.Lines.{void, pointer, VOID}
use Rattle.model.specs.Removal.{then}
use Rattle.model.specs.Scan.{read_byte, is_name, read_name, marked, is_void, named, read_identifier, pointed, read_marked}

pub first_is : (b : ℕ) (bs : List ℕ) → 0 < b → get_or bs 0 0 ≡ b → (cs : List ℕ) × (bs ≡ b ∷ cs)
first_is b [] h e = absurd (omega arith)
first_is b (c ∷ cs) h e = (cs, ap (λ x. x ∷ cs) e)

-- a name is that of nothing just if it is so with its @
pub void_decides : (name : List ℕ) → Decides (is_void name) (marked name ≡ VOID)
void_decides name =
    let d = bytes_eq-Decides name (codes "VOID") in
    (λ t. ap marked (d.0 t), λ e. d.1 (append_cancel_right name (codes "VOID") (64 ∷ []) (ap (drop 1) e)))

not_void : (name : List ℕ) → (marked name ≡ VOID → ⊥) → is_void name ≡ false
not_void name f = elim (cases_Bool (is_void name)) [ inl e ↦ absurd (f ((void_decides name).0 e)) | inr e ↦ e ]

-- Identifiers

module _ (cs : List ℕ) where
  pub identifier_none : read_name cs ≡ None → read_identifier (64 ∷ cs) ≡ None
  identifier_none e = ap (λ o. then o named) e

  module _ (name rest : List ℕ) (is : read_name cs ≡ Some (name, rest)) where
    pub identifier_void : marked name ≡ VOID → read_identifier (64 ∷ cs) ≡ None
    identifier_void v = ap (λ o. then o named) is ∙ cond-true (is_void name) _ _ ((void_decides name).1 v)

    by_space : (marked name ≡ VOID → ⊥) → read_identifier (64 ∷ cs) ≡ then (read_byte 32 rest) (λ more. Some (Some (marked name), more))
    by_space f = ap (λ o. then o named) is ∙ cond-false (is_void name) _ _ (not_void name f)

    pub identifier_joined : (marked name ≡ VOID → ⊥) → read_byte 32 rest ≡ None → read_identifier (64 ∷ cs) ≡ None
    identifier_joined f e = by_space f ∙ ap (λ o. then o (λ more. Some (Some (marked name), more))) e

    pub identifier_found : (more : List ℕ) → (marked name ≡ VOID → ⊥) → read_byte 32 rest ≡ Some more → read_identifier (64 ∷ cs) ≡ Some (Some (marked name), more)
    identifier_found more f e = by_space f ∙ ap (λ o. then o (λ more. Some (Some (marked name), more))) e

pub identifier_absent : (bs : List ℕ) → (get_or bs 0 0 ≡ 64 → ⊥) → read_identifier bs ≡ Some (None, bs)
identifier_absent [] f = refl
identifier_absent (b ∷ bs) f = grind (arith, nat_tests)

-- Pointers

other_byte : (cs : List ℕ) → (get_or cs 0 0 ≡ 64 → ⊥) → read_marked cs ≡ then (read_name cs) pointed
other_byte [] f = refl
other_byte (c ∷ cs) f = grind (arith, nat_tests)

name_empty : (xs : List ℕ) → length xs ≡ 0 → is_name xs ≡ false
name_empty [] h = refl
name_empty (x ∷ xs) h = absurd (omega arith)

name_more : (xs : List ℕ) → (length xs ≡ 0 → ⊥) → is_name xs ≡ true
name_more [] h = absurd (h refl)
name_more (x ∷ xs) h = refl

module _ (cs : List ℕ) (other : get_or cs 0 0 ≡ 64 → ⊥) where
  pub pointer_none : read_name cs ≡ None → read_marked cs ≡ None
  pointer_none e = other_byte cs other ∙ ap (λ o. then o pointed) e

  module _ (name rest : List ℕ) (is : read_name cs ≡ Some (name, rest)) where
    pub pointer_followed : (length rest ≡ 0 → ⊥) → read_marked cs ≡ None
    pointer_followed f = other_byte cs other ∙ ap (λ o. then o pointed) is ∙ cond-true (is_name rest) _ _ (name_more rest f)

    last : length rest ≡ 0 → read_marked cs ≡ Some (cond (is_void name) void (pointer (marked name)))
    last e = other_byte cs other ∙ ap (λ o. then o pointed) is ∙ cond-false (is_name rest) _ _ (name_empty rest e)

    pub pointer_void : length rest ≡ 0 → marked name ≡ VOID → read_marked cs ≡ Some void
    pointer_void e v = last e ∙ ap Some (cond-true (is_void name) _ _ ((void_decides name).1 v))

    pub pointer_found : length rest ≡ 0 → (marked name ≡ VOID → ⊥) → read_marked cs ≡ Some (pointer (marked name))
    pointer_found e f = last e ∙ ap Some (cond-false (is_void name) _ _ (not_void name f))

-- Values
