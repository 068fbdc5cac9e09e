-- One step from the end of a text. Assumes nothing.
use Rattle.std.proofs.Common.{◌≡◌, ℕ, ◌+◌, ◌-◌, ◌≤◌, eqb, List, length, get_or, take, drop, [], ◌∷◌, sym, refl, ap, ◌∙◌, arith, nat_eq}
use Rattle.std.specs.List.{ends_with}
use Rattle.std.proofs.lemmas.List.{take_all, drop_more, drop_all}
use Rattle.std.proofs.lemmas.Bool.Decides.{nat_tests}
use lib.Pointwise.{pointwise}
use Rattle.model.specs.Kinds.{right_trimmed}
use Rattle.model.specs.Grammar.{ends_blank}
use Rattle.model.proofs.Pieces.{right_trimmed_back, right_trimmed_stop, ends_blank_at}

module _ (w : List ℕ) (h : 1 ≤ length w) where
  abbrev n : ℕ
  n = length w - 1

  whole : take (n + 1) w ≡ w
  whole = take_all (n + 1) w (omega arith)

  pub trim_back : get_or w n 0 ≡ 32 → right_trimmed (take n w) ≡ right_trimmed w
  trim_back e = sym (right_trimmed_back w n (omega arith) e) ∙ ap right_trimmed whole

  pub trim_stop : (get_or w n 0 ≡ 32 → ⊥) → right_trimmed w ≡ w
  trim_stop other = sym (ap right_trimmed whole) ∙ right_trimmed_stop w n (omega arith) other ∙ whole

  blank_last : ends_blank w ≡ eqb (get_or w n 0) 32
  blank_last = sym (ap ends_blank whole) ∙ ends_blank_at w n (omega arith)

  last_alone : drop n w ≡ get_or w n 0 ∷ []
  last_alone = drop_more w n 0 (omega arith) ∙ ap (λ xs. get_or w n 0 ∷ xs) (drop_all (n + 1) w (omega arith))

  last_is : (x : ℕ) → pointwise nat_eq (32 ∷ []) (x ∷ []) ≡ eqb x 32
  last_is x = grind (arith, nat_tests)

  ends_with_last : ends_with nat_eq w (32 ∷ []) ≡ ends_blank w
  ends_with_last = ap (pointwise nat_eq (32 ∷ [])) last_alone ∙ last_is (get_or w n 0) ∙ sym blank_last

pub ends_with_space : (w : List ℕ) → ends_with nat_eq w (32 ∷ []) ≡ ends_blank w
ends_with_space [] = refl
ends_with_space (c ∷ cs) = ends_with_last (c ∷ cs) (omega arith)
