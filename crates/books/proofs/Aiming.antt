-- The home book's pointers name types of that book. Assumes nothing.
use Rattle.std.proofs.Common.{◌≡◌, ℕ, zero, suc, ◌<◌, Bool, true, ltb, List, [], ◌∷◌, get_or, refl, subst}
use Rattle.std.specs.List.{list_all}
use Rattle.std.proofs.lemmas.Bool.{and_parts, ltb-true}
use Rattle.model.specs.declared.Kind.{Kind}
use Rattle.model.specs.declared.Kind.TheVariants.{Nothing, Pointer}
use Rattle.model.specs.Tables.{home_kinds, home}
use Rattle.books.specs.Aims.{PointersWithin}

no_aim : (s : ℕ) → Nothing ≡ Pointer s → ⊥
no_aim s e = cc

-- a table of kinds is tested, kind by kind

abbrev aims_below : ℕ → Kind → Bool
aims_below n (Pointer s) = ltb s n
aims_below n _ = true

aim_is_below : (n s : ℕ) (k : Kind) → aims_below n k ≡ true → k ≡ Pointer s → s < n
aim_is_below n s k h e = ltb-true s n (subst (λ k. aims_below n k ≡ true) e h)

aim_in : (n : ℕ) (ks : List Kind) → list_all (aims_below n) ks ≡ true → (t s : ℕ) → get_or ks t Nothing ≡ Pointer s → s < n
aim_in n [] h t s e = absurd (no_aim s e)
aim_in n (k ∷ ks) h zero s e = aim_is_below n s k (and_parts (aims_below n k) (list_all (aims_below n) ks) h).0 e
aim_in n (k ∷ ks) h (suc t) s e = aim_in n ks (and_parts (aims_below n k) (list_all (aims_below n) ks) h).1 t s e

pub home_aims : PointersWithin home
home_aims = aim_in 35 home_kinds refl
