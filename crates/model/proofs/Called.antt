-- The identifiers of lines: apart, and named by pointers. Assumes nothing.
use Rattle.std.proofs.Common.{◌≡◌, ℕ, zero, suc, ◌+◌, ◌<◌, List, [], ◌∷◌, ◌++◌, length, Some, None, Option, sym, refl, ap, ◌∙◌, subst, inl, inr, append_assoc, arith}
use Rattle.std.specs.List.{AllByRecursion, ContainsAt as Has}
use Rattle.std.proofs.ByRecursion.{All-get_or, All-from_get_or, has_append_right}
use Rattle.model.specs.Lines.{Line, nothing, pointer, line_of}
use Rattle.model.specs.Datasets.{Entry, all_lines, continuations, further, identifiers, Apart}
use Rattle.model.specs.Files.{at, Throughout}
use Rattle.model.specs.Refusals.{Keeps12, Keeps13}
use Rattle.model.proofs.Names.{own, has_cons, has_here, identifiers_cons}
use Rattle.model.proofs.Members.{has_none}

abbrev pub called : List Line → List (List ℕ)
called [] = []
called (l ∷ ls) = own l.identifier ++ called ls

pub called_append : (ls ms : List Line) → called (ls ++ ms) ≡ called ls ++ called ms
called_append [] ms = refl
called_append (l ∷ ls) ms = ap (λ is. own l.identifier ++ is) (called_append ls ms) ∙ sym (append_assoc (own l.identifier) (called ls) (called ms))

called_continuations : (level : ℕ) (ts : List (List ℕ)) (ms : List Line) → called (continuations level ts ++ ms) ≡ called ms
called_continuations level [] ms = refl
called_continuations level (t ∷ ts) ms = called_continuations level ts ms

pub called_lines : (es : List Entry) → called (all_lines es) ≡ identifiers es
called_lines [] = refl
called_lines (e ∷ es) = ap (λ is. own e.identifier ++ is) (called_continuations (e.level + 1) (further e.payload) (all_lines es) ∙ called_lines es) ∙ sym (identifiers_cons e es)

-- By their places

pub called_has : (ls : List Line) (j : ℕ) (x : List ℕ) → j < length ls → (at ls j).identifier ≡ Some x → Has (called ls) x
called_has [] j x h e = absurd (omega arith)
called_has (l ∷ ls) zero x h e = subst (λ o. Has (own o ++ called ls) x) (sym e) (has_here x (called ls) x refl)
called_has (l ∷ ls) (suc j) x h e = has_append_right (own l.identifier) (called ls) x (called_has ls j x (omega arith) e)

abbrev At : List Line → List ℕ → Type 0
At ls x = (j : ℕ) × (j < length ls) × ((at ls j).identifier ≡ Some x)

pub called_at : (ls : List Line) (x : List ℕ) → Has (called ls) x → At ls x
called_at [] x h = has_none x h
called_at (l ∷ ls) x h = go l.identifier refl (called_at ls x)
  where
    go : (o : Option (List ℕ)) → l.identifier ≡ o → (Has (called ls) x → At ls x) → At (l ∷ ls) x
    go None e later = let r = later (subst (λ o. Has (own o ++ called ls) x) e h) in (suc r.0, omega (arith, r.1), r.2)
    go (Some y) e later = elim (has_cons y (called ls) x (subst (λ o. Has (own o ++ called ls) x) e h)) [
      | inl s ↦ (0, omega arith, e ∙ ap Some s)
      | inr t ↦ let r = later t in (suc r.0, omega (arith, r.1), r.2)
    ]

pub apart_kept : (ls : List Line) → Apart (called ls) → Throughout Keeps12 ls
apart_kept [] a i h x e j k f = omega arith
apart_kept (l ∷ ls) a zero h x e j k f = omega arith
apart_kept (l ∷ ls) a (suc i) h x e zero k f =
    let b : (Has (called ls) x → ⊥) × Apart (called ls) = subst (λ o. Apart (own o ++ called ls)) f a in
    b.0 (called_has ls i x (omega arith) e)
apart_kept (l ∷ ls) a (suc i) h x e (suc j) k f = apart_kept ls (go l.identifier a) i (omega arith) x e j (omega arith) f
  where
    go : (o : Option (List ℕ)) → Apart (own o ++ called ls) → Apart (called ls)
    go None b = b
    go (Some y) b = b.1

pub kept_apart : (ls : List Line) → Throughout Keeps12 ls → Apart (called ls)
kept_apart [] k = tt
kept_apart (l ∷ ls) k = go l.identifier refl (kept_apart ls (λ i h x e j m f. k (suc i) (omega arith) x e (suc j) (omega arith) f))
  where
    go : (o : Option (List ℕ)) → l.identifier ≡ o → Apart (called ls) → Apart (own l.identifier ++ called ls)
    go None e later = subst (λ o. Apart (own o ++ called ls)) (sym e) later
    go (Some y) e later = subst (λ o. Apart (own o ++ called ls)) (sym e) (λ has. let r = called_at ls y has in k (suc r.0) (omega (arith, r.1)) y r.2 0 (omega arith) e, later)

-- each pointer names one of them
abbrev pub Aimed : List (List ℕ) → Line → Type 0
Aimed is l = (x : List ℕ) → l.value ≡ pointer x → Has is x

pub aimed_kept : (ls : List Line) → AllByRecursion (Aimed (called ls)) ls → Throughout Keeps13 ls
aimed_kept ls a i h x e = called_at ls x (All-get_or (Aimed (called ls)) ls i (line_of 0 None [] nothing) h a x e)

pub kept_aimed : (ls : List Line) → Throughout Keeps13 ls → AllByRecursion (Aimed (called ls)) ls
kept_aimed ls k = All-from_get_or (Aimed (called ls)) ls (line_of 0 None [] nothing) (λ i h x e. let r = k i h x e in called_has ls r.0 x r.1 r.2)
