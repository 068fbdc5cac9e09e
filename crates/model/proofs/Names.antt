-- The identifiers of a dataset are those of its records. Assumes nothing.
use Rattle.std.proofs.Common.{◌≡◌, ℕ, zero, suc, ◌+◌, ◌<◌, ◌⊎◌, List, [], ◌∷◌, ◌++◌, length, get_or, Some, None, Option, sym, refl, ap, ◌∙◌, inl, inr, append_assoc, append-nil, arith}
use Rattle.std.specs.List.{ContainsAt as Has, AllByRecursion}
use Rattle.std.proofs.ByRecursion.{has_append_right}
use Rattle.model.specs.Datasets.{Structures, end, next, Record, Dataset, Entry, entry, entries_at, entries_of, entries, tops, identifiers, Apart, TRLR, none}

-- Lists

pub has_cons_at : {X : Type 0} (y : X) (xs : List X) (x : X) (k : ℕ) → k < length (y ∷ xs) → ((d : X) → get_or (y ∷ xs) k d ≡ x) → (y ≡ x) ⊎ Has xs x
has_cons_at y xs x zero lt at = inl (at y)
has_cons_at y xs x (suc k) lt at = inr (k, omega arith, at)

pub has_cons : {X : Type 0} (y : X) (xs : List X) (x : X) → Has (y ∷ xs) x → (y ≡ x) ⊎ Has xs x
has_cons y xs x h = has_cons_at y xs x h.0 h.1 h.2

pub has_here : {X : Type 0} (y : X) (xs : List X) (x : X) → y ≡ x → Has (y ∷ xs) x
has_here y xs x e = (0, omega arith, λ d. e)

pub has_there : {X : Type 0} (y : X) (xs : List X) (x : X) → Has xs x → Has (y ∷ xs) x
has_there y xs x h = has_append_right (y ∷ []) xs x h

pub has_split : {X : Type 0} (xs ys : List X) (x : X) → Has (xs ++ ys) x → Has xs x ⊎ Has ys x
has_split [] ys x h = inr h
has_split (y ∷ xs) ys x h =
    elim (has_cons y (xs ++ ys) x h) [
      | inl e ↦ inl (has_here y xs x e)
      | inr t ↦ elim (has_split xs ys x t) [ inl a ↦ inl (has_there y xs x a) | inr b ↦ inr b ]
    ]

pub every_left : {X : Type 0} (P : X → Type 0) (xs ys : List X) → AllByRecursion P (xs ++ ys) → AllByRecursion P xs
every_left P [] ys h = tt
every_left P (x ∷ xs) ys h = (h.0, every_left P xs ys h.1)

pub every_right : {X : Type 0} (P : X → Type 0) (xs ys : List X) → AllByRecursion P (xs ++ ys) → AllByRecursion P ys
every_right P [] ys h = h
every_right P (x ∷ xs) ys h = every_right P xs ys h.1

-- of what stands apart, none stands elsewhere
pub apart_out : (xs ys : List (List ℕ)) (i : List ℕ) → Apart (xs ++ i ∷ ys) → Has (xs ++ ys) i → ⊥
apart_out [] ys i a h = a.0 h
apart_out (x ∷ xs) ys i a h =
    elim (has_cons x (xs ++ ys) i h) [
      | inl e ↦ a.0 (has_append_right xs (i ∷ ys) x (has_here i ys x (sym e)))
      | inr t ↦ apart_out xs ys i a.1 t
    ]

-- Identifiers

abbrev pub own : Option (List ℕ) → List (List ℕ)
own None = []
own (Some i) = i ∷ []

abbrev pub named : List Record → List (List ℕ)
named [] = []
named (r ∷ rs) = own r.identifier ++ named rs

identifiers_one : (o : Option (List ℕ)) (is : List (List ℕ)) → elim o as (λ v. List (List ℕ)) [ None ↦ is | Some i ↦ i ∷ is ] ≡ own o ++ is
identifiers_one None is = refl
identifiers_one (Some i) is = refl

pub identifiers_cons : (e : Entry) (es : List Entry) → identifiers (e ∷ es) ≡ own e.identifier ++ identifiers es
identifiers_cons e es = identifiers_one e.identifier (identifiers es)

pub identifiers_append : (xs ys : List Entry) → identifiers (xs ++ ys) ≡ identifiers xs ++ identifiers ys
identifiers_append [] ys = refl
identifiers_append (e ∷ xs) ys =
    identifiers_cons e (xs ++ ys) ∙ ap (λ l. own e.identifier ++ l) (identifiers_append xs ys) ∙ sym (append_assoc (own e.identifier) (identifiers xs) (identifiers ys)) ∙ ap (λ l. l ++ identifiers ys) (sym (identifiers_cons e xs))

pub identifiers_at : (level : ℕ) (s : Structures) → identifiers (entries_at level s) ≡ []
identifiers_at level end = refl
identifiers_at level (next tag p subs rest) =
    identifiers_append (entries_at (level + 1) subs) (entries_at level rest) ∙ ap (λ l. l ++ identifiers (entries_at level rest)) (identifiers_at (level + 1) subs) ∙ identifiers_at level rest

pub identifiers_of : (rs : List Record) → identifiers (entries_of rs) ≡ named rs
identifiers_of [] = refl
identifiers_of (r ∷ rs) =
    identifiers_cons (entry 0 r.identifier r.tag r.payload) (entries_at 1 r.subs ++ entries_of rs) ∙ ap (λ l. own r.identifier ++ l) (identifiers_append (entries_at 1 r.subs) (entries_of rs) ∙ ap (λ l. l ++ identifiers (entries_of rs)) (identifiers_at 1 r.subs) ∙ identifiers_of rs)

pub identifiers_all : (d : Dataset) → identifiers (entries d) ≡ named d.records
identifiers_all d =
    identifiers_append (entries_of (tops d)) (entry 0 None TRLR none ∷ []) ∙ append-nil (identifiers (entries_of (tops d))) ∙ identifiers_of (tops d)

pub named_append : (xs ys : List Record) → named (xs ++ ys) ≡ named xs ++ named ys
named_append [] ys = refl
named_append (r ∷ xs) ys = ap (λ l. own r.identifier ++ l) (named_append xs ys) ∙ sym (append_assoc (own r.identifier) (named xs) (named ys))
