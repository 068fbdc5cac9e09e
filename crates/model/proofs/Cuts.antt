-- What a removal does to a row of structures and to the records, as relations. Assumes nothing.
use Rattle.std.proofs.Common.{◌≡◌, ℕ, zero, suc, ◌-◌, Bool, true, false, cond, ltb, ◌⊎◌, List, [], ◌∷◌, Some, None, Option, refl, subst, inl, inr, arith}
use Rattle.model.specs.declared.Context.{Context}
use Rattle.model.specs.declared.Context.TheVariants.{Top}
use Rattle.model.specs.Books.{Meaning}
use Rattle.model.specs.Datasets.{Payload, Structures, end, next, Record, Dataset, tops, HEAD}
use Rattle.model.specs.Rules.{below, types_of, top_types}
use Rattle.model.specs.Removal.{Fate, goes, stays_empty, held, fate, without_content, left_bare, size, first_removed, kept, then, removed_in, Left, without_substructures, with_subs, record_removed, record_kept, removed_of, settled, removed}

-- the second row is the first with one structure taken out, emptied, or changed below
pub data Cut (m : Meaning) : Context → List (Option ℕ) → Structures → Structures → Type 0 where
  unmet : {c : Context} {all : List (Option ℕ)} → Cut m c all end end
  gone : {c : Context} {all : List (Option ℕ)} {tag : List ℕ} {p : Payload} {subs rest : Structures} → fate m c all tag ≡ goes → Cut m c all (next tag p subs rest) rest
  emptied : {c : Context} {all : List (Option ℕ)} {tag : List ℕ} {p : Payload} {subs rest : Structures} → fate m c all tag ≡ stays_empty → Cut m c all (next tag p subs rest) (next tag (without_content p) end rest)
  inside : {c : Context} {all : List (Option ℕ)} {tag : List ℕ} {p : Payload} {subs left rest : Structures} → Cut m (below m c tag) (types_of m (below m c tag) subs) subs left → left_bare m c tag p left ≡ false → Cut m c all (next tag p subs rest) (next tag p left rest)
  later : {c : Context} {all : List (Option ℕ)} {tag : List ℕ} {p : Payload} {subs rest left : Structures} → Cut m c all rest left → Cut m c all (next tag p subs rest) (next tag p subs left)

pub never : {A B : Type 0} (x : A) → ◌≡◌ {A = Option A} None (Some x) → B
never x e = let z : ◌≡◌ {A = ℕ} 0 1 = cc in absurd (omega arith)

then_some : {A B : Type 0} (o : Option A) (f : A → Option B) (y : B) → then o f ≡ Some y → (x : A) × (o ≡ Some x) × (f x ≡ Some y)
then_some None f y e = never y e
then_some (Some x) f y e = (x, refl, e)

cond_cases : {A : Type 0} (b : Bool) (x y z : A) → cond b x y ≡ z → ((b ≡ true) × (x ≡ z)) ⊎ ((b ≡ false) × (y ≡ z))
cond_cases true x y z e = inl (refl, e)
cond_cases false x y z e = inr (refl, e)

module _ (m : Meaning) where
  first_cuts : (c : Context) (all : List (Option ℕ)) (tag : List ℕ) (p : Payload) (subs rest s : Structures) → first_removed m c all tag p rest ≡ Some s → Cut m c all (next tag p subs rest) s
  first_cuts c all tag p subs rest s e = go (fate m c all tag) refl e
    where
      go : (f : Fate) → fate m c all tag ≡ f → elim f as (λ _. Option Structures) [ goes ↦ Some rest | stays_empty ↦ Some (next tag (without_content p) end rest) | held ↦ None ] ≡ Some s → Cut m c all (next tag p subs rest) s
      go goes is e = let same : rest ≡ s = cc in subst (Cut m c all (next tag p subs rest)) same (gone is)
      go stays_empty is e = let same : next tag (without_content p) end rest ≡ s = cc in subst (Cut m c all (next tag p subs rest)) same (emptied is)
      go held is e = never s e

  kept_cuts : (c : Context) (all : List (Option ℕ)) (tag : List ℕ) (p : Payload) (subs rest left s : Structures) → Cut m (below m c tag) (types_of m (below m c tag) subs) subs left → kept m c all tag p rest left ≡ Some s → Cut m c all (next tag p subs rest) s
  kept_cuts c all tag p subs rest left s cut e =
      elim (cond_cases (left_bare m c tag p left) (first_removed m c all tag p rest) (Some (next tag p left rest)) (Some s) e) [
        | inl h ↦ first_cuts c all tag p subs rest s h.1
        | inr h ↦ let same : next tag p left rest ≡ s = let e' = h.1 in cc in subst (Cut m c all (next tag p subs rest)) same (inside cut h.0)
      ]

  pub cuts : (c : Context) (all : List (Option ℕ)) (s s' : Structures) (k : ℕ) → removed_in m c all s k ≡ Some s' → Cut m c all s s'
  cuts c all end s' k e = let same : end ≡ s' = cc in subst (Cut m c all end) same unmet
  cuts c all (next tag p subs rest) s' zero e = first_cuts c all tag p subs rest s' e
  cuts c all (next tag p subs rest) s' (suc k) e =
      elim (cond_cases (ltb k (size subs)) (then (removed_in m (below m c tag) (types_of m (below m c tag) subs) subs k) (kept m c all tag p rest)) (then (removed_in m c all rest (k - size subs)) (λ rs. Some (next tag p subs rs))) (Some s') e) [
        | inl h ↦ let (left, is, e') = then_some _ (kept m c all tag p rest) s' h.1 in kept_cuts c all tag p subs rest left s' (cuts (below m c tag) (types_of m (below m c tag) subs) subs left k is) e'
        | inr h ↦ let (left, is, e') = then_some _ (λ rs. Some (next tag p subs rs)) s' h.1 in let same : next tag p subs left ≡ s' = cc in subst (Cut m c all (next tag p subs rest)) same (later (cuts c all rest left (k - size subs) is))
      ]

-- the second records are the first with one taken out, emptied, or changed below; then comes the identifier of the one taken out
pub data CutTop (m : Meaning) (all : List (Option ℕ)) : List Record → List Record → Option (List ℕ) → Type 0 where
  unmet_top : CutTop m all [] [] None
  gone_top : {r : Record} {rs : List Record} → fate m Top all r.tag ≡ goes → CutTop m all (r ∷ rs) rs r.identifier
  emptied_top : {r : Record} {rs : List Record} → fate m Top all r.tag ≡ stays_empty → CutTop m all (r ∷ rs) (without_substructures r ∷ rs) None
  inside_top : {r : Record} {rs : List Record} {left : Structures} → Cut m (below m Top r.tag) (types_of m (below m Top r.tag) r.subs) r.subs left → left_bare m Top r.tag r.payload left ≡ false → CutTop m all (r ∷ rs) (with_subs r left ∷ rs) None
  later_top : {r : Record} {rs left : List Record} {went : Option (List ℕ)} → CutTop m all rs left went → CutTop m all (r ∷ rs) (r ∷ left) went

abbrev CutLeft : (m : Meaning) → List (Option ℕ) → List Record → Left → Type 0
CutLeft m all rs left = CutTop m all rs left.0 left.1

module _ (m : Meaning) (all : List (Option ℕ)) where
  record_cuts : (r : Record) (rs : List Record) (left : Left) → record_removed m all r rs ≡ Some left → CutLeft m all (r ∷ rs) left
  record_cuts r rs left e = go (fate m Top all r.tag) refl e
    where
      go : (f : Fate) → fate m Top all r.tag ≡ f → elim f as (λ _. Option Left) [ goes ↦ Some (rs, r.identifier) | stays_empty ↦ Some (without_substructures r ∷ rs, None) | held ↦ None ] ≡ Some left → CutLeft m all (r ∷ rs) left
      go goes is e = let same : ◌≡◌ {A = Left} (rs, r.identifier) left = cc in subst (CutLeft m all (r ∷ rs)) same (gone_top is)
      go stays_empty is e = let same : ◌≡◌ {A = Left} (without_substructures r ∷ rs, None) left = cc in subst (CutLeft m all (r ∷ rs)) same (emptied_top is)
      go held is e = never left e

  record_kept_cuts : (r : Record) (rs : List Record) (subs : Structures) (left : Left) → Cut m (below m Top r.tag) (types_of m (below m Top r.tag) r.subs) r.subs subs → record_kept m all r rs subs ≡ Some left → CutLeft m all (r ∷ rs) left
  record_kept_cuts r rs subs left cut e =
      elim (cond_cases (left_bare m Top r.tag r.payload subs) (record_removed m all r rs) (Some (with_subs r subs ∷ rs, None)) (Some left) e) [
        | inl h ↦ record_cuts r rs left h.1
        | inr h ↦ let same : ◌≡◌ {A = Left} (with_subs r subs ∷ rs, None) left = let e' = h.1 in cc in subst (CutLeft m all (r ∷ rs)) same (inside_top cut h.0)
      ]

  pub cuts_top : (rs : List Record) (left : Left) (k : ℕ) → removed_of m all rs k ≡ Some left → CutLeft m all rs left
  cuts_top [] left k e = let same : ◌≡◌ {A = Left} ([], None) left = cc in subst (CutLeft m all []) same unmet_top
  cuts_top (r ∷ rs) left zero e = record_cuts r rs left e
  cuts_top (r ∷ rs) left (suc k) e =
      let c : Context = below m Top r.tag in
      elim (cond_cases (ltb k (size r.subs)) (then (removed_in m c (types_of m c r.subs) r.subs k) (record_kept m all r rs)) (then (removed_of m all rs (k - size r.subs)) (λ left. Some (r ∷ left.0, left.1))) (Some left) e) [
        | inl h ↦ let (subs, is, e') = then_some _ (record_kept m all r rs) left h.1 in record_kept_cuts r rs subs left (cuts m c (types_of m c r.subs) r.subs subs k is) e'
        | inr h ↦ let (part, is, e') = then_some _ (λ (left : Left). Some (r ∷ left.0, left.1)) left h.1 in let same : ◌≡◌ {A = Left} (r ∷ part.0, part.1) left = cc in subst (CutLeft m all (r ∷ rs)) same (later_top (cuts_top rs part (k - size r.subs) is))
      ]

-- what a granted removal leaves
pub data CutAll (m : Meaning) (d : Dataset) : Dataset → Type 0 where
  in_header : {header : Structures} → Cut m (below m Top HEAD) (types_of m (below m Top HEAD) d.header) d.header header → CutAll m d (record { header = header; records = d.records })
  in_records : {left : List Record} {went : Option (List ℕ)} → CutTop m (top_types m (tops d)) d.records left went → CutAll m d (settled d.header (left, went))

pub all_cuts : (m : Meaning) (d e : Dataset) (k : ℕ) → removed m d k ≡ Some e → CutAll m d e
all_cuts m d e k is =
    let c : Context = below m Top HEAD in
    elim (cond_cases (ltb (k - 1) (size d.header)) (then (removed_in m c (types_of m c d.header) d.header (k - 1)) (λ header. Some (record { header = header; records = d.records }))) (then (removed_of m (top_types m (tops d)) d.records (k - 1 - size d.header)) (λ left. Some (settled d.header left))) (Some e) is) [
      | inl h ↦ let (header, is', e') = then_some _ (λ header. Some (record { header = header; records = d.records })) e h.1 in let same : ◌≡◌ {A = Dataset} (record { header = header; records = d.records }) e = cc in subst (CutAll m d) same (in_header (cuts m c (types_of m c d.header) d.header header (k - 1) is'))
      | inr h ↦ let (left, is', e') = then_some _ (λ (left : Left). Some (settled d.header left)) e h.1 in let same : settled d.header left ≡ e = cc in subst (CutAll m d) same (in_records (cuts_top m (top_types m (tops d)) d.records left (k - 1 - size d.header) is'))
    ]
