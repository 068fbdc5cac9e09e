-- Of two datasets that are equal but for one record, the same is left when that record goes. Assumes nothing.
use Rattle.std.proofs.Common.{◌≡◌, ℕ, ◌+◌, ◌⊎◌, List, [], ◌∷◌, ◌++◌, map, Some, None, Option, sym, refl, ap, ◌∙◌, subst, ap₂, inl, inr, arith}
use Rattle.std.specs.List.{ContainsAt as Has, AllByRecursion}
use Rattle.std.proofs.ByRecursion.{All-weaker, All-append, has_append_left, has_append_right}
use Rattle.std.proofs.lemmas.Slice.Eq.{bytes_eq-Decides}
use Rattle.std.proofs.lemmas.Bool.{cases_Bool, cond-false, both_ways}
use Rattle.std.specs.Str.{bytes_eq}
use Rattle.model.specs.Datasets.{Payload, none, text, void, pointer, Structures, end, next, Record, Dataset, IsDataset, GoodPayload, Entry, entry, entries_at, entries_of, entries, tops, identifiers, Apart, TRLR}
use Rattle.model.specs.Removal.{voided_payload, voided, voided_record, settled}
use Rattle.model.specs.Laws.{Twins}
use Rattle.model.proofs.Names.{own, named, has_split, has_cons, every_left, every_right, apart_out, identifiers_all, named_append}

-- Where no pointer to i stands, voiding changes nothing.

abbrev pub Free : List ℕ → Entry → Type 0
Free i e = e.payload ≡ pointer i → ⊥

voided_payload_free : (i : List ℕ) (p : Payload) → (p ≡ pointer i → ⊥) → voided_payload i p ≡ p
voided_payload_free i none f = refl
voided_payload_free i (text t more) f = refl
voided_payload_free i void f = refl
voided_payload_free i (pointer j) f =
    elim (cases_Bool (bytes_eq i j)) [
      | inl e ↦ absurd (f (ap {B = Payload} pointer (sym ((bytes_eq-Decides i j).0 e))))
      | inr e ↦ cond-false (bytes_eq i j) void (pointer j) e
    ]

voided_free : (i : List ℕ) (level : ℕ) (s : Structures) → AllByRecursion (Free i) (entries_at level s) → voided i s ≡ s
voided_free i level end h = refl
voided_free i level (next tag p subs rest) h =
    let a = voided_payload_free i p h.0 in
    let b = voided_free i (level + 1) subs (every_left (Free i) (entries_at (level + 1) subs) (entries_at level rest) h.1) in
    let c = voided_free i level rest (every_right (Free i) (entries_at (level + 1) subs) (entries_at level rest) h.1) in
    λ k. next tag (a k) (b k) (c k)

voided_records_free : (i : List ℕ) (rs : List Record) → AllByRecursion (Free i) (entries_of rs) → map (voided_record i) rs ≡ rs
voided_records_free i [] h = refl
voided_records_free i (r ∷ rs) h =
    let a = voided_payload_free i r.payload h.0 in
    let b = voided_free i 1 r.subs (every_left (Free i) (entries_at 1 r.subs) (entries_of rs) h.1) in
    let c = voided_records_free i rs (every_right (Free i) (entries_at 1 r.subs) (entries_of rs) h.1) in
    λ k. record { identifier = r.identifier; tag = r.tag; payload = a k; subs = b k } ∷ c k

-- What is not named by a dataset's records is pointed to nowhere in it.

unnamed_free_one : (is : List (List ℕ)) (i : List ℕ) → (Has is i → ⊥) → (p : Payload) → GoodPayload is p → p ≡ pointer i → ⊥
unnamed_free_one is i out p good e = out (subst (GoodPayload is) e good)

unnamed_free : (d : Dataset) → IsDataset d → (i : List ℕ) → (Has (named d.records) i → ⊥) → AllByRecursion (Free i) (entries d)
unnamed_free d is i out =
    All-weaker (λ e. GoodPayload (identifiers (entries d)) e.payload) (Free i) (λ e. unnamed_free_one (identifiers (entries d)) i (λ h. out (subst (λ l. Has l i) (identifiers_all d) h)) e.payload) (entries d) is.payloads

header_free : (i : List ℕ) (d : Dataset) → AllByRecursion (Free i) (entries d) → AllByRecursion (Free i) (entries_at 1 d.header)
header_free i d h = every_left (Free i) (entries_at 1 d.header) (entries_of d.records) (every_left (Free i) (entries_of (tops d)) (entry 0 None TRLR none ∷ []) h).1

records_free : (i : List ℕ) (d : Dataset) → AllByRecursion (Free i) (entries d) → AllByRecursion (Free i) (entries_of d.records)
records_free i d h = every_right (Free i) (entries_at 1 d.header) (entries_of d.records) (every_left (Free i) (entries_of (tops d)) (entry 0 None TRLR none ∷ []) h).1

without_one : (P : Entry → Type 0) (before : List Record) (r : Record) (after : List Record) → AllByRecursion P (entries_of (before ++ r ∷ after)) → AllByRecursion P (entries_of (before ++ after))
without_one P [] r after h = every_right P (entries_at 1 r.subs) (entries_of after) h.1
without_one P (b ∷ bs) r after h =
    let mine = entries_at 1 b.subs in
    let more = entries_of (bs ++ r ∷ after) in
    (h.0, All-append P mine (entries_of (bs ++ after)) (every_left P mine more h.1) (without_one P bs r after (every_right P mine more h.1)))

has_own : (o : Option (List ℕ)) (i : List ℕ) → Has (own o) i → o ≡ Some i
has_own None i h = absurd (omega (arith, h.1))
has_own (Some j) i h = elim (has_cons j [] i h) [ inl e ↦ ap {B = Option (List ℕ)} Some e | inr t ↦ absurd (omega (arith, t.1)) ]

-- the one record's name is no name of the twin
not_named : (before : List Record) (one other : Record) (after : List Record) (i : List ℕ) → one.identifier ≡ Some i → (other.identifier ≡ Some i → ⊥) → Apart (named (before ++ one ∷ after)) → Has (named (before ++ other ∷ after)) i → ⊥
not_named before one other after i is_i other-not apart h =
    let far : Apart (named before ++ i ∷ named after) = subst (λ o. Apart (named before ++ (own o ++ named after))) is_i (subst Apart (named_append before (one ∷ after)) apart) in
    let h' : Has (named before ++ (own other.identifier ++ named after)) i = subst (λ l. Has l i) (named_append before (other ∷ after)) h in
    elim (has_split (named before) (own other.identifier ++ named after) i h') [
      | inl b ↦ apart_out (named before) (named after) i far (has_append_left (named before) (named after) i b)
      | inr r ↦ elim (has_split (own other.identifier) (named after) i r) [
        | inl o ↦ other-not (has_own other.identifier i o)
        | inr a ↦ apart_out (named before) (named after) i far (has_append_right (named before) (named after) i a)
      ]
    ]

-- so voiding it changes nothing of what the two share
shared_free : (d e : Dataset) (before : List Record) (one other : Record) (after : List Record) → d.records ≡ before ++ one ∷ after → e.records ≡ before ++ other ∷ after → IsDataset d → IsDataset e → (i : List ℕ) → one.identifier ≡ Some i → (other.identifier ≡ Some i → ⊥) → (voided i e.header ≡ e.header) × (map (voided_record i) (before ++ after) ≡ before ++ after)
shared_free d e before one other after left right isd ise i is_i other-not =
    let apart : Apart (named (before ++ one ∷ after)) = subst (λ rs. Apart (named rs)) left (subst Apart (identifiers_all d) isd.apart) in
    let free = unnamed_free e ise i (λ h. not_named before one other after i is_i other-not apart (subst (λ rs. Has (named rs) i) right h)) in
    let shared : AllByRecursion (Free i) (entries_of (before ++ after)) = without_one (Free i) before other after (subst (λ rs. AllByRecursion (Free i) (entries_of rs)) right (records_free i e free)) in
    (voided_free i 1 e.header (header_free i e free), voided_records_free i (before ++ after) shared)

settled_free : (h : Structures) (rs : List Record) (o : Option (List ℕ)) → ((i : List ℕ) → o ≡ Some i → (voided i h ≡ h) × (map (voided_record i) rs ≡ rs)) → settled h (rs, o) ≡ record { header = h; records = rs }
settled_free h rs None f = refl
settled_free h rs (Some i) f = λ k. record { header = (f i refl).0 k; records = (f i refl).1 k }

same_names : (o p : Option (List ℕ)) → (o ≡ p) ⊎ (o ≡ p → ⊥)
same_names None None = inl refl
same_names None (Some j) = inr (λ e. let z : ◌≡◌ {A = ℕ} 0 1 = cc in omega arith)
same_names (Some i) None = inr (λ e. let z : ◌≡◌ {A = ℕ} 0 1 = cc in omega arith)
same_names (Some i) (Some j) =
    elim (cases_Bool (bytes_eq i j)) [
      | inl t ↦ inl (ap {B = Option (List ℕ)} Some ((bytes_eq-Decides i j).0 t))
      | inr f ↦ inr (λ e. let s : i ≡ j = cc in both_ways (bytes_eq i j) f ((bytes_eq-Decides i j).1 s))
    ]

pub settled_same : (d e : Dataset) (t : Twins d e) → IsDataset d → IsDataset e → settled d.header (t.before ++ t.after, t.one.identifier) ≡ settled e.header (t.before ++ t.after, t.other.identifier)
settled_same d e t isd ise =
    let rs = t.before ++ t.after in
    elim (same_names t.one.identifier t.other.identifier) [
      | inl s ↦ ap₂ (λ h o. settled h (rs, o)) t.header s
      | inr n ↦
          let a : settled e.header (rs, t.one.identifier) ≡ record { header = e.header; records = rs } = settled_free e.header rs t.one.identifier (λ i is_i. shared_free d e t.before t.one t.other t.after t.left t.right isd ise i is_i (λ o. n (is_i ∙ sym o))) in
          let b : settled d.header (rs, t.other.identifier) ≡ record { header = d.header; records = rs } = settled_free d.header rs t.other.identifier (λ i is_i. shared_free e d t.before t.other t.one t.after t.right t.left ise isd i is_i (λ o. n (o ∙ sym is_i))) in
          ap (λ h. settled h (rs, t.one.identifier)) t.header ∙ a ∙ sym (subst (λ h. settled h (rs, t.other.identifier) ≡ record { header = h; records = rs }) t.header b)
    ]
