-- A list of entries in order is that of a dataset. Assumes nothing.
use Rattle.std.proofs.Common.{◌≡◌, ℕ, ◌+◌, ◌<◌, ◌≤◌, cond, eqb, ltb, leb, List, [], ◌∷◌, ◌++◌, None, sym, refl, ap, ◌∙◌, subst, ap₂, inl, inr, append_assoc, arith}
use Rattle.std.specs.List.{AllByRecursion}
use Rattle.std.proofs.ByRecursion.{All-append}
use Rattle.std.proofs.lemmas.Bool.{cond-true, cond-false, eq-eqb, ne_eqb, lt-ltb, le-ltb, le-leb, lt-leb, cases_order, cases_eq}
use Rattle.model.specs.Datasets.{none, Structures, end, next, Record, Dataset, HEAD, TRLR, Entry, entry, entries_at, entries_of, entries, RecordTag}

-- after one of level l: no level rises by more than one
abbrev pub Stepping : ℕ → List Entry → Type 0
Stepping l [] = Unit {0}
Stepping l (e ∷ es) = (e.level ≤ l + 1) × Stepping e.level es

-- an identifier only at the top
abbrev pub Named : List Entry → Type 0
Named es = AllByRecursion (λ e. 0 < e.level → e.identifier ≡ None) es

pub record TopTag (e : Entry) : Type 0 where
  pub no_header : e.level ≡ 0 → e.tag ≡ HEAD → ⊥
  pub no_trailer : e.level ≡ 0 → e.tag ≡ TRLR → ⊥

pub record Shaped (all : List Entry) : Type 0 where
  pub middle : List Entry
  pub are : all ≡ entry 0 None HEAD none ∷ middle ++ entry 0 None TRLR none ∷ []
  pub stepping : Stepping 0 middle
  pub named : Named middle
  pub tagged : AllByRecursion TopTag middle

-- Rows

-- the entries at the start whose level is l at least
abbrev pub from : ℕ → List Entry → List Entry
from l [] = []
from l (e ∷ es) = cond (leb l e.level) (e ∷ from l es) []

from_in : (l : ℕ) (e : Entry) (es : List Entry) → l ≤ e.level → from l (e ∷ es) ≡ e ∷ from l es
from_in l e es h = cond-true (leb l e.level) (e ∷ from l es) [] (le-leb l e.level h)

from_out : (l : ℕ) (e : Entry) (es : List Entry) → e.level < l → from l (e ∷ es) ≡ []
from_out l e es h = cond-false (leb l e.level) (e ∷ from l es) [] (lt-leb l e.level h)

from_none : (l k : ℕ) (es : List Entry) → Stepping k es → k + 1 < l → from l es ≡ []
from_none l k [] s h = refl
from_none l k (e ∷ es) s h = from_out l e es (omega arith)

-- the structures of level l up to the first entry below it; deeper entries at the start are passed over
abbrev pub grown : ℕ → List Entry → Structures
grown l [] = end
grown l (e ∷ es) = cond (eqb e.level l) (next e.tag e.payload (grown (l + 1) es) (grown l es)) (cond (ltb e.level l) end (grown l es))

grown_here : (l : ℕ) (e : Entry) (es : List Entry) → e.level ≡ l → grown l (e ∷ es) ≡ next e.tag e.payload (grown (l + 1) es) (grown l es)
grown_here l e es h = cond-true (eqb e.level l) _ (cond (ltb e.level l) end (grown l es)) (eq-eqb e.level l h)

grown_past : (l : ℕ) (e : Entry) (es : List Entry) → e.level < l → grown l (e ∷ es) ≡ end
grown_past l e es h = cond-false (eqb e.level l) (next e.tag e.payload (grown (l + 1) es) (grown l es)) (cond (ltb e.level l) end (grown l es)) (ne_eqb e.level l (λ k. omega arith)) ∙ cond-true (ltb e.level l) end (grown l es) (lt-ltb e.level l h)

grown_over : (l : ℕ) (e : Entry) (es : List Entry) → l < e.level → grown l (e ∷ es) ≡ grown l es
grown_over l e es h = cond-false (eqb e.level l) (next e.tag e.payload (grown (l + 1) es) (grown l es)) (cond (ltb e.level l) end (grown l es)) (ne_eqb e.level l (λ k. omega arith)) ∙ cond-false (ltb e.level l) end (grown l es) (le-ltb e.level l (omega arith))

unnamed : (l : ℕ) (e : Entry) → e.level ≡ l → e.identifier ≡ None → entry l None e.tag e.payload ≡ e
unnamed l e h k = λ i. record { level = sym h i; identifier = sym k i; tag = e.tag; payload = e.payload }

pub row_grown : (l k : ℕ) (es : List Entry) → 0 < l → Stepping k es → Named es → from (l + 1) es ++ entries_at l (grown l es) ≡ from l es
row_grown l k [] p s n = refl
row_grown l k (e ∷ es) p s n = elim (cases_order e.level l) [
  | inl h ↦
      let below : entries_at (l + 1) (grown (l + 1) es) ≡ from (l + 1) es = ap (λ x. x ++ entries_at (l + 1) (grown (l + 1) es)) (sym (from_none (l + 1 + 1) e.level es s.1 (omega arith))) ∙ row_grown (l + 1) e.level es (omega arith) s.1 n.1 in
      let beside = row_grown l e.level es p s.1 n.1 in
      let first = unnamed l e h (n.0 (omega arith)) in
      ap₂ (λ x y. x ++ entries_at l y) (from_out (l + 1) e es (omega arith)) (grown_here l e es h) ∙ ap₂ (λ x y. x ∷ (y ++ entries_at l (grown l es))) first below ∙ ap (λ x. e ∷ x) beside ∙ sym (from_in l e es (omega arith))
  | inr (inl h) ↦ ap₂ (λ x y. x ++ entries_at l y) (from_out (l + 1) e es (omega arith)) (grown_past l e es h) ∙ sym (from_out l e es h)
  | inr (inr h) ↦ ap₂ (λ x y. x ++ entries_at l y) (from_in (l + 1) e es (omega arith)) (grown_over l e es h) ∙ ap (λ x. e ∷ x) (row_grown l e.level es p s.1 n.1) ∙ sym (from_in l e es (omega arith))
]

-- what stands below one of level k
pub row_below : (k : ℕ) (es : List Entry) → Stepping k es → Named es → entries_at (k + 1) (grown (k + 1) es) ≡ from (k + 1) es
row_below k es s n = ap (λ x. x ++ entries_at (k + 1) (grown (k + 1) es)) (sym (from_none (k + 1 + 1) k es s (omega arith))) ∙ row_grown (k + 1) k es (omega arith) s n

-- Records

abbrev pub records_of : List Entry → List Record
records_of [] = []
records_of (e ∷ es) = cond (eqb e.level 0) (record { identifier = e.identifier; tag = e.tag; payload = e.payload; subs = grown 1 es } ∷ records_of es) (records_of es)

records_here : (e : Entry) (es : List Entry) → e.level ≡ 0 → records_of (e ∷ es) ≡ record { identifier = e.identifier; tag = e.tag; payload = e.payload; subs = grown 1 es } ∷ records_of es
records_here e es h = cond-true (eqb e.level 0) _ (records_of es) (eq-eqb e.level 0 h)

records_over : (e : Entry) (es : List Entry) → (e.level ≡ 0 → ⊥) → records_of (e ∷ es) ≡ records_of es
records_over e es h = cond-false (eqb e.level 0) (record { identifier = e.identifier; tag = e.tag; payload = e.payload; subs = grown 1 es } ∷ records_of es) (records_of es) (ne_eqb e.level 0 h)

at_top : (e : Entry) → e.level ≡ 0 → entry 0 e.identifier e.tag e.payload ≡ e
at_top e h = λ i. record { level = sym h i; identifier = e.identifier; tag = e.tag; payload = e.payload }

pub records_grown : (k : ℕ) (es : List Entry) → Stepping k es → Named es → from 1 es ++ entries_of (records_of es) ≡ es
records_grown k [] s n = refl
records_grown k (e ∷ es) s n = elim (cases_eq e.level 0) [
  | inl h ↦
      let below = row_below 0 es (subst (λ l. Stepping l es) h s.1) n.1 in
      ap₂ (λ x y. x ++ entries_of y) (from_out 1 e es (omega arith)) (records_here e es h) ∙ ap₂ (λ x y. x ∷ (y ++ entries_of (records_of es))) (at_top e h) below ∙ ap (λ x. e ∷ x) (records_grown e.level es s.1 n.1)
  | inr h ↦ ap₂ (λ x y. x ++ entries_of y) (from_in 1 e es (omega arith)) (records_over e es h) ∙ ap (λ x. e ∷ x) (records_grown e.level es s.1 n.1)
]

pub records_tagged : (es : List Entry) → AllByRecursion TopTag es → AllByRecursion RecordTag (records_of es)
records_tagged [] t = tt
records_tagged (e ∷ es) t = elim (cases_eq e.level 0) [
  | inl h ↦ subst (AllByRecursion RecordTag) (sym (records_here e es h)) (record { no_header = t.0.no_header h; no_trailer = t.0.no_trailer h }, records_tagged es t.1)
  | inr h ↦ subst (AllByRecursion RecordTag) (sym (records_over e es h)) (records_tagged es t.1)
]

abbrev pub dataset_of : List Entry → Dataset
dataset_of es = record { header = grown 1 es; records = records_of es }

pub dataset_grown : (es : List Entry) → Stepping 0 es → Named es → entries (dataset_of es) ≡ entry 0 None HEAD none ∷ es ++ entry 0 None TRLR none ∷ []
dataset_grown es s n = ap (λ x. entry 0 None HEAD none ∷ x ++ entry 0 None TRLR none ∷ []) (ap (λ x. x ++ entries_of (records_of es)) (row_below 0 es s n) ∙ records_grown 0 es s n)

pub grow : (all : List Entry) → Shaped all → (d : Dataset) × (entries d ≡ all) × AllByRecursion RecordTag d.records
grow all s = (dataset_of s.middle, dataset_grown s.middle s.stepping s.named ∙ sym s.are, records_tagged s.middle s.tagged)

-- And the entries of a dataset are in order

row_steps : (l k : ℕ) (d : Structures) (u : List Entry) → l ≤ k + 1 → ((j : ℕ) → l ≤ j + 1 → Stepping j u) → Stepping k (entries_at l d ++ u)
row_steps l k end u h after = after k h
row_steps l k (next tag p subs rest) u h after = (h, subst (Stepping l) (sym (append_assoc (entries_at (l + 1) subs) (entries_at l rest) u)) (row_steps (l + 1) l subs (entries_at l rest ++ u) (omega arith) (λ j i. row_steps l j rest u (omega arith) after)))

records_step : (k : ℕ) (rs : List Record) → Stepping k (entries_of rs)
records_step k [] = tt
records_step k (r ∷ rs) = (omega arith, row_steps 1 0 r.subs (entries_of rs) (omega arith) (λ j h. records_step j rs))

row_named : (l : ℕ) (d : Structures) → Named (entries_at l d)
row_named l end = tt
row_named l (next tag p subs rest) = (λ h. refl, All-append (λ e. 0 < e.level → e.identifier ≡ None) (entries_at (l + 1) subs) (entries_at l rest) (row_named (l + 1) subs) (row_named l rest))

records_named : (rs : List Record) → Named (entries_of rs)
records_named [] = tt
records_named (r ∷ rs) = (λ h. absurd (omega arith), All-append (λ e. 0 < e.level → e.identifier ≡ None) (entries_at 1 r.subs) (entries_of rs) (row_named 1 r.subs) (records_named rs))

row_no_top : (l : ℕ) (d : Structures) → 0 < l → AllByRecursion TopTag (entries_at l d)
row_no_top l end p = tt
row_no_top l (next tag q subs rest) p = (record { no_header = λ e h. omega arith; no_trailer = λ e h. omega arith }, All-append TopTag (entries_at (l + 1) subs) (entries_at l rest) (row_no_top (l + 1) subs (omega arith)) (row_no_top l rest p))

records_top : (rs : List Record) → AllByRecursion RecordTag rs → AllByRecursion TopTag (entries_of rs)
records_top [] t = tt
records_top (r ∷ rs) t = (record { no_header = λ e h. t.0.no_header h; no_trailer = λ e h. t.0.no_trailer h }, All-append TopTag (entries_at 1 r.subs) (entries_of rs) (row_no_top 1 r.subs (omega arith)) (records_top rs t.1))

pub entries_shaped : (d : Dataset) → AllByRecursion RecordTag d.records → Shaped (entries d)
entries_shaped d t = record { middle = entries_at 1 d.header ++ entries_of d.records; are = refl; stepping = row_steps 1 0 d.header (entries_of d.records) (omega arith) (λ j h. records_step j d.records); named = All-append (λ e. 0 < e.level → e.identifier ≡ None) (entries_at 1 d.header) (entries_of d.records) (row_named 1 d.header) (records_named d.records); tagged = All-append TopTag (entries_at 1 d.header) (entries_of d.records) (row_no_top 1 d.header (omega arith)) (records_top d.records t) }
