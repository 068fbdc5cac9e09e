-- A removal keeps what makes a dataset. Assumes nothing.
use Rattle.std.proofs.Common.{◌≡◌, ℕ, ◌+◌, ◌≤◌, Bool, true, false, cond, eqb, List, [], ◌∷◌, ◌++◌, map, Some, None, Option, sym, refl, ap, ◌∙◌, subst, inl, inr, append_assoc}
use Rattle.std.specs.List.{ContainsAt as Has, AllByRecursion}
use Rattle.std.proofs.ByRecursion.{All-append}
use Rattle.std.proofs.lemmas.Bool.{and_from, eq-eqb, both_ways}
use Rattle.std.specs.Str.{bytes_eq}
use Rattle.model.specs.declared.Context.{Context}
use Rattle.model.specs.Lines.{Line, GoodLine}
use Rattle.model.specs.Books.{Meaning}
use Rattle.model.specs.Datasets.{Payload, none, text, void, pointer, Structures, end, next, Record, Dataset, tops, HEAD, TRLR, Entry, entry, entries_at, entries_of, entries, entry_lines, all_lines, identifiers, Apart, GoodPayload, OwnTag, RecordTag, IsDataset}
use Rattle.model.specs.Removal.{without_content, voided_payload, voided, voided_record, settled}
use Rattle.model.specs.Laws.{DatasetKept}
use Rattle.model.proofs.Cuts.{never, Cut, unmet, gone, emptied, inside, later, CutTop, unmet_top, gone_top, emptied_top, inside_top, later_top, CutAll, in_header, in_records, all_cuts}
use Rattle.model.proofs.Members.{Sub, has_here, has_later, has_cons_cases}
use Rattle.model.proofs.Fitting.{every_left, every_right}
use Rattle.model.proofs.Keeping.{Named, cut_named, voided_named}

-- One entry

pub record Shape (ids : List (List ℕ)) (e : Entry) : Type 0 where
  pub spelled : AllByRecursion GoodLine (entry_lines e)
  pub shallow : AllByRecursion (λ l. l.level ≤ 63) (entry_lines e)
  pub tagged : OwnTag e
  pub payload : GoodPayload ids e.payload

module _ (ids : List (List ℕ)) (level : ℕ) (o : Option (List ℕ)) (tag : List ℕ) (p : Payload) (f : Shape ids (entry level o tag p)) where
  shape_none : (js : List (List ℕ)) → Shape js (entry level o tag none)
  shape_none js = record {
    spelled = (record { identified = f.spelled.0.identified; tagged = f.spelled.0.tagged; valued = tt }, tt);
    shallow = (f.shallow.0, tt);
    tagged = record { no_continuation = f.tagged.no_continuation; no_joint = f.tagged.no_joint };
    payload = tt;
  }

  shape_void : (js : List (List ℕ)) → Shape js (entry level o tag void)
  shape_void js = record {
    spelled = (record { identified = f.spelled.0.identified; tagged = f.spelled.0.tagged; valued = tt }, tt);
    shallow = (f.shallow.0, tt);
    tagged = record { no_continuation = f.tagged.no_continuation; no_joint = f.tagged.no_joint };
    payload = tt;
  }

  shape_named : (js : List (List ℕ)) → GoodPayload js p → Shape js (entry level o tag p)
  shape_named js good = record { spelled = f.spelled; shallow = f.shallow; tagged = f.tagged; payload = good }

module _ (ids : List (List ℕ)) (level : ℕ) (o : Option (List ℕ)) (tag : List ℕ) where
  shape_emptied : (p : Payload) → Shape ids (entry level o tag p) → Shape ids (entry level o tag (without_content p))
  shape_emptied none f = f
  shape_emptied (text first more) f = shape_none ids level o tag (text first more) f ids
  shape_emptied void f = f
  shape_emptied (pointer i) f = shape_void ids level o tag (pointer i) f ids

  shape_sub : (js : List (List ℕ)) → Sub ids js → (p : Payload) → Shape ids (entry level o tag p) → Shape js (entry level o tag p)
  shape_sub js sub none f = shape_named ids level o tag none f js tt
  shape_sub js sub (text first more) f = shape_named ids level o tag (text first more) f js f.payload
  shape_sub js sub void f = shape_named ids level o tag void f js tt
  shape_sub js sub (pointer i) f = shape_named ids level o tag (pointer i) f js (sub i f.payload)

  shape_voided : (js : List (List ℕ)) (i : List ℕ) → ((j : List ℕ) → Has ids j → bytes_eq i j ≡ false → Has js j) → (p : Payload) → Shape ids (entry level o tag p) → Shape js (entry level o tag (voided_payload i p))
  shape_voided js i others none f = shape_named ids level o tag none f js tt
  shape_voided js i others (text first more) f = shape_named ids level o tag (text first more) f js f.payload
  shape_voided js i others void f = shape_named ids level o tag void f js tt
  shape_voided js i others (pointer j) f = go (bytes_eq i j) refl
    where
      go : (b : Bool) → bytes_eq i j ≡ b → Shape js (entry level o tag (cond b void (pointer j)))
      go true e = shape_void ids level o tag (pointer j) f js
      go false e = shape_named ids level o tag (pointer j) f js (others j f.payload e)

-- Rows and records

abbrev Shaped : List (List ℕ) → ℕ → Structures → Type 0
Shaped ids level end = Unit {0}
Shaped ids level (next tag p subs rest) = Shape ids (entry level None tag p) × Shaped ids (level + 1) subs × Shaped ids level rest

abbrev Shaped-of : List (List ℕ) → List Record → Type 0
Shaped-of ids [] = Unit {0}
Shaped-of ids (r ∷ rs) = Shape ids (entry 0 r.identifier r.tag r.payload) × Shaped ids 1 r.subs × Shaped-of ids rs

module _ (ids : List (List ℕ)) where
  at_shaped : (level : ℕ) (s : Structures) → AllByRecursion (Shape ids) (entries_at level s) → Shaped ids level s
  at_shaped level end f = tt
  at_shaped level (next tag p subs rest) f =
      let inner = entries_at (level + 1) subs in
      let after = entries_at level rest in
      (f.0, at_shaped (level + 1) subs (every_left (Shape ids) inner after f.1), at_shaped level rest (every_right (Shape ids) inner after f.1))

  of_shaped : (rs : List Record) → AllByRecursion (Shape ids) (entries_of rs) → Shaped-of ids rs
  of_shaped [] f = tt
  of_shaped (r ∷ rs) f =
      let inner = entries_at 1 r.subs in
      let after = entries_of rs in
      (f.0, at_shaped 1 r.subs (every_left (Shape ids) inner after f.1), of_shaped rs (every_right (Shape ids) inner after f.1))

  shaped_at : (level : ℕ) (s : Structures) → Shaped ids level s → AllByRecursion (Shape ids) (entries_at level s)
  shaped_at level end f = tt
  shaped_at level (next tag p subs rest) f = (f.0, All-append (Shape ids) (entries_at (level + 1) subs) (entries_at level rest) (shaped_at (level + 1) subs f.1) (shaped_at level rest f.2))

  shaped_of : (rs : List Record) → Shaped-of ids rs → AllByRecursion (Shape ids) (entries_of rs)
  shaped_of [] f = tt
  shaped_of (r ∷ rs) f = (f.0, All-append (Shape ids) (entries_at 1 r.subs) (entries_of rs) (shaped_at 1 r.subs f.1) (shaped_of rs f.2))

  shapes : (es : List Entry) → AllByRecursion GoodLine (all_lines es) → AllByRecursion (λ l. l.level ≤ 63) (all_lines es) → AllByRecursion OwnTag es → AllByRecursion (λ e. GoodPayload ids e.payload) es → AllByRecursion (Shape ids) es
  shapes [] a b c d = tt
  shapes (e ∷ es) a b c d =
      let own = entry_lines e in
      let rest = all_lines es in
      let Low : Line → Type 0 = λ l. l.level ≤ 63 in
      (record { spelled = every_left GoodLine own rest a; shallow = every_left Low own rest b; tagged = c.0; payload = d.0 }, shapes es (every_right GoodLine own rest a) (every_right Low own rest b) c.1 d.1)

  shapes_spelled : (es : List Entry) → AllByRecursion (Shape ids) es → AllByRecursion GoodLine (all_lines es)
  shapes_spelled [] f = tt
  shapes_spelled (e ∷ es) f = All-append GoodLine (entry_lines e) (all_lines es) f.0.spelled (shapes_spelled es f.1)

  shapes_shallow : (es : List Entry) → AllByRecursion (Shape ids) es → AllByRecursion (λ l. l.level ≤ 63) (all_lines es)
  shapes_shallow [] f = tt
  shapes_shallow (e ∷ es) f = All-append (λ l. l.level ≤ 63) (entry_lines e) (all_lines es) f.0.shallow (shapes_shallow es f.1)

  shapes_tagged : (es : List Entry) → AllByRecursion (Shape ids) es → AllByRecursion OwnTag es
  shapes_tagged [] f = tt
  shapes_tagged (e ∷ es) f = (f.0.tagged, shapes_tagged es f.1)

  shapes_payloads : (es : List Entry) → AllByRecursion (Shape ids) es → AllByRecursion (λ e. GoodPayload ids e.payload) es
  shapes_payloads [] f = tt
  shapes_payloads (e ∷ es) f = (f.0.payload, shapes_payloads es f.1)

  -- a cut leaves them shaped
  cut_shaped : {m : Meaning} {c : Context} {all : List (Option ℕ)} {s s' : Structures} → Cut m c all s s' → (level : ℕ) → Shaped ids level s → Shaped ids level s'
  cut_shaped unmet level f = f
  cut_shaped (gone fated) level f = f.2
  cut_shaped (emptied {tag = tag} {p = p} fated) level f = (shape_emptied ids level None tag p f.0, tt, f.2)
  cut_shaped (inside cut bare) level f = (f.0, cut_shaped cut (level + 1) f.1, f.2)
  cut_shaped (later cut) level f = (f.0, f.1, cut_shaped cut level f.2)

  cut_shaped_of : {m : Meaning} {all : List (Option ℕ)} {rs left : List Record} {went : Option (List ℕ)} → CutTop m all rs left went → Shaped-of ids rs → Shaped-of ids left
  cut_shaped_of unmet_top f = f
  cut_shaped_of (gone_top fated) f = f.2
  cut_shaped_of (emptied_top {r = r} fated) f = (shape_emptied ids 0 r.identifier r.tag r.payload f.0, tt, f.2)
  cut_shaped_of (inside_top cut bare) f = (f.0, cut_shaped cut 1 f.1, f.2)
  cut_shaped_of (later_top cut) f = (f.0, f.1, cut_shaped_of cut f.2)

  module _ (js : List (List ℕ)) where
    sub_shaped : Sub ids js → (level : ℕ) (s : Structures) → Shaped ids level s → Shaped js level s
    sub_shaped sub level end f = tt
    sub_shaped sub level (next tag p subs rest) f = (shape_sub ids level None tag js sub p f.0, sub_shaped sub (level + 1) subs f.1, sub_shaped sub level rest f.2)

    sub_shaped_of : Sub ids js → (rs : List Record) → Shaped-of ids rs → Shaped-of js rs
    sub_shaped_of sub [] f = tt
    sub_shaped_of sub (r ∷ rs) f = (shape_sub ids 0 r.identifier r.tag js sub r.payload f.0, sub_shaped sub 1 r.subs f.1, sub_shaped_of sub rs f.2)

    module _ (i : List ℕ) (others : (j : List ℕ) → Has ids j → bytes_eq i j ≡ false → Has js j) where
      voided_shaped : (level : ℕ) (s : Structures) → Shaped ids level s → Shaped js level (voided i s)
      voided_shaped level end f = tt
      voided_shaped level (next tag p subs rest) f = (shape_voided ids level None tag js i others p f.0, voided_shaped (level + 1) subs f.1, voided_shaped level rest f.2)

      voided_shaped_of : (rs : List Record) → Shaped-of ids rs → Shaped-of js (map (voided_record i) rs)
      voided_shaped_of [] f = tt
      voided_shaped_of (r ∷ rs) f = (shape_voided ids 0 r.identifier r.tag js i others r.payload f.0, voided_shaped 1 r.subs f.1, voided_shaped_of rs f.2)

-- Identifiers

abbrev with_id : Option (List ℕ) → List (List ℕ) → List (List ℕ)
with_id None is = is
with_id (Some i) is = i ∷ is

abbrev ids_of : List Record → List (List ℕ)
ids_of [] = []
ids_of (r ∷ rs) = with_id r.identifier (ids_of rs)

identifiers_at : (level : ℕ) (s : Structures) (es : List Entry) → identifiers (entries_at level s ++ es) ≡ identifiers es
identifiers_at level end es = refl
identifiers_at level (next tag p subs rest) es =
    ap identifiers (append_assoc (entries_at (level + 1) subs) (entries_at level rest) es) ∙ identifiers_at (level + 1) subs (entries_at level rest ++ es) ∙ identifiers_at level rest es

with_id_is : (o : Option (List ℕ)) (is : List (List ℕ)) → elim o as (λ _. List (List ℕ)) [ None ↦ is | Some i ↦ i ∷ is ] ≡ with_id o is
with_id_is None is = refl
with_id_is (Some i) is = refl

identifiers_of : (rs : List Record) (es : List Entry) → identifiers es ≡ [] → identifiers (entries_of rs ++ es) ≡ ids_of rs
identifiers_of [] es no_more = no_more
identifiers_of (r ∷ rs) es no_more =
    with_id_is r.identifier (identifiers ((entries_at 1 r.subs ++ entries_of rs) ++ es)) ∙ ap (with_id r.identifier) (ap identifiers (append_assoc (entries_at 1 r.subs) (entries_of rs) es) ∙ identifiers_at 1 r.subs (entries_of rs ++ es) ∙ identifiers_of rs es no_more)

identifiers_are : (d : Dataset) → identifiers (entries d) ≡ ids_of d.records
identifiers_are d = identifiers_of (tops d) (entry 0 None TRLR none ∷ []) refl

without_id : (o : Option (List ℕ)) (is : List (List ℕ)) (j : List ℕ) → Has (with_id o is) j → (o ≡ Some j → ⊥) → Has is j
without_id None is j has other = has
without_id (Some i) is j has other = elim (has_cons_cases i is j has) [ inl e ↦ absurd (other (ap Some e)) | inr h ↦ h ]

with_id_has : (o : Option (List ℕ)) (is : List (List ℕ)) → Sub is (with_id o is)
with_id_has None is j has = has
with_id_has (Some i) is j has = has_later i is j has

with_id_sub : (o : Option (List ℕ)) (is js : List (List ℕ)) (j : List ℕ) → (Has is j → Has js j) → Has (with_id o is) j → Has (with_id o js) j
with_id_sub None is js j sub has = sub has
with_id_sub (Some i) is js j sub has = elim (has_cons_cases i is j has) [ inl e ↦ subst (Has (i ∷ js)) e (has_here i js) | inr h ↦ has_later i js j (sub h) ]

apart_rest : (o : Option (List ℕ)) (is : List (List ℕ)) → Apart (with_id o is) → Apart is
apart_rest None is a = a
apart_rest (Some i) is a = a.1

apart_sub : (o : Option (List ℕ)) (is js : List (List ℕ)) → Sub js is → Apart js → Apart (with_id o is) → Apart (with_id o js)
apart_sub None is js sub b a = b
apart_sub (Some i) is js sub b a = (λ has. a.0 (sub i has), b)

-- what a cut leaves of them
ids_kept : {m : Meaning} {all : List (Option ℕ)} {rs left : List Record} {went : Option (List ℕ)} → CutTop m all rs left went → (j : List ℕ) → (went ≡ Some j → ⊥) → Has (ids_of rs) j → Has (ids_of left) j
ids_kept unmet_top j other has = has
ids_kept (gone_top {r = r} {rs = rs} fated) j other has = without_id r.identifier (ids_of rs) j has other
ids_kept (emptied_top fated) j other has = has
ids_kept (inside_top cut bare) j other has = has
ids_kept (later_top {r = r} {rs = rs} {left = left} cut) j other has = with_id_sub r.identifier (ids_of rs) (ids_of left) j (ids_kept cut j other) has

ids_sub : {m : Meaning} {all : List (Option ℕ)} {rs left : List Record} {went : Option (List ℕ)} → CutTop m all rs left went → (j : List ℕ) → Has (ids_of left) j → Has (ids_of rs) j
ids_sub unmet_top j has = has
ids_sub (gone_top {r = r} {rs = rs} fated) j has = with_id_has r.identifier (ids_of rs) j has
ids_sub (emptied_top fated) j has = has
ids_sub (inside_top cut bare) j has = has
ids_sub (later_top {r = r} {rs = rs} {left = left} cut) j has = with_id_sub r.identifier (ids_of left) (ids_of rs) j (ids_sub cut j) has

ids_apart : {m : Meaning} {all : List (Option ℕ)} {rs left : List Record} {went : Option (List ℕ)} → CutTop m all rs left went → Apart (ids_of rs) → Apart (ids_of left)
ids_apart unmet_top a = a
ids_apart (gone_top {r = r} {rs = rs} fated) a = apart_rest r.identifier (ids_of rs) a
ids_apart (emptied_top fated) a = a
ids_apart (inside_top cut bare) a = a
ids_apart (later_top {r = r} {rs = rs} {left = left} cut) a = apart_sub r.identifier (ids_of rs) (ids_of left) (ids_sub cut) (ids_apart cut (apart_rest r.identifier (ids_of rs) a)) a

ids_voided : (i : List ℕ) (rs : List Record) → ids_of (map (voided_record i) rs) ≡ ids_of rs
ids_voided i [] = refl
ids_voided i (r ∷ rs) = ap (with_id r.identifier) (ids_voided i rs)

same_itself : (i : List ℕ) → bytes_eq i i ≡ true
same_itself [] = refl
same_itself (x ∷ xs) = and_from (eqb x x) (bytes_eq xs xs) (eq-eqb x x refl) (same_itself xs)

-- The tags of records

abbrev TagOfRecord : Option (List ℕ) → List ℕ → Type 0
TagOfRecord o tag = (tag ≡ HEAD → ⊥) × (tag ≡ TRLR → ⊥)

tags_named : (rs : List Record) → AllByRecursion RecordTag rs → Named TagOfRecord rs
tags_named [] h = tt
tags_named (r ∷ rs) h = ((h.0.no_header, h.0.no_trailer), tags_named rs h.1)

named_tags : (rs : List Record) → Named TagOfRecord rs → AllByRecursion RecordTag rs
named_tags [] h = tt
named_tags (r ∷ rs) h = (record { no_header = h.0.0; no_trailer = h.0.1 }, named_tags rs h.1)

-- The dataset

dataset_shaped : (d : Dataset) → IsDataset d → Shaped-of (ids_of d.records) (tops d) × Shape [] (entry 0 None TRLR none)
dataset_shaped d is =
    let ids = ids_of d.records in
    let named : AllByRecursion (λ e. GoodPayload ids e.payload) (entries d) = subst (λ js. AllByRecursion (λ e. GoodPayload js e.payload) (entries d)) (identifiers_are d) is.payloads in
    let all = shapes ids (entries d) is.spelled is.shallow is.tagged named in
    let last = entry 0 None TRLR none ∷ [] in
    (of_shaped ids (tops d) (every_left (Shape ids) (entries_of (tops d)) last all), shape_none ids 0 None TRLR none (every_right (Shape ids) (entries_of (tops d)) last all).0 [])

shaped_dataset : (d : Dataset) → Shaped-of (ids_of d.records) (tops d) → Shape [] (entry 0 None TRLR none) → Named TagOfRecord d.records → Apart (ids_of d.records) → IsDataset d
shaped_dataset d f end-shape tags apart =
    let ids = ids_of d.records in
    let last = entry 0 None TRLR none ∷ [] in
    let all = All-append (Shape ids) (entries_of (tops d)) last (shaped_of ids (tops d) f) (shape_none [] 0 None TRLR none end-shape ids, tt) in
    record {
      spelled = shapes_spelled ids (entries d) all;
      shallow = shapes_shallow ids (entries d) all;
      tagged = shapes_tagged ids (entries d) all;
      records_tagged = named_tags d.records tags;
      apart = subst Apart (sym (identifiers_are d)) apart;
      payloads = subst (λ js. AllByRecursion (λ e. GoodPayload js e.payload) (entries d)) (sym (identifiers_are d)) (shapes_payloads ids (entries d) all);
    }

module _ (m : Meaning) (d : Dataset) (is : IsDataset d) where
  settled_dataset : (all : List (Option ℕ)) (left : List Record) (went : Option (List ℕ)) → CutTop m all d.records left went → IsDataset (settled d.header (left, went))
  settled_dataset all left None cut =
      let (f, last) = dataset_shaped d is in
      let ids = ids_of d.records in
      let js = ids_of left in
      let sub : Sub ids js = λ j has. ids_kept cut j (λ e. never j e) has in
      let plain : Dataset = settled d.header (left, None) in
      let apart = subst Apart (identifiers_are d) is.apart in
      shaped_dataset plain (sub_shaped_of ids js sub (tops plain) (f.0, f.1, cut_shaped_of ids cut f.2)) last (cut_named m TagOfRecord cut (tags_named d.records is.records_tagged)) (ids_apart cut apart)
  settled_dataset all left (Some i) cut =
      let (f, last) = dataset_shaped d is in
      let ids = ids_of d.records in
      let plain : Dataset = settled d.header (left, None) in
      let e : Dataset = settled d.header (left, Some i) in
      let js = ids_of e.records in
      let others : (j : List ℕ) → Has ids j → bytes_eq i j ≡ false → Has js j = λ j has differ. subst (λ ks. Has ks j) (sym (ids_voided i left)) (ids_kept cut j (λ eq. let one : i ≡ j = cc in both_ways (bytes_eq i j) differ (subst (λ k. bytes_eq i k ≡ true) one (same_itself i))) has) in
      let apart = subst Apart (identifiers_are d) is.apart in
      shaped_dataset e (voided_shaped_of ids js i others (tops plain) (f.0, f.1, cut_shaped_of ids cut f.2)) last (voided_named TagOfRecord i left (cut_named m TagOfRecord cut (tags_named d.records is.records_tagged))) (subst Apart (sym (ids_voided i left)) (ids_apart cut apart))

  pub cut_dataset : {e : Dataset} → CutAll m d e → IsDataset e
  cut_dataset (in_header {header = header} cut) =
      let (f, last) = dataset_shaped d is in
      let ids = ids_of d.records in
      shaped_dataset (record { header = header; records = d.records }) (f.0, cut_shaped ids cut 1 f.1, f.2) last (tags_named d.records is.records_tagged) (subst Apart (identifiers_are d) is.apart)
  cut_dataset (in_records {left = left} {went = went} cut) = settled_dataset _ left went cut

pub dataset_kept : DatasetKept
dataset_kept m law d e k is b low high removal = cut_dataset m d is (all_cuts m d e k removal)
