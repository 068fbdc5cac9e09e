-- A removal keeps the rules. Assumes nothing.
use Rattle.std.proofs.Common.{◌≡◌, ℕ, Bool, true, false, cond, not, ◌&&◌, ◌||◌, eqb, ◌⊎◌, List, [], ◌∷◌, ◌++◌, map, Some, None, Option, sym, refl, ap, ◌∙◌, subst, inl, inr, append_assoc, arith}
use Rattle.std.specs.List.{AllByRecursion}
use Rattle.std.proofs.lemmas.Bool.{and_parts, and_cases, or_cases, not-false, eqb-true, both_ways}
use Rattle.std.specs.Str.{bytes_eq}
use Rattle.model.specs.declared.Context.{Context}
use Rattle.model.specs.declared.Context.TheVariants.{Top}
use Rattle.model.specs.declared.Row.{Row}
use Rattle.model.specs.declared.Kind.{Kind}
use Rattle.model.specs.declared.Kind.TheVariants.{Nothing, Text, Flag, Integer, Word, Words, Texts, Date, Period, Exact, Time, Age, Name, Version, Pointer, Anything}
use Rattle.model.specs.Books.{Meaning, Lawful}
use Rattle.model.specs.Datasets.{Payload, none, text, void, pointer, Structures, end, next, Record, Dataset, tops, HEAD}
use Rattle.model.specs.Kinds.{Takes, may_be_emptied}
use Rattle.model.specs.Rules.{below, typed, types_of, top_types, situation, NamesType, NeedsMet, Belongs}
use Rattle.model.specs.Removal.{goes, stays_empty, held, fate, required, kind_of, how_many, must_stay, can_be_emptied, is_pointer_kind, without_content, left_bare, voided_payload, voided, voided_record, settled}
use Rattle.std.proofs.ByRecursion.{has_append_left}
use Rattle.model.specs.Laws.{BelongsKept}
use Rattle.model.proofs.Cuts.{never, Cut, unmet, gone, emptied, inside, later, CutTop, unmet_top, gone_top, emptied_top, inside_top, later_top, CutAll, in_header, in_records, all_cuts}
use Rattle.model.proofs.Members.{Sub, sub_append, has_but, spared}
use Rattle.model.proofs.Fitting.{Fit, Fits, Fits-of, belongs_fits, fits_belong}

-- Fates

fate_goes : (a b : Bool) → cond a (cond b stays_empty held) goes ≡ goes → a ≡ false
fate_goes false b e = refl
fate_goes true true e = let z : ◌≡◌ {A = ℕ} 0 1 = cc in absurd (omega arith)
fate_goes true false e = let z : ◌≡◌ {A = ℕ} 0 1 = cc in absurd (omega arith)

fate_stays : (a b : Bool) → cond a (cond b stays_empty held) goes ≡ stays_empty → (a ≡ true) × (b ≡ true)
fate_stays false b e = let z : ◌≡◌ {A = ℕ} 0 1 = cc in absurd (omega arith)
fate_stays true true e = (refl, refl)
fate_stays true false e = let z : ◌≡◌ {A = ℕ} 0 1 = cc in absurd (omega arith)

module _ (m : Meaning) (c : Context) (tag : List ℕ) (r : Row) (is : m.row c tag ≡ Some r) where
  row_typed : typed m c tag ≡ Some r.typed
  row_typed = ap (λ (o : Option Row). elim o as (λ _. Option ℕ) [ None ↦ None | Some r ↦ Some r.typed ]) is

  row_required : required m c tag ≡ r.required
  row_required = ap (λ (o : Option Row). elim o as (λ _. Bool) [ None ↦ false | Some r ↦ r.required ]) is

  row_kind : kind_of m c tag ≡ m.kind r.typed
  row_kind = ap (λ (o : Option Row). elim o as (λ _. Kind) [ None ↦ Nothing | Some r ↦ m.kind r.typed ]) is

-- A structure that goes leaves the needs met.
module _ (m : Meaning) (law : Lawful m) where
  spared_needs : (c : Context) (tag : List ℕ) (r : Row) (xs ys : List (Option ℕ)) → m.row c tag ≡ Some r → fate m c (xs ++ typed m c tag ∷ ys) tag ≡ goes → NeedsMet m c (xs ++ typed m c tag ∷ ys) → NeedsMet m c (xs ++ ys)
  spared_needs c tag r xs ys is fated met j t need =
      elim (has_but xs (typed m c tag) ys (Some t) (met j t need)) [
        | inr h ↦ h
        | inl e ↦
            let all = xs ++ typed m c tag ∷ ys in
            let own = row_typed m c tag r is in
            let same : t ≡ r.typed = cc in
            elim (and_cases (required m c tag) (eqb (how_many (typed m c tag) all) 1) (fate_goes (must_stay m c all tag) (can_be_emptied m c tag) fated)) [
              | inl free ↦
                  let asked : r.required ≡ true = law.needed_required c tag r is (j, subst (λ u. m.need c j ≡ Some u) same need) in
                  absurd (both_ways (required m c tag) free (row_required m c tag r is ∙ asked))
              | inr more ↦ spared t xs ys (subst (λ o. eqb (how_many o (xs ++ o ∷ ys)) 1 ≡ false) e more)
            ]
      ]

-- What an emptied structure may hold

pointer_kind : (k : Kind) → is_pointer_kind k ≡ true → (s : ℕ) × (k ≡ Pointer s)
pointer_kind Nothing e = absurd (both_ways false refl e)
pointer_kind Text e = absurd (both_ways false refl e)
pointer_kind Flag e = absurd (both_ways false refl e)
pointer_kind Integer e = absurd (both_ways false refl e)
pointer_kind (Word s) e = absurd (both_ways false refl e)
pointer_kind (Words s) e = absurd (both_ways false refl e)
pointer_kind Texts e = absurd (both_ways false refl e)
pointer_kind Date e = absurd (both_ways false refl e)
pointer_kind Period e = absurd (both_ways false refl e)
pointer_kind Exact e = absurd (both_ways false refl e)
pointer_kind Time e = absurd (both_ways false refl e)
pointer_kind Age e = absurd (both_ways false refl e)
pointer_kind Name e = absurd (both_ways false refl e)
pointer_kind Version e = absurd (both_ways false refl e)
pointer_kind (Pointer s) e = (s, refl)
pointer_kind Anything e = absurd (both_ways false refl e)

-- a pointer kind takes no text, and not nothing
pointer_no_text : (m : Meaning) (s : ℕ) (first : List ℕ) (more : List (List ℕ)) → Takes m (Pointer s) (text first more) → ⊥
pointer_no_text m s first [] t = t
pointer_no_text m s first (u ∷ us) (inl e) = let z : ◌≡◌ {A = ℕ} 0 1 = cc in omega arith
pointer_no_text m s first (u ∷ us) (inr e) = let z : ◌≡◌ {A = ℕ} 0 1 = cc in omega arith

pointer_no_nothing : (m : Meaning) (s : ℕ) → Takes m (Pointer s) none → ⊥
pointer_no_nothing m s (inl e) = let z : ◌≡◌ {A = ℕ} 0 1 = cc in omega arith
pointer_no_nothing m s (inr e) = both_ways false refl e

module _ (m : Meaning) (k : Kind) where
  emptied_taken : (p : Payload) → (is_pointer_kind k ≡ true) ⊎ (may_be_emptied k ≡ true) → Takes m k p → Takes m k (without_content p)
  emptied_taken none h t = t
  emptied_taken (text first more) (inl h) t = let (s, e) = pointer_kind k h in absurd (pointer_no_text m s first more (subst (λ k. Takes m k (text first more)) e t))
  emptied_taken (text first more) (inr h) t = inr h
  emptied_taken void h t = t
  emptied_taken (pointer i) h t = t

  emptied_bare : (p : Payload) → (is_pointer_kind k ≡ true) ⊎ (may_be_emptied k ≡ true) → Takes m k p → without_content p ≡ none → may_be_emptied k ≡ true
  emptied_bare p (inr h) t e = h
  emptied_bare none (inl h) t e = let (s, is) = pointer_kind k h in absurd (pointer_no_nothing m s (subst (λ k. Takes m k none) is t))
  emptied_bare (text first more) (inl h) t e = let (s, is) = pointer_kind k h in absurd (pointer_no_text m s first more (subst (λ k. Takes m k (text first more)) is t))
  emptied_bare void (inl h) t e = let z : ◌≡◌ {A = ℕ} 0 1 = cc in absurd (omega arith)
  emptied_bare (pointer i) (inl h) t e = let z : ◌≡◌ {A = ℕ} 0 1 = cc in absurd (omega arith)

emptied_no_pointer : (p : Payload) (i : List ℕ) → without_content p ≡ pointer i → ⊥
emptied_no_pointer none i e = let z : ◌≡◌ {A = ℕ} 0 1 = cc in omega arith
emptied_no_pointer (text first more) i e = let z : ◌≡◌ {A = ℕ} 0 1 = cc in omega arith
emptied_no_pointer void i e = let z : ◌≡◌ {A = ℕ} 0 1 = cc in omega arith
emptied_no_pointer (pointer j) i e = let z : ◌≡◌ {A = ℕ} 0 1 = cc in omega arith

-- One structure
module _ (m : Meaning) (law : Lawful m) (N : List ℕ → ℕ → Type 0) (h : Bool) (c : Context) (before : List (Option ℕ)) (tag : List ℕ) (p : Payload) (subs : Structures) (f : Fit m N (situation m h c before tag p subs)) where
  fit_emptied : (all : List (Option ℕ)) → fate m c all tag ≡ stays_empty → Fit m N (situation m h c before tag (without_content p) end)
  fit_emptied all fated =
      let (stay, can) = fate_stays (must_stay m c all tag) (can_be_emptied m c tag) fated in
      let (asked, only) = and_parts (required m c tag) (eqb (how_many (typed m c tag) all) 1) stay in
      let (needless, kind) = and_parts (eqb (m.needs (below m c tag)) 0) (is_pointer_kind (kind_of m c tag) || may_be_emptied (kind_of m c tag)) can in
      let either = or_cases (is_pointer_kind (kind_of m c tag)) (may_be_emptied (kind_of m c tag)) kind in
      let either' : (is_pointer_kind (m.kind f.own.typed) ≡ true) ⊎ (may_be_emptied (m.kind f.own.typed) ≡ true) = subst (λ k. (is_pointer_kind k ≡ true) ⊎ (may_be_emptied k ≡ true)) (row_kind m c tag f.own f.is) either in
      let no_needs = eqb-true (m.needs (below m c tag)) 0 needless in
      record {
        own = f.own;
        is = f.is;
        taken = emptied_taken m (m.kind f.own.typed) p either' f.taken;
        aimed = λ t i k e. absurd (emptied_no_pointer p i e);
        single = f.single;
        complete = λ j t need. let out = law.uncounted (below m c tag) j (omega arith) in never t (sym out ∙ need);
        filled = λ bare. inr (sym (row_required m c tag f.own f.is) ∙ asked, emptied_bare m (m.kind f.own.typed) p either' f.taken bare.0);
      }

  fit_inside : (left : Structures) → NeedsMet m (below m c tag) (types_of m (below m c tag) left) → left_bare m c tag p left ≡ false → Fit m N (situation m h c before tag p left)
  fit_inside left met bare = record {
    own = f.own;
    is = f.is;
    taken = f.taken;
    aimed = f.aimed;
    single = f.single;
    complete = met;
    filled = λ b.
        let now : not (required m c tag && may_be_emptied (kind_of m c tag)) ≡ false = subst (λ s. left_bare m c tag none s ≡ false) b.1 (subst (λ q. left_bare m c tag q left ≡ false) b.0 bare) in
        let (asked, empty) = and_parts (required m c tag) (may_be_emptied (kind_of m c tag)) (not-false (required m c tag && may_be_emptied (kind_of m c tag)) now) in
        inr (sym (row_required m c tag f.own f.is) ∙ asked, sym (ap may_be_emptied (row_kind m c tag f.own f.is)) ∙ empty);
  }

-- Voiding

types_voided : (m : Meaning) (i : List ℕ) (c : Context) (s : Structures) → types_of m c (voided i s) ≡ types_of m c s
types_voided m i c end = refl
types_voided m i c (next tag p subs rest) = ap (λ ts. typed m c tag ∷ ts) (types_voided m i c rest)

voided_taken : (m : Meaning) (k : Kind) (i : List ℕ) (p : Payload) → Takes m k p → Takes m k (voided_payload i p)
voided_taken m k i none t = t
voided_taken m k i (text first more) t = t
voided_taken m k i void t = t
voided_taken m k i (pointer j) t = go (bytes_eq i j)
  where
    go : (b : Bool) → Takes m k (cond b void (pointer j))
    go true = t
    go false = t

voided_pointer : (i j : List ℕ) (p : Payload) → voided_payload i p ≡ pointer j → p ≡ pointer j
voided_pointer i j none e = e
voided_pointer i j (text first more) e = e
voided_pointer i j void e = e
voided_pointer i j (pointer l) e = go (bytes_eq i l) e
  where
    go : (b : Bool) → cond b void (pointer l) ≡ pointer j → pointer l ≡ pointer j
    go true e = let z : ◌≡◌ {A = ℕ} 0 1 = cc in absurd (omega arith)
    go false e = e

voided_none : (i : List ℕ) (p : Payload) → voided_payload i p ≡ none → p ≡ none
voided_none i none e = e
voided_none i (text first more) e = e
voided_none i void e = e
voided_none i (pointer l) e = go (bytes_eq i l) e
  where
    go : (b : Bool) → cond b void (pointer l) ≡ none → pointer l ≡ none
    go true e = let z : ◌≡◌ {A = ℕ} 0 1 = cc in absurd (omega arith)
    go false e = e

voided_end : (i : List ℕ) (s : Structures) → voided i s ≡ end → s ≡ end
voided_end i end e = refl
voided_end i (next tag p subs rest) e = let z : ◌≡◌ {A = ℕ} 0 1 = cc in absurd (omega arith)

-- fewer before it, other records, and pointers voided
module _ (m : Meaning) (N M : List ℕ → ℕ → Type 0) (names : (i : List ℕ) (t : ℕ) → N i t → M i t) where
  fit_less : (h : Bool) (c : Context) (few many : List (Option ℕ)) (tag : List ℕ) (p : Payload) (subs : Structures) → Sub few many → Fit m N (situation m h c many tag p subs) → Fit m M (situation m h c few tag p subs)
  fit_less h c few many tag p subs sub f = record {
    own = f.own;
    is = f.is;
    taken = f.taken;
    aimed = λ t i k e. names i t (f.aimed t i k e);
    single = λ has. f.single (sub (Some f.own.typed) has);
    complete = f.complete;
    filled = f.filled;
  }

  fits_less : (c : Context) (few many : List (Option ℕ)) (s : Structures) → Sub few many → Fits m N c many s → Fits m M c few s
  fits_less c few many end sub f = tt
  fits_less c few many (next tag p subs rest) sub f =
      (fit_less false c few many tag p subs sub f.0, fits_less (below m c tag) [] [] subs (λ x has. has) f.1, fits_less c (few ++ typed m c tag ∷ []) (many ++ typed m c tag ∷ []) rest (sub_append few many (typed m c tag ∷ []) sub) f.2)

  fits_less_of : (h : Bool) (few many : List (Option ℕ)) (rs : List Record) → Sub few many → Fits-of m N h many rs → Fits-of m M h few rs
  fits_less_of h few many [] sub f = tt
  fits_less_of h few many (r ∷ rs) sub f =
      (fit_less h Top few many r.tag r.payload r.subs sub f.0, fits_less (below m Top r.tag) [] [] r.subs (λ x has. has) f.1, fits_less_of false (few ++ typed m Top r.tag ∷ []) (many ++ typed m Top r.tag ∷ []) rs (sub_append few many (typed m Top r.tag ∷ []) sub) f.2)

  fit_voided : (i : List ℕ) (h : Bool) (c : Context) (before : List (Option ℕ)) (tag : List ℕ) (p : Payload) (subs : Structures) → Fit m N (situation m h c before tag p subs) → Fit m M (situation m h c before tag (voided_payload i p) (voided i subs))
  fit_voided i h c before tag p subs f = record {
    own = f.own;
    is = f.is;
    taken = voided_taken m (m.kind f.own.typed) i p f.taken;
    aimed = λ t j k e. names j t (f.aimed t j k (voided_pointer i j p e));
    single = f.single;
    complete = subst (NeedsMet m (below m c tag)) (sym (types_voided m i (below m c tag) subs)) f.complete;
    filled = λ bare. f.filled (voided_none i p bare.0, voided_end i subs bare.1);
  }

  fits_voided : (i : List ℕ) (c : Context) (before : List (Option ℕ)) (s : Structures) → Fits m N c before s → Fits m M c before (voided i s)
  fits_voided i c before end f = tt
  fits_voided i c before (next tag p subs rest) f =
      (fit_voided i false c before tag p subs f.0, fits_voided i (below m c tag) [] subs f.1, fits_voided i c (before ++ typed m c tag ∷ []) rest f.2)

  fits_voided_of : (i : List ℕ) (h : Bool) (before : List (Option ℕ)) (rs : List Record) → Fits-of m N h before rs → Fits-of m M h before (map (voided_record i) rs)
  fits_voided_of i h before [] f = tt
  fits_voided_of i h before (r ∷ rs) f =
      (fit_voided i h Top before r.tag r.payload r.subs f.0, fits_voided i (below m Top r.tag) [] r.subs f.1, fits_voided_of i false (before ++ typed m Top r.tag ∷ []) rs f.2)

-- A row

module _ (m : Meaning) (law : Lawful m) (N : List ℕ → ℕ → Type 0) where
  pub cut_fits : {c : Context} {all : List (Option ℕ)} {s s' : Structures} → Cut m c all s s' → (before : List (Option ℕ)) → all ≡ before ++ types_of m c s → Fits m N c before s → Fits m N c before s' × (NeedsMet m c all → NeedsMet m c (before ++ types_of m c s'))
  cut_fits (unmet {c = c}) before e f = (f, subst (NeedsMet m c) e)
  cut_fits (gone {c = c} {tag = tag} {rest = rest} fated) before e f = (
    fits_less m N N (λ i t n. n) c before (before ++ typed m c tag ∷ []) rest (λ x has. has_append_left before (typed m c tag ∷ []) x has) f.2,
    λ met. spared_needs m law c tag f.0.own before (types_of m c rest) f.0.is (subst (λ a. fate m c a tag ≡ goes) e fated) (subst (NeedsMet m c) e met),
  )
  cut_fits (emptied {c = c} {all = all} {tag = tag} {p = p} {subs = subs} fated) before e f =
      ((fit_emptied m law N false c before tag p subs f.0 all fated, tt, f.2), subst (NeedsMet m c) e)
  cut_fits (inside {c = c} {tag = tag} {p = p} {subs = subs} {left = left} cut bare) before e f =
      let (g, met) = cut_fits cut [] refl f.1 in
      ((fit_inside m law N false c before tag p subs f.0 left (met f.0.complete) bare, g, f.2), subst (NeedsMet m c) e)
  cut_fits (later {c = c} {tag = tag} {rest = rest} {left = left} cut) before e f =
      let (g, met) = cut_fits cut (before ++ typed m c tag ∷ []) (e ∙ sym (append_assoc before (typed m c tag ∷ []) (types_of m c rest))) f.2 in
      ((f.0, f.1, g), λ all_met. subst (NeedsMet m c) (append_assoc before (typed m c tag ∷ []) (types_of m c left)) (met all_met))

  -- The records

  cut_fits_top : {all : List (Option ℕ)} {rs left : List Record} {went : Option (List ℕ)} → CutTop m all rs left went → (before : List (Option ℕ)) → all ≡ before ++ top_types m rs → Fits-of m N false before rs → Fits-of m N false before left × (NeedsMet m Top all → NeedsMet m Top (before ++ top_types m left))
  cut_fits_top unmet_top before e f = (f, subst (NeedsMet m Top) e)
  cut_fits_top (gone_top {r = r} {rs = rs} fated) before e f = (
    fits_less_of m N N (λ i t n. n) false before (before ++ typed m Top r.tag ∷ []) rs (λ x has. has_append_left before (typed m Top r.tag ∷ []) x has) f.2,
    λ met. spared_needs m law Top r.tag f.0.own before (top_types m rs) f.0.is (subst (λ a. fate m Top a r.tag ≡ goes) e fated) (subst (NeedsMet m Top) e met),
  )
  cut_fits_top {all} (emptied_top {r = r} fated) before e f =
      ((fit_emptied m law N false Top before r.tag r.payload r.subs f.0 all fated, tt, f.2), subst (NeedsMet m Top) e)
  cut_fits_top (inside_top {r = r} {left = left} cut bare) before e f =
      let (g, met) = cut_fits cut [] refl f.1 in
      ((fit_inside m law N false Top before r.tag r.payload r.subs f.0 left (met f.0.complete) bare, g, f.2), subst (NeedsMet m Top) e)
  cut_fits_top (later_top {r = r} {rs = rs} {left = left} cut) before e f =
      let (g, met) = cut_fits_top cut (before ++ typed m Top r.tag ∷ []) (e ∙ sym (append_assoc before (typed m Top r.tag ∷ []) (top_types m rs))) f.2 in
      ((f.0, f.1, g), λ all_met. subst (NeedsMet m Top) (append_assoc before (typed m Top r.tag ∷ []) (top_types m left)) (met all_met))

-- what holds of each record by its identifier and tag holds of each that is left
abbrev pub Named : (Option (List ℕ) → List ℕ → Type 0) → List Record → Type 0
Named P rs = AllByRecursion (λ (r : Record). P r.identifier r.tag) rs

pub cut_named : (m : Meaning) (P : Option (List ℕ) → List ℕ → Type 0) {all : List (Option ℕ)} {rs left : List Record} {went : Option (List ℕ)} → CutTop m all rs left went → Named P rs → Named P left
cut_named m P unmet_top h = h
cut_named m P (gone_top fated) h = h.1
cut_named m P (emptied_top fated) h = h
cut_named m P (inside_top cut bare) h = h
cut_named m P (later_top cut) h = (h.0, cut_named m P cut h.1)

pub voided_named : (P : Option (List ℕ) → List ℕ → Type 0) (i : List ℕ) (rs : List Record) → Named P rs → Named P (map (voided_record i) rs)
voided_named P i [] h = tt
voided_named P i (r ∷ rs) h = (h.0, voided_named P i rs h.1)

top_types_voided : (m : Meaning) (i : List ℕ) (rs : List Record) → top_types m (map (voided_record i) rs) ≡ top_types m rs
top_types_voided m i [] = refl
top_types_voided m i (r ∷ rs) = ap (λ ts. typed m Top r.tag ∷ ts) (top_types_voided m i rs)

-- The dataset

abbrev naming : Meaning → List ℕ → ℕ → Option (List ℕ) → List ℕ → Type 0
naming m i t o tag = o ≡ Some i → typed m Top tag ≡ Some t

module _ (m : Meaning) (law : Lawful m) (d : Dataset) where
  settled_belongs : (left : List Record) (went : Option (List ℕ)) → ((i : List ℕ) (t : ℕ) → NamesType m d i t → Named (naming m i t) left) → Fits-of m (NamesType m d) true [] (tops (settled d.header (left, None))) → NeedsMet m Top (typed m Top HEAD ∷ top_types m left) → Belongs m (settled d.header (left, went))
  settled_belongs left None names f met =
      let e : Dataset = settled d.header (left, None) in
      fits_belong m e (fits_less_of m (NamesType m d) (NamesType m e) names true [] [] (tops e) (λ x has. has) f) met
  settled_belongs left (Some i) names f met =
      let e : Dataset = settled d.header (left, Some i) in
      let plain : Dataset = settled d.header (left, None) in
      fits_belong m e (fits_voided_of m (NamesType m d) (NamesType m e) (λ j t n. voided_named (naming m j t) i left (names j t n)) i true [] (tops plain) f) (subst (λ ts. NeedsMet m Top (typed m Top HEAD ∷ ts)) (sym (top_types_voided m i left)) met)

  pub cut_belongs : Belongs m d → {e : Dataset} → CutAll m d e → Belongs m e
  cut_belongs b (in_header {header = header} cut) =
      let f = belongs_fits m d b in
      let N = NamesType m d in
      let (g, met) = cut_fits m law N cut [] refl f.1 in
      let top : Fit m N (situation m true Top [] HEAD none header) = record { own = f.0.own; is = f.0.is; taken = f.0.taken; aimed = f.0.aimed; single = f.0.single; complete = met f.0.complete; filled = λ bare. inl refl } in
      fits_belong m (record { header = header; records = d.records }) (top, g, f.2) b.top_complete
  cut_belongs b (in_records {left = left} {went = went} cut) =
      let f = belongs_fits m d b in
      let (g, met) = cut_fits_top m law (NamesType m d) cut (typed m Top HEAD ∷ []) refl f.2 in
      settled_belongs left went (λ i t n. cut_named m (naming m i t) cut n) (f.0, f.1, g) (met b.top_complete)

pub belongs_kept : BelongsKept
belongs_kept m law d e k is b low high removal = cut_belongs m law d b (all_cuts m d e k removal)
