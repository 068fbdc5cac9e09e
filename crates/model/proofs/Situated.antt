-- Each situation of a dataset, by the position of its entry. Assumes nothing.
use Rattle.std.proofs.Common.{◌≡◌, ℕ, zero, suc, ◌+◌, ◌<◌, ◌≤◌, true, List, [], ◌∷◌, reverse, length, get_or, take, drop, Some, None, Option, sym, refl, ap, ◌∙◌, subst, inl, inr, arith, MatchOption}
use Rattle.std.specs.List.{AllByRecursion, ContainsAt as Has}
use Rattle.std.proofs.ByRecursion.{All-get_or, All-from_get_or, All-append}
use Rattle.std.proofs.lemmas.List.{drop_all}
use Rattle.std.proofs.lemmas.Bool.{cases_lt, true≢false}
use Rattle.model.specs.declared.Context.{Context}
use Rattle.model.specs.declared.Context.TheVariants.{Top, Under}
use Rattle.model.specs.declared.Row.{Row}
use Rattle.model.specs.Books.{Meaning}
use Rattle.model.specs.Datasets.{Structures, end, next, Record, Dataset, tops, Entry, entries_of}
use Rattle.model.specs.Kinds.{Takes}
use Rattle.model.specs.Rules.{below, typed, types_of, top_types, Situation, situations, NamesType}
use Rattle.model.specs.Edits.{no_entry}
use Rattle.model.specs.Refusals.{BookRule, known, taken, aimed_right, single, needed, filled, BookKeeps}
use Rattle.model.specs.Positions.{Mark, mark, no_mark, type_in, within, types_ahead, marks, level_at, row_at, seen_at, ahead_at, before_at, under_at, LeafAt, AllTyped, NeedMet, KeepsAt, top_at}
use Rattle.model.proofs.Parts.{Begins}
use Rattle.model.proofs.Names.{every_right}
use Rattle.model.proofs.Options.{never}
use Rattle.model.proofs.Marks.{marks_in, marks_of, fresh, Here, stand_all, stand_at, stand_count, marks_are, ahead_top}
use Rattle.model.proofs.Positions.{length_marks, past_more, mark_at, ahead_step}

-- entry i of b stands as s says
pub record Situated (m : Meaning) (b : List Entry) (i : ℕ) (s : Situation) : Type 0 where
  pub row : s.row ≡ row_at m b i
  pub first : s.header ≡ true → i ≡ 0
  pub header : i ≡ 0 → s.header ≡ true
  pub before : s.before ≡ before_at m b i
  pub payload : s.payload ≡ (get_or b i no_entry).payload
  pub inside : s.inside ≡ within m (row_at m b i)
  pub types : types_of m s.inside s.subs ≡ under_at m b i
  pub leaf : s.subs ≡ end → LeafAt b i
  pub bare : LeafAt b i → s.subs ≡ end
  pub steps : i + 1 < length b → level_at b (i + 1) ≤ level_at b i + 1

fresh_first : (ms : List Mark) (i : ℕ) → i < length ms → fresh (reverse (take i ms)) ≡ true → i ≡ 0
fresh_first ms zero h e = refl
fresh_first ms (suc i) h e = absurd (true≢false (sym e ∙ ap fresh (past_more [] ms i (omega arith))))

fresh_start : (ms : List Mark) (i : ℕ) → i ≡ 0 → fresh (reverse (take i ms)) ≡ true
fresh_start ms i e = ap (λ n. fresh (reverse (take n ms))) e

module _ (m : Meaning) (b : List Entry) (Q : Mark → Type 0) (j : ℕ) where
  begins_at : Begins Q (drop j (marks m b)) → (h : j < length b) → Q (mark (get_or b j no_entry) (row_at m b j))
  begins_at q h = subst (Begins Q) (ahead_step m b j h) q

  at_begins : ((h : j < length b) → Q (mark (get_or b j no_entry) (row_at m b j))) → Begins Q (drop j (marks m b))
  at_begins q = elim (cases_lt j (length b)) [
    | inl h ↦ subst (Begins Q) (sym (ahead_step m b j h)) (q h)
    | inr h ↦ subst (Begins Q) (sym (drop_all j (marks m b) (omega (arith, length_marks m b)))) tt
  ]

situated : (m : Meaning) (b : List Entry) (i : ℕ) (s : Situation) → i < length b → Here m (reverse (take i (marks m b))) (mark (get_or b i no_entry) (row_at m b i)) (drop (i + 1) (marks m b)) s → Situated m b i s
unfolding seen_at ahead_at
situated m b i s h at = record {
  row = at.row;
  first = λ e. fresh_first (marks m b) i (omega (arith, length_marks m b)) (sym at.header ∙ e);
  header = λ e. at.header ∙ fresh_start (marks m b) i e;
  before = at.before;
  payload = at.payload;
  inside = at.inside;
  types = at.types;
  leaf = λ e. begins_at m b (λ y. y.entry.level ≤ level_at b i) (i + 1) (at.leaf e);
  bare = λ q. at.bare (at_begins m b (λ y. y.entry.level ≤ level_at b i) (i + 1) q);
  steps = begins_at m b (λ y. y.entry.level ≤ level_at b i + 1) (i + 1) at.steps;
}

module _ (m : Meaning) (d : Dataset) where
  -- there are as many situations as entries
  pub situations_count : length (situations m d) ≡ length (entries_of (tops d))
  situations_count = sym (stand_count m [] (marks_of m (tops d)) (situations m d) (stand_all m d)) ∙ ap length (sym (marks_are m d)) ∙ length_marks m (entries_of (tops d))

  pub situated_at : (i : ℕ) (z : Situation) → i < length (entries_of (tops d)) → Situated m (entries_of (tops d)) i (get_or (situations m d) i z)
  situated_at i z h =
      let b = entries_of (tops d) in
      let s = get_or (situations m d) i z in
      let at : Here m (reverse (take i (marks_of m (tops d)))) (get_or (marks_of m (tops d)) i no_mark) (drop (suc i) (marks_of m (tops d))) s = stand_at m [] (marks_of m (tops d)) (situations m d) i z (omega (arith, stand_count m [] (marks_of m (tops d)) (situations m d) (stand_all m d), situations_count)) (stand_all m d) in
      let flat : Here m (reverse (take i (marks m b))) (get_or (marks m b) i no_mark) (drop (suc i) (marks m b)) s = subst (λ ms. Here m (reverse (take i ms)) (get_or ms i no_mark) (drop (suc i) ms) s) (sym (marks_are m d)) at in
      let one : suc i ≡ i + 1 = omega arith in
      situated m b i s h (subst (λ n. Here m (reverse (take i (marks m b))) (mark (get_or b i no_entry) (row_at m b i)) (drop n (marks m b)) s) one (subst (λ x. Here m (reverse (take i (marks m b))) x (drop (suc i) (marks m b)) s) (mark_at m b i h) flat))

  pub top_is : top_at m (entries_of (tops d)) ≡ top_types m (tops d)
  unfolding ahead_at
  top_is = ap (types_ahead 0) (marks_are m d) ∙ ahead_top m (tops d)

-- Records by their identifiers

module _ (m : Meaning) (x : List ℕ) (t : ℕ) where
  abbrev MarkTyped : Mark → Type 0
  MarkTyped y = y.entry.identifier ≡ Some x → type_in y.row ≡ Some t

  abbrev RecordTyped : Record → Type 0
  RecordTyped r = r.identifier ≡ Some x → typed m Top r.tag ≡ Some t

  unnamed : (c : Context) (l : ℕ) (s : Structures) → AllByRecursion MarkTyped (marks_in m c l s)
  unnamed c l end = tt
  unnamed c l (next tag p subs rest) = (λ e. never x e, All-append MarkTyped (marks_in m (below m c tag) (l + 1) subs) (marks_in m c l rest) (unnamed (below m c tag) (l + 1) subs) (unnamed c l rest))

  marks_typed : (rs : List Record) → AllByRecursion RecordTyped rs → AllByRecursion MarkTyped (marks_of m rs)
  marks_typed [] h = tt
  marks_typed (r ∷ rs) h = (h.0, All-append MarkTyped (marks_in m (below m Top r.tag) 1 r.subs) (marks_of m rs) (unnamed (below m Top r.tag) 1 r.subs) (marks_typed rs h.1))

  records_typed : (rs : List Record) → AllByRecursion MarkTyped (marks_of m rs) → AllByRecursion RecordTyped rs
  records_typed [] h = tt
  records_typed (r ∷ rs) h = (h.0, records_typed rs (every_right MarkTyped (marks_in m (below m Top r.tag) 1 r.subs) (marks_of m rs) h.1))

  pub names_all : (d : Dataset) → NamesType m d x t → AllTyped m (entries_of (tops d)) x t
  names_all d n j h =
      let b = entries_of (tops d) in
      let all : AllByRecursion MarkTyped (marks m b) = subst (AllByRecursion MarkTyped) (sym (marks_are m d)) (marks_typed (tops d) (λ e. never x e, n)) in
      subst MarkTyped (mark_at m b j h) (All-get_or MarkTyped (marks m b) j no_mark (omega (arith, length_marks m b)) all)

  pub all_names : (d : Dataset) → AllTyped m (entries_of (tops d)) x t → NamesType m d x t
  all_names d all =
      let b = entries_of (tops d) in
      let each : (j : ℕ) → j < length (marks m b) → MarkTyped (get_or (marks m b) j no_mark) = λ j h. let lt : j < length b = omega (arith, length_marks m b) in subst MarkTyped (sym (mark_at m b j lt)) (all j lt) in
      (records_typed (tops d) (subst (AllByRecursion MarkTyped) (marks_are m d) (All-from_get_or MarkTyped (marks m b) no_mark each))).1

-- Each rule, by position

cases_both : {X Y : Type 0} {P Q : Row → Type 0} (o u : Option Row) → o ≡ u → (X → Y) → ((r : Row) → P r → Q r) → MatchOption o X P → MatchOption u Y Q
cases_both {X} {Y} {P} {Q} o u e f g h = go u (subst (λ v. MatchOption v X P) e h)
  where
    go : (v : Option Row) → MatchOption v X P → MatchOption v Y Q
    go None k = f k
    go (Some r) k = g r k

within_cases : (m : Meaning) (A : Context → Type 0) (o : Option Row) → A (within m o) → MatchOption o (A (Under m.types)) (λ r. A (Under r.typed))
within_cases m A None a = a
within_cases m A (Some r) a = a

cases_within : (m : Meaning) (A : Context → Type 0) (o : Option Row) → MatchOption o (A (Under m.types)) (λ r. A (Under r.typed)) → A (within m o)
cases_within m A None a = a
cases_within m A (Some r) a = a

module _ (m : Meaning) (d : Dataset) (i : ℕ) (s : Situation) (at : Situated m (entries_of (tops d)) i s) where
  pub keeps_at : (rule : BookRule) → BookKeeps m d rule s → KeepsAt m (entries_of (tops d)) rule i
  keeps_at known k = cases_both s.row (row_at m (entries_of (tops d)) i) at.row (λ e. e) (λ r u. tt) k
  keeps_at taken k = cases_both s.row (row_at m (entries_of (tops d)) i) at.row (λ e. tt) (λ r q. subst (Takes m (m.kind r.typed)) at.payload q) k
  keeps_at aimed_right k = cases_both s.row (row_at m (entries_of (tops d)) i) at.row (λ e. tt) (λ r q t x kind p. names_all m x t d (q t x kind (at.payload ∙ p))) k
  keeps_at single k = cases_both s.row (row_at m (entries_of (tops d)) i) at.row (λ e. tt) (λ r q has. q (subst (λ ts. Has ts (Some r.typed)) (sym at.before) has)) k
  keeps_at needed k =
      let b = entries_of (tops d) in
      let moved : (j : ℕ) → NeedMet m s.inside (under_at m b i) j = subst (λ ts. (j : ℕ) → NeedMet m s.inside ts j) at.types k in
      within_cases m (λ c. (j : ℕ) → NeedMet m c (under_at m b i) j) (row_at m b i) (subst (λ c. (j : ℕ) → NeedMet m c (under_at m b i) j) at.inside moved)
  keeps_at filled k = cases_both s.row (row_at m (entries_of (tops d)) i) at.row (λ e. tt) (λ r q bare. elim (q (at.payload ∙ bare.0, at.bare bare.1)) [ inl e ↦ inl (at.first e) | inr e ↦ inr e ]) k

  pub at_keeps : (rule : BookRule) → KeepsAt m (entries_of (tops d)) rule i → BookKeeps m d rule s
  at_keeps known k = cases_both (row_at m (entries_of (tops d)) i) s.row (sym at.row) (λ e. e) (λ r u. tt) k
  at_keeps taken k = cases_both (row_at m (entries_of (tops d)) i) s.row (sym at.row) (λ e. tt) (λ r q. subst (Takes m (m.kind r.typed)) (sym at.payload) q) k
  at_keeps aimed_right k = cases_both (row_at m (entries_of (tops d)) i) s.row (sym at.row) (λ e. tt) (λ r q t x kind p. all_names m x t d (q t x kind (sym at.payload ∙ p))) k
  at_keeps single k = cases_both (row_at m (entries_of (tops d)) i) s.row (sym at.row) (λ e. tt) (λ r q has. q (subst (λ ts. Has ts (Some r.typed)) at.before has)) k
  at_keeps needed k =
      let b = entries_of (tops d) in
      let moved : (j : ℕ) → NeedMet m s.inside (under_at m b i) j = subst (λ c. (j : ℕ) → NeedMet m c (under_at m b i) j) (sym at.inside) (cases_within m (λ c. (j : ℕ) → NeedMet m c (under_at m b i) j) (row_at m b i) k) in
      subst (λ ts. (j : ℕ) → NeedMet m s.inside ts j) (sym at.types) moved
  at_keeps filled k = cases_both (row_at m (entries_of (tops d)) i) s.row (sym at.row) (λ e. tt) (λ r q bare. elim (q (sym at.payload ∙ bare.0, at.leaf bare.1)) [ inl e ↦ inl (at.header e) | inr e ↦ inr e ]) k
