-- One turn of the loops that judge entries. Assumes nothing.
use Rattle.std.proofs.Common.{◌≡◌, ℕ, zero, suc, ◌+◌, ◌-◌, ◌<◌, ◌≤◌, Bool, true, false, not, ◌&&◌, ◌||◌, eqb, ◌⊎◌, List, [], ◌∷◌, ◌++◌, length, get_or, set, Some, None, Decides, Option, sym, refl, ap, ◌∙◌, subst, inl, inr, append-nil, arith, length-take-le, get_or-set_other, get_or-take, get_or-set_same}
use Rattle.std.specs.List.{ContainsAt as Has, AllByRecursion}
use Rattle.std.proofs.ByRecursion.{has_append_left, has_append_right, has_push, has_push_cases, All-append, All-get_or}
use Rattle.std.proofs.lemmas.Bool.{cases_lt, cases_order, cases_eq, eq-eqb, ne_eqb, eqb-true, both_ways}
use Rattle.std.proofs.lemmas.Bool.Decides.{Decides-at, Decides-like, Decides-or, Decides-eqb}
use Rattle.model.specs.declared.Context.{Context}
use Rattle.model.specs.declared.Context.TheVariants.{Top, Under}
use Rattle.model.specs.declared.Row.{Row}
use Rattle.model.specs.declared.Kind.TheVariants.{Pointer}
use Rattle.model.specs.Books.{Meaning}
use Rattle.model.specs.Datasets.{Structures, end, next, Record, entries_at, pointer, Dataset, tops, Entry, entry, entries_of, entries, identifiers, Apart, IsDataset, GoodPayload, TRLR, none}
use Rattle.model.specs.Edits.{no_entry, body}
use Rattle.model.specs.Kinds.{may_be_emptied}
use Rattle.model.specs.Refusals.{aimed_right, single, filled}
use Rattle.model.specs.Positions.{type_in, within, level_at, row_at, seen_at, ahead_at, before_at, under_at, BareAt, AllTyped, RowKeeps, open_at, Levelled, NamedApart, Aimed, Sound, Contexts, Seen, Ahead, turned, Turns}
use Rattle.model.proofs.Names.{own, every_left, has_cons, has_here, has_there, has_split, identifiers_cons, identifiers_append}
use Rattle.model.proofs.Options.{never, some_same}
use Rattle.model.proofs.Ordering.{every_own}
use Rattle.model.proofs.Flat.{body_is}
use Rattle.model.proofs.Situated.{situated_at}
use Rattle.model.proofs.Positions.{context_start, seen_start, ahead_end, row_is, context_stays, context_below, seen_stays, seen_more, seen_none, ahead_stays, ahead_more, ahead_none}

pub open_more : (b : List Entry) (i : ℕ) → open_at b (i + 1) ≡ level_at b i + 1
open_more b i = ap (open_at b) (let e : i + 1 ≡ suc i = omega arith in e)

-- The contexts by level

module _ (m : Meaning) (b : List Entry) (levelled : Levelled b) where
  pub contexts_start : (cs : List Context) → get_or cs 0 Top ≡ Top → Contexts m b 0 cs
  contexts_start cs e k h = ap (λ n. get_or cs n Top) (let z : k ≡ 0 = omega arith in z) ∙ e ∙ sym (context_start m b k)

  -- entry i, of level l
  module _ (i : ℕ) (h : i < length b) (l : ℕ) (at : level_at b i ≡ l) (cs : List Context) (inv : Contexts m b i cs) where
    pub contexts_row : row_at m b i ≡ m.row (get_or cs l Top) (get_or b i no_entry).tag
    contexts_row = row_is m b i h ∙ ap (λ c. m.row c (get_or b i no_entry).tag) (sym (inv (level_at b i) (levelled i h).0) ∙ ap (λ k. get_or cs k Top) at)

    pub contexts_more : (r : Row) → row_at m b i ≡ Some r → l + 1 < length cs → Contexts m b (i + 1) (set cs (l + 1) (Under r.typed))
    contexts_more r e long k low =
        let low' : k ≤ l + 1 = omega (arith, open_more b i) in
        let fits = (levelled i h).0 in
        elim (cases_lt l k) [
          | inl high ↦ (let same : k ≡ l + 1 = omega arith in ap (λ n. get_or (set cs (l + 1) (Under r.typed)) n Top) same ∙ get_or-set_same cs (l + 1) (Under r.typed) Top long ∙ ap (within m) (sym e) ∙ sym (context_below m b i h k (omega arith)))
          | inr low'' ↦ get_or-set_other cs (l + 1) k (Under r.typed) Top (λ same. absurd (omega arith)) ∙ inv k (omega arith) ∙ sym (context_stays m b i h k (omega arith))
        ]

-- The sets of types by level

or_false : (x : Bool) → ((x && true) || false) ≡ x
or_false true = refl
or_false false = refl

and_false : (x y : Bool) → ((x && false) || (false && y)) ≡ false
and_false true y = refl
and_false false y = refl

and_true : (x y : Bool) → ((x && true) || (true && y)) ≡ (x || y)
and_true true y = refl
and_true false y = refl

module _ (has : ℕ → ℕ → Bool) (l t k u : ℕ) where
  turned_other : (k ≡ l + 1 → ⊥) → (k ≡ l → ⊥) → turned has l t k u ≡ has k u
  turned_other p q = (λ i. (has k u && not (ne_eqb k (l + 1) p i)) || (ne_eqb k l q i && eqb u t)) ∙ or_false (has k u)

  turned_below : k ≡ l + 1 → turned has l t k u ≡ false
  turned_below p = let q : k ≡ l → ⊥ = λ e. omega arith in (λ i. (has k u && not (eq-eqb k (l + 1) p i)) || (ne_eqb k l q i && eqb u t)) ∙ and_false (has k u) (eqb u t)

  turned_here : k ≡ l → turned has l t k u ≡ (has k u || eqb u t)
  turned_here p = let q : k ≡ l + 1 → ⊥ = λ e. omega arith in (λ i. (has k u && not (ne_eqb k (l + 1) q i)) || (eq-eqb k l p i && eqb u t)) ∙ and_true (has k u) (eqb u t)

decides_none : (x : Bool) (u : ℕ) → x ≡ false → Decides x (Has [] (Some u))
decides_none x u e = (λ t. absurd (both_ways x e t), λ h. absurd (let low = h.1 in omega arith))

some_from : (t u : ℕ) → u ≡ t → Some t ≡ Some u
some_from t u e = ap Some (sym e)

pushed_like : (xs : List (Option ℕ)) (t u : ℕ) (x : Bool) → Decides x (Has xs (Some u)) → Decides (x || eqb u t) (Has (xs ++ Some t ∷ []) (Some u))
pushed_like xs t u x d = Decides-like (x || eqb u t) into out (Decides-or x (eqb u t) d (Decides-eqb u t))
  where
    into : (Has xs (Some u) ⊎ (u ≡ t)) → Has (xs ++ Some t ∷ []) (Some u)
    into (inl h) = has_append_left xs (Some t ∷ []) (Some u) h
    into (inr e) = subst (Has (xs ++ Some t ∷ [])) (some_from t u e) (has_push xs (Some t))

    out : Has (xs ++ Some t ∷ []) (Some u) → Has xs (Some u) ⊎ (u ≡ t)
    out h = elim (has_push_cases xs (Some t) (Some u) h) [ inl a ↦ inl a | inr e ↦ inr (sym (some_same t u e)) ]

consed_like : (xs : List (Option ℕ)) (t u : ℕ) (x : Bool) → Decides x (Has xs (Some u)) → Decides (x || eqb u t) (Has (Some t ∷ xs) (Some u))
consed_like xs t u x d = Decides-like (x || eqb u t) into out (Decides-or x (eqb u t) d (Decides-eqb u t))
  where
    into : (Has xs (Some u) ⊎ (u ≡ t)) → Has (Some t ∷ xs) (Some u)
    into (inl h) = has_there (Some t) xs (Some u) h
    into (inr e) = has_here (Some t) xs (Some u) (some_from t u e)

    out : Has (Some t ∷ xs) (Some u) → Has xs (Some u) ⊎ (u ≡ t)
    out h = elim (has_cons (Some t) xs (Some u) h) [ inl e ↦ inr (sym (some_same t u e)) | inr a ↦ inl a ]

module _ (m : Meaning) (b : List Entry) (n : ℕ) where
  pub seen_empty : (has : ℕ → ℕ → Bool) → ((t : ℕ) → t < n → has 0 t ≡ false) → Seen m b n 0 has
  seen_empty has clear k t low h =
      let z : 0 ≡ k = omega arith in
      subst (λ ts. Decides (has k t) (Has ts (Some t))) (sym (seen_start m b k)) (decides_none (has k t) t (subst (λ j. has j t ≡ false) z (clear t h)))

  pub ahead_empty : (has : ℕ → ℕ → Bool) → ((k t : ℕ) → k ≤ 64 → t < n → has k t ≡ false) → Ahead m b n (length b) has
  ahead_empty has clear k t low h = subst (λ ts. Decides (has k t) (Has ts (Some t))) (sym (ahead_end m b (length b) k (omega arith))) (decides_none (has k t) t (clear k t low h))

  -- entry i, of level l and with the row r
  module _ (levelled : Levelled b) (i : ℕ) (h : i < length b) (l : ℕ) (at : level_at b i ≡ l) (r : Row) (is : row_at m b i ≡ Some r) (has : ℕ → ℕ → Bool) where
    type_is : type_in (row_at m b i) ≡ Some r.typed
    type_is = ap type_in is

    -- a test of rule 17, and of the needs of rule 18
    pub seen_test : Seen m b n i has → r.typed < n → Decides (has l r.typed) (Has (before_at m b i) (Some r.typed))
    seen_test inv lt = subst (λ k. Decides (has k r.typed) (Has (before_at m b i) (Some r.typed))) at (inv (level_at b i) r.typed (levelled i h).0 lt)

    pub ahead_test : Ahead m b n (i + 1) has → (t : ℕ) → t < n → Decides (has (l + 1) t) (Has (under_at m b i) (Some t))
    ahead_test inv t lt = subst (λ k. Decides (has (k + 1) t) (Has (under_at m b i) (Some t))) at (inv (level_at b i + 1) t (let low = (levelled i h).1 in omega arith) lt)

    module _ (after : ℕ → ℕ → Bool) (turns : Turns n has l r.typed after) where
      pub seen_turn : Seen m b n i has → Seen m b n (i + 1) after
      seen_turn inv k u low lt =
          let t = r.typed in
          let low' : k ≤ l + 1 = omega (arith, open_more b i) in
          let fits = (levelled i h).0 in
          let flat = (levelled i h).1 in
          Decides-at (after k u) (turned has l t k u) (turns k u (omega arith) lt) (elim (cases_order k l) [
            | inl same ↦ subst (λ ts. Decides (turned has l t k u) (Has ts (Some u))) (sym (seen_more m b i h k (at ∙ sym same) ∙ ap (λ o. seen_at m b i k ++ o ∷ []) type_is)) (Decides-at (turned has l t k u) (has k u || eqb u t) (turned_here has l t k u same) (pushed_like (seen_at m b i k) t u (has k u) (inv k u (omega arith) lt)))
            | inr (inl less) ↦ subst (λ ts. Decides (turned has l t k u) (Has ts (Some u))) (sym (seen_stays m b i h k (omega arith))) (Decides-at (turned has l t k u) (has k u) (turned_other has l t k u (λ e. omega arith) (λ e. omega arith)) (inv k u (omega arith) lt))
            | inr (inr more) ↦ subst (λ ts. Decides (turned has l t k u) (Has ts (Some u))) (sym (seen_none m b i h k (omega arith))) (decides_none (turned has l t k u) u (turned_below has l t k u (omega arith)))
          ])

      -- what comes after entry i is not more than one deeper
      deeper_none : (k : ℕ) → l + 1 < k → ahead_at m b (i + 1) k ≡ []
      deeper_none k deep = elim (cases_lt (i + 1) (length b)) [
        | inl lt ↦ ahead_none m b (i + 1) lt k (let f = (levelled (i + 1) lt).0 in omega (arith, open_more b i))
        | inr over ↦ ahead_end m b (i + 1) k over
      ]

      pub ahead_turn : Ahead m b n (i + 1) has → Ahead m b n i after
      ahead_turn inv k u low lt =
          let t = r.typed in
          Decides-at (after k u) (turned has l t k u) (turns k u low lt) (elim (cases_order k l) [
            | inl same ↦ subst (λ ts. Decides (turned has l t k u) (Has ts (Some u))) (sym (ahead_more m b i h k (at ∙ sym same) ∙ ap (λ o. o ∷ ahead_at m b (i + 1) k) type_is)) (Decides-at (turned has l t k u) (has k u || eqb u t) (turned_here has l t k u same) (consed_like (ahead_at m b (i + 1) k) t u (has k u) (inv k u low lt)))
            | inr (inl less) ↦ subst (λ ts. Decides (turned has l t k u) (Has ts (Some u))) (sym (ahead_stays m b i h k (omega arith))) (Decides-at (turned has l t k u) (has k u) (turned_other has l t k u (λ e. omega arith) (λ e. omega arith)) (inv k u low lt))
            | inr (inr more) ↦ subst (λ ts. Decides (turned has l t k u) (Has ts (Some u))) (sym (ahead_none m b i h k (omega arith))) (elim (cases_eq k (l + 1)) [
              | inl one ↦ decides_none (turned has l t k u) u (turned_below has l t k u one)
              | inr far ↦ Decides-at (turned has l t k u) (has k u) (turned_other has l t k u far (λ e. omega arith)) (subst (λ ts. Decides (has k u) (Has ts (Some u))) (deeper_none k (let ne : k ≡ l + 1 → ⊥ = far in omega arith)) (inv k u low lt))
            ])
          ])

-- Tests of rules 17 and 19

module _ (m : Meaning) (b : List Entry) (i : ℕ) (r : Row) where
  pub single_many : r.many ≡ true → RowKeeps m b single i r
  single_many e has = e

  pub single_new : (x : Bool) → Decides x (Has (before_at m b i) (Some r.typed)) → x ≡ false → RowKeeps m b single i r
  single_new x d e has = absurd (both_ways x e (d.1 has))

  pub filled_header : i ≡ 0 → RowKeeps m b filled i r
  filled_header e bare = inl e

  pub filled_payload : ((get_or b i no_entry).payload ≡ none → ⊥) → RowKeeps m b filled i r
  filled_payload n bare = absurd (n bare.0)

  pub filled_deeper : i + 1 < length b → level_at b i < level_at b (i + 1) → RowKeeps m b filled i r
  filled_deeper h deep bare = absurd (let low = bare.1 h in omega arith)

  pub filled_required : r.required ≡ true → may_be_emptied (m.kind r.typed) ≡ true → RowKeeps m b filled i r
  filled_required e f bare = inr (e, f)

  pub filled_broken : (i ≡ 0 → ⊥) → BareAt b i → (r.required ≡ true → may_be_emptied (m.kind r.typed) ≡ true → ⊥) → RowKeeps m b filled i r → ⊥
  filled_broken n bare unexcused k = elim (k bare) [ inl e ↦ n e | inr e ↦ unexcused e.0 e.1 ]

-- The entries of a dataset are all but the last of those that cards file

pub length_body : (es : List Entry) → length (body es) ≡ length es - 1
length_body es = length-take-le (length es - 1) es (omega arith)

pub body_at : (es : List Entry) (i : ℕ) → i < length es - 1 → get_or (body es) i no_entry ≡ get_or es i no_entry
body_at es i h = get_or-take (length es - 1) es i no_entry h

some_entry : (d : Dataset) → 0 < length (body (entries d))
some_entry d = subst (λ b. 0 < length b) (sym (body_is d)) (omega arith)

module _ (m : Meaning) (d : Dataset) where
  steps_tops : (i : ℕ) → i < length (entries_of (tops d)) → level_at (entries_of (tops d)) i ≤ open_at (entries_of (tops d)) i
  steps_tops zero h = omega arith
  steps_tops (suc i) h =
      let at = situated_at m d i (record { header = false; row = None; before = []; payload = none; inside = Top; subs = end }) (omega arith) in
      subst (λ n. level_at (entries_of (tops d)) n ≤ level_at (entries_of (tops d)) i + 1) (let e : i + 1 ≡ suc i = omega arith in e) (at.steps (omega arith))

  shallow_tops : IsDataset d → (i : ℕ) → i < length (entries_of (tops d)) → level_at (entries_of (tops d)) i ≤ 63
  shallow_tops isd i h =
      let all : AllByRecursion (λ e. e.level ≤ 63) (entries d) = every_own (λ l. l.level ≤ 63) (entries d) isd.shallow in
      All-get_or (λ e. e.level ≤ 63) (entries_of (tops d)) i no_entry h (every_left (λ e. e.level ≤ 63) (entries_of (tops d)) (entry 0 None TRLR none ∷ []) all)

  dataset_levelled : IsDataset d → Levelled (body (entries d))
  dataset_levelled isd = subst Levelled (sym (body_is d)) (λ i h. (steps_tops i h, shallow_tops isd i h))

-- Identifiers

identifier_at : (es : List Entry) (x : List ℕ) → Has (identifiers es) x → (j : ℕ) × (j < length es) × ((get_or es j no_entry).identifier ≡ Some x)
identifier_at [] x (k, below, at) = absurd (omega arith)
identifier_at (e ∷ es) x h = go e.identifier refl (λ r. let q = identifier_at es x r in (suc q.0, (let lt = q.1 in omega arith), q.2)) (has_split (own e.identifier) (identifiers es) x (subst (λ is. Has is x) (identifiers_cons e es) h))
  where
    go : (o : Option (List ℕ)) → e.identifier ≡ o → (Has (identifiers es) x → (j : ℕ) × (j < length (e ∷ es)) × ((get_or (e ∷ es) j no_entry).identifier ≡ Some x)) → (Has (own o) x ⊎ Has (identifiers es) x) → (j : ℕ) × (j < length (e ∷ es)) × ((get_or (e ∷ es) j no_entry).identifier ≡ Some x)
    go None i later (inl a) = absurd (let low = a.1 in omega arith)
    go None i later (inr a) = later a
    go (Some y) i later (inl a) = (0, omega arith, i ∙ elim (has_cons y [] x a) [ inl same ↦ ap Some same | inr no_more ↦ absurd (let low = no_more.1 in omega arith) ])
    go (Some y) i later (inr a) = later a

at_identifier : (es : List Entry) (x : List ℕ) (j : ℕ) → j < length es → (get_or es j no_entry).identifier ≡ Some x → Has (identifiers es) x
at_identifier [] x j h e = absurd (omega arith)
at_identifier (e ∷ es) x zero h is = subst (λ l. Has l x) (sym (identifiers_cons e es ∙ ap (λ o. own o ++ identifiers es) is)) (has_here x (identifiers es) x refl)
at_identifier (e ∷ es) x (suc j) h is = subst (λ l. Has l x) (sym (identifiers_cons e es)) (has_append_right (own e.identifier) (identifiers es) x (at_identifier es x j (omega arith) is))

apart_tail : (o : Option (List ℕ)) (is : List (List ℕ)) → Apart (own o ++ is) → Apart is
apart_tail None is a = a
apart_tail (Some x) is a = a.1

apart_places : (es : List Entry) → Apart (identifiers es) → (x : List ℕ) (i j : ℕ) → i < length es → j < length es → (get_or es i no_entry).identifier ≡ Some x → (get_or es j no_entry).identifier ≡ Some x → i ≡ j
apart_places [] a x i j p q e f = absurd (omega arith)
apart_places (y ∷ es) a x zero zero p q e f = refl
apart_places (y ∷ es) a x zero (suc j) p q e f =
    let far : Apart (x ∷ identifiers es) = subst Apart (identifiers_cons y es ∙ ap (λ o. own o ++ identifiers es) e) a in
    absurd (far.0 (at_identifier es x j (omega arith) f))
apart_places (y ∷ es) a x (suc i) zero p q e f =
    let far : Apart (x ∷ identifiers es) = subst Apart (identifiers_cons y es ∙ ap (λ o. own o ++ identifiers es) f) a in
    absurd (far.0 (at_identifier es x i (omega arith) e))
apart_places (y ∷ es) a x (suc i) (suc j) p q e f = ap suc (apart_places es (apart_tail y.identifier (identifiers es) (subst Apart (identifiers_cons y es) a)) x i j (omega arith) (omega arith) e f)

-- only records have one, and they stand at the top

abbrev TopNamed : Entry → Type 0
TopNamed e = (x : List ℕ) → e.identifier ≡ Some x → e.level ≡ 0

unnamed_at : (l : ℕ) (s : Structures) → AllByRecursion TopNamed (entries_at l s)
unnamed_at l end = tt
unnamed_at l (next tag p subs rest) = (λ x e. never x e, All-append TopNamed (entries_at (l + 1) subs) (entries_at l rest) (unnamed_at (l + 1) subs) (unnamed_at l rest))

named_of : (rs : List Record) → AllByRecursion TopNamed (entries_of rs)
named_of [] = tt
named_of (r ∷ rs) = (λ x e. refl, All-append TopNamed (entries_at 1 r.subs) (entries_of rs) (unnamed_at 1 r.subs) (named_of rs))

module _ (m : Meaning) (d : Dataset) (isd : IsDataset d) where
  -- the trailer has no identifier
  body_identifiers : identifiers (entries d) ≡ identifiers (body (entries d))
  body_identifiers = identifiers_append (entries_of (tops d)) (entry 0 None TRLR none ∷ []) ∙ append-nil (identifiers (entries_of (tops d))) ∙ ap identifiers (sym (body_is d))

  named_at : Aimed (body (entries d))
  named_at i x h p =
      let low : i < length (entries d) - 1 = omega (arith, length_body (entries d)) in
      let good = All-get_or (λ e. GoodPayload (identifiers (entries d)) e.payload) (entries d) i no_entry (omega arith) isd.payloads in
      identifier_at (body (entries d)) x (subst (λ is. Has is x) body_identifiers (subst (GoodPayload (identifiers (entries d))) (ap (λ (e : Entry). e.payload) (sym (body_at (entries d) i low)) ∙ p) good))

  pub dataset_sound : Sound (body (entries d))
  dataset_sound = record {
    some = some_entry d;
    levelled = dataset_levelled m d isd;
    apart = apart_places (body (entries d)) (subst Apart body_identifiers isd.apart);
    aimed = named_at;
    top_named = λ j x h e. All-get_or TopNamed (body (entries d)) j no_entry h (subst (AllByRecursion TopNamed) (sym (body_is d)) (named_of (tops d))) x e;
  }

-- Rule 16, by the record that a pointer names

module _ (m : Meaning) (b : List Entry) (apart : NamedApart b) where
  typed_one : (x : List ℕ) (t j : ℕ) → j < length b → (get_or b j no_entry).identifier ≡ Some x → type_in (row_at m b j) ≡ Some t → AllTyped m b x t
  typed_one x t j h e is k lt f = subst (λ n. type_in (row_at m b n) ≡ Some t) (apart x j k h lt e f) is

  -- entry i has the row r of a pointer kind and points to x, which is at j, with the row q
  module _ (i : ℕ) (r : Row) (t : ℕ) (x : List ℕ) (j : ℕ) (q : Row) (kind : m.kind r.typed ≡ Pointer t) (points : (get_or b i no_entry).payload ≡ pointer x) (h : j < length b) (named : (get_or b j no_entry).identifier ≡ Some x) (row : row_at m b j ≡ Some q) where
    pub aimed_kept : q.typed ≡ t → RowKeeps m b aimed_right i r
    aimed_kept e u y k p =
        let same_t : t ≡ u = (let c : Pointer t ≡ Pointer u = sym kind ∙ k in cc) in
        let same_x : x ≡ y = (let c : pointer x ≡ pointer y = sym points ∙ p in cc) in
        subst (λ v. AllTyped m b v u) same_x (typed_one x u j h named (ap type_in row ∙ ap Some (e ∙ same_t)))

    pub aimed_broken : (q.typed ≡ t → ⊥) → RowKeeps m b aimed_right i r → ⊥
    aimed_broken n k = n (some_same q.typed t (sym (ap type_in row) ∙ k t x kind points j h named))

    pub aimed_decides : Decides (eqb q.typed t) (RowKeeps m b aimed_right i r)
    aimed_decides = (λ e. aimed_kept (eqb-true q.typed t e), λ k. elim (cases_eq q.typed t) [ inl e ↦ eq-eqb q.typed t e | inr n ↦ absurd (aimed_broken n k) ])

-- of another kind, or with another payload
pub aimed_kind : (m : Meaning) (b : List Entry) (i : ℕ) (r : Row) → ((t : ℕ) → m.kind r.typed ≡ Pointer t → ⊥) → RowKeeps m b aimed_right i r
aimed_kind m b i r n t x k p = absurd (n t k)

pub aimed_payload : (m : Meaning) (b : List Entry) (i : ℕ) (r : Row) → ((x : List ℕ) → (get_or b i no_entry).payload ≡ pointer x → ⊥) → RowKeeps m b aimed_right i r
aimed_payload m b i r n t x k p = absurd (n x p)
