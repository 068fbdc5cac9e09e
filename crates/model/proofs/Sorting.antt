-- The index of identifiers from a sort of them with their cards. Assumes nothing.
use Rattle.std.proofs.Common.{◌≡◌, ℕ, ◌+◌, ◌<◌, cond, eqb, ltb, ◌⊎◌, List, [], ◌∷◌, ◌++◌, map, length, get_or, set, Some, None, Option, Ordering, Less, Equal, Greater, sym, refl, ap, ◌∙◌, subst, inl, inr, true≢false, arith, length-set, Bor}
use lib.ListN.{length-map}
use Rattle.std.specs.Cmp.{nat_cmp_total, ranks}
use Rattle.std.specs.Cmp.Lexicographic.{slice_cmp, lists_total}
use Rattle.std.specs.Ordering.{is_lt, is_gt, ordering_reverse, ordering_then, MatchOrdering, nat_cmp}
use Rattle.std.specs.List.Sorted.{IsPermutation, IsSortedWithin}
use Rattle.std.specs.List.{swap as exchanged, ContainsAt as Has, AllByRecursion as All}
use Rattle.std.proofs.ByRecursion.{All-get_or, All-push, All-weaker, has_push, has_append_left, all_shuffled, has_shuffled}
use Rattle.std.proofs.lemmas.List.{get_or-set_same, get_or-set_other, get_or_default, get_or-map, get_or_append_left, get_or_push, length_push}
use Rattle.std.proofs.lemmas.List.Sorted.{IsPermutation-keeps}
use Rattle.std.proofs.lemmas.Bool.{cases_eq, cases_lt, cases_order, cond-true, lt-ltb}
use Rattle.std.proofs.lemmas.Bool.Decides.{nat_tests}
use Rattle.model.specs.Files.{Placed}
use Rattle.model.specs.Refusals.{others}
use Rattle.model.proofs.Options.{never}
use Rattle.model.specs.Index.{card_line, key, name_of, Strict, Before, Indexed, LeastRepeat}
use Rattle.model.proofs.Index.{least_same}

-- A sort keeps what tells its elements apart

abbrev swap : ℕ → ℕ → ℕ → ℕ
swap a b i = cond (eqb i b) a (cond (eqb i a) b i)

swap_swap : (a b i : ℕ) → swap a b (swap a b i) ≡ i
swap_swap a b i = grind (arith, nat_tests)

swap_below : (a b i n : ℕ) → a < n → b < n → i < n → swap a b i < n
swap_below a b i n h l m = grind (arith, nat_tests)

swap_second : (a b : ℕ) → swap a b b ≡ a
swap_second a b = grind (arith, nat_tests)

swap_first : (a b i : ℕ) → (i ≡ b → ⊥) → i ≡ a → swap a b i ≡ b
swap_first a b i h e = grind (arith, nat_tests)

swap_other : (a b i : ℕ) → (i ≡ b → ⊥) → (i ≡ a → ⊥) → swap a b i ≡ i
swap_other a b i h l = grind (arith, nat_tests)

module _ {X : Type 0} where
  exchanged_at : (x : X) (xs : List X) (a b i : ℕ) (d : X) → a < length (x ∷ xs) → b < length (x ∷ xs) → i < length (x ∷ xs) → get_or (exchanged (x ∷ xs) a b) i d ≡ get_or (x ∷ xs) (swap a b i) d
  exchanged_at x xs a b i d al bl il =
      let l : List X = x ∷ xs in
      let v : X = get_or l b x in
      let w : X = get_or l a x in
      let long = length-set l a v in
      elim (cases_eq i b) [
        | inl e ↦ ap (λ n. get_or (set (set l a v) b w) n d) e ∙ get_or-set_same (set l a v) b w d (omega arith) ∙ get_or_default l a x d al ∙ ap (λ n. get_or l n d) (sym (ap (swap a b) e ∙ swap_second a b))
        | inr e ↦ get_or-set_other (set l a v) b i w d e ∙ elim (cases_eq i a) [
          | inl f ↦ ap (λ n. get_or (set l a v) n d) f ∙ get_or-set_same l a v d al ∙ get_or_default l b x d bl ∙ ap (λ n. get_or l n d) (sym (swap_first a b i e f))
          | inr f ↦ get_or-set_other l a i v d f ∙ ap (λ n. get_or l n d) (sym (swap_other a b i e f))
        ]
      ]

  abbrev pub DistinctBy : (X → ℕ) → List X → Type 0
  DistinctBy f xs = (i j : ℕ) (d : X) → i < length xs → j < length xs → f (get_or xs i d) ≡ f (get_or xs j d) → i ≡ j

  length_exchanged : (xs : List X) (a b : ℕ) → length (exchanged xs a b) ≡ length xs
  length_exchanged [] a b = refl
  length_exchanged (x ∷ xs) a b = length-set (set (x ∷ xs) a (get_or (x ∷ xs) b x)) b (get_or (x ∷ xs) a x) ∙ length-set (x ∷ xs) a (get_or (x ∷ xs) b x)

  distinct_exchanged : (f : X → ℕ) (xs : List X) (a b : ℕ) → a < length xs → b < length xs → DistinctBy f xs → DistinctBy f (exchanged xs a b)
  distinct_exchanged f [] a b al bl h i j d il jl e = absurd (omega arith)
  distinct_exchanged f (x ∷ xs) a b al bl h i j d il jl e =
      let long = length_exchanged (x ∷ xs) a b in
      let li : i < length (x ∷ xs) = omega arith in
      let lj : j < length (x ∷ xs) = omega arith in
      let same = h (swap a b i) (swap a b j) d (swap_below a b i (length (x ∷ xs)) al bl li) (swap_below a b j (length (x ∷ xs)) al bl lj) (ap f (sym (exchanged_at x xs a b i d al bl li)) ∙ e ∙ ap f (exchanged_at x xs a b j d al bl lj)) in
      sym (swap_swap a b i) ∙ ap (swap a b) same ∙ swap_swap a b j

  pub distinct_shuffled : (f : X → ℕ) (xs ys : List X) → IsPermutation xs ys → DistinctBy f xs → DistinctBy f ys
  distinct_shuffled f xs ys s h = IsPermutation-keeps xs (DistinctBy f) h (λ l i j il jl k. distinct_exchanged f l i j il jl k) ys s

-- The index

module _ {X : Type 0} (name : X → List ℕ) (card : X → ℕ) (ps : List Placed) where
  abbrev Held : ℕ → X → Type 0
  Held n x = (card x < n) × ((card_line ps (card x)).identifier ≡ Some (name x))

  -- xs are those of the first n cards that have an identifier, in any order, each once and with it
  pub record Collected (n : ℕ) (xs : List X) : Type 0 where
    pub each : All (λ x. (card x < n) × ((card_line ps (card x)).identifier ≡ Some (name x))) xs
    pub once : DistinctBy card xs
    pub all : (k : ℕ) (x : List ℕ) → k < n → (card_line ps k).identifier ≡ Some x → (e : X) × Has xs e × (card e ≡ k)

  pub collected_none : Collected 0 []
  collected_none = record { each = tt; once = λ i j d il jl e. absurd (omega arith); all = λ k x h is. absurd (omega arith) }

  further : (n : ℕ) (xs : List X) → All (Held n) xs → All (Held (n + 1)) xs
  further n xs h = All-weaker (Held n) (Held (n + 1)) (λ x k. (omega arith, k.1)) xs h

  pub collected_skip : (n : ℕ) (xs : List X) → (card_line ps n).identifier ≡ None → Collected n xs → Collected (n + 1) xs
  collected_skip n xs e c = record {
    each = further n xs c.each;
    once = c.once;
    all = λ k x h is. elim (cases_lt k n) [
      | inl l ↦ c.all k x l is
      | inr l ↦ never x (sym e ∙ ap (λ m. (card_line ps m).identifier) (let z : n ≡ k = omega arith in z) ∙ is)
    ];
  }

  push_once : (n : ℕ) (xs : List X) (e : X) → All (Held n) xs → card e ≡ n → DistinctBy card xs → DistinctBy card (xs ++ e ∷ [])
  push_once n xs e h at once i j d il jl same =
      let long = length_push xs e in
      elim (cases_lt i (length xs)) [
        | inl ip ↦ elim (cases_lt j (length xs)) [
          | inl jp ↦ once i j d ip jp (ap card (sym (get_or_append_left xs (e ∷ []) d i ip)) ∙ same ∙ ap card (get_or_append_left xs (e ∷ []) d j jp))
          | inr jp ↦ absurd (let a = All-get_or (Held n) xs i d ip h in let b = ap card (get_or_append_left xs (e ∷ []) d i ip) in let f = ap card (get_or_push xs e d j (let z : length xs ≡ j = omega arith in z)) in omega arith)
        ]
        | inr ip ↦ elim (cases_lt j (length xs)) [
          | inl jp ↦ absurd (let a = All-get_or (Held n) xs j d jp h in let b = ap card (get_or_append_left xs (e ∷ []) d j jp) in let f = ap card (get_or_push xs e d i (let z : length xs ≡ i = omega arith in z)) in omega arith)
          | inr jp ↦ omega arith
        ]
      ]

  pub collected_more : (n : ℕ) (xs : List X) (e : X) → card e ≡ n → (card_line ps n).identifier ≡ Some (name e) → Collected n xs → Collected (n + 1) (xs ++ e ∷ [])
  collected_more n xs e at is c = record {
    each = All-push (Held (n + 1)) xs e (further n xs c.each) (omega arith, ap (λ m. (card_line ps m).identifier) at ∙ is);
    once = push_once n xs e c.each at c.once;
    all = λ k x h there. elim (cases_lt k n) [
      | inl l ↦ let (f, has, g) = c.all k x l there in (f, has_append_left xs (e ∷ []) f has, g)
      | inr l ↦ (e, has_push xs e, omega arith)
    ];
  }

  pub collected_shuffled : (n : ℕ) (xs ys : List X) → IsPermutation xs ys → Collected n xs → Collected n ys
  collected_shuffled n xs ys s c = record {
    each = all_shuffled (Held n) xs ys s c.each;
    once = distinct_shuffled card xs ys s c.once;
    all = λ k x h is. let (e, has, at) = c.all k x h is in (e, has_shuffled xs ys e s has, at);
  }

  -- where no neighbours are the wrong way round, by identifier and then by card
  pub collected_indexed : (less : List ℕ → List ℕ → Type 0) (d : X) (ys : List X) → ((x y : List ℕ) → (x ≡ y) ⊎ (less x y ⊎ less y x)) → Collected (length (others ps)) ys → ((a : ℕ) → a + 1 < length ys → (less (name (get_or ys (a + 1) d)) (name (get_or ys a d)) ⊎ ((name (get_or ys (a + 1) d) ≡ name (get_or ys a d)) × (card (get_or ys (a + 1) d) < card (get_or ys a d)))) → ⊥) → Indexed less ps (map card ys)
  collected_indexed less d ys total c ordered = record {
    cards = λ a h. subst (λ n. n < length (others ps)) (sym (at a (within a h))) (facts a (within a h)).0;
    named = λ a h. identified a (within a h);
    all = λ k x h is. let (e, (a, al, there), ce) = c.all k x h is in (a, (let long = length-map ys card in omega arith), at a al ∙ ap card (there d) ∙ ce);
    sorted = λ a h. subst₂' (at a (let l = within (a + 1) h in omega arith)) (at (a + 1) (within (a + 1) h)) (sort a (within (a + 1) h));
  }
    where
      within : (a : ℕ) → a < length (map card ys) → a < length ys
      within a h = let long = length-map ys card in omega arith

      at : (a : ℕ) → a < length ys → get_or (map card ys) a 0 ≡ card (get_or ys a d)
      at a h = get_or-map card ys a d 0 h

      facts : (a : ℕ) → a < length ys → (card (get_or ys a d) < length (others ps)) × ((card_line ps (card (get_or ys a d))).identifier ≡ Some (name (get_or ys a d)))
      facts a h = All-get_or (λ x. (card x < length (others ps)) × ((card_line ps (card x)).identifier ≡ Some (name x))) ys a d h c.each

      key_is : (a : ℕ) → a < length ys → key ps (card (get_or ys a d)) ≡ name (get_or ys a d)
      key_is a h = ap name_of (facts a h).1

      identified : (a : ℕ) → a < length ys → (card_line ps (get_or (map card ys) a 0)).identifier ≡ Some (key ps (get_or (map card ys) a 0))
      identified a h = subst (λ k. (card_line ps k).identifier ≡ Some (key ps k)) (sym (at a h)) ((facts a h).1 ∙ ap Some (sym (key_is a h)))

      subst₂' : {j k m n : ℕ} → j ≡ m → k ≡ n → Before less ps m n → Before less ps j k
      subst₂' {j} {k} {m} {n} e f b = subst (λ q. Before less ps q k) (sym e) (subst (Before less ps m) (sym f) b)

      sort : (a : ℕ) → a + 1 < length ys → Before less ps (card (get_or ys a d)) (card (get_or ys (a + 1) d))
      sort a h =
          let l : a < length ys = omega arith in
          let x = name (get_or ys a d) in
          let y = name (get_or ys (a + 1) d) in
          let ex = key_is a l in
          let ey = key_is (a + 1) h in
          elim (total x y) [
            | inl e ↦ elim (cases_order (card (get_or ys a d)) (card (get_or ys (a + 1) d))) [
              | inl q ↦ absurd (let z = c.once a (a + 1) d l h q in omega arith)
              | inr (inl q) ↦ inr (ex ∙ e ∙ sym ey, q)
              | inr (inr q) ↦ absurd (ordered a h (inr (sym e, q)))
            ]
            | inr (inl q) ↦ inl (subst (λ u. less u (key ps (card (get_or ys (a + 1) d)))) (sym ex) (subst (less x) (sym ey) q))
            | inr (inr q) ↦ absurd (ordered a h (inl q))
          ]

-- By bytes, as the library's `sort` orders pairs of a name and a card

abbrev pub ByteLess : List ℕ → List ℕ → Type 0
ByteLess x y = slice_cmp nat_cmp x y ≡ Less

lex_equal : (xs ys : List ℕ) → slice_cmp nat_cmp xs ys ≡ Equal → xs ≡ ys
lex_equal [] [] e = refl
lex_equal [] (y ∷ ys) e = absurd (true≢false (ap is_lt e))
lex_equal (x ∷ xs) [] e = absurd (true≢false (ap is_gt e))
lex_equal (x ∷ xs) (y ∷ ys) e = by (nat_cmp x y) (ranks x y) e (lex_equal xs ys)
  where
    by : (k : Ordering) → MatchOrdering k (x < y) (x ≡ y) (y < x) → ordering_then k (slice_cmp nat_cmp xs ys) ≡ Equal → (slice_cmp nat_cmp xs ys ≡ Equal → xs ≡ ys) → x ∷ xs ≡ y ∷ ys
    by Less r f more = absurd (true≢false (ap is_lt f))
    by Equal r f more = λ i. r i ∷ more f i
    by Greater r f more = absurd (true≢false (ap is_gt f))

lex_same : (xs : List ℕ) → slice_cmp nat_cmp xs xs ≡ Less → ⊥
lex_same xs e = true≢false (ap is_lt (sym e ∙ (lists_total nat_cmp_total).antisymm xs xs ∙ ap ordering_reverse e))

pub byte_strict : Strict ByteLess
byte_strict = record { trans = (lists_total nat_cmp_total).trans; irrefl = lex_same }

pub byte_total : (x y : List ℕ) → (x ≡ y) ⊎ (ByteLess x y ⊎ ByteLess y x)
byte_total x y = by (slice_cmp nat_cmp x y) refl
  where
    by : (k : Ordering) → slice_cmp nat_cmp x y ≡ k → (x ≡ y) ⊎ (ByteLess x y ⊎ ByteLess y x)
    by Less e = inr (inl e)
    by Equal e = inl (lex_equal x y e)
    by Greater e = inr (inr ((lists_total nat_cmp_total).antisymm y x ∙ ap ordering_reverse e))

lex_refl : (xs ys : List ℕ) → xs ≡ ys → slice_cmp nat_cmp xs ys ≡ Equal
lex_refl xs ys e = ap (slice_cmp nat_cmp xs) (sym e) ∙ by (slice_cmp nat_cmp xs xs) refl
  where
    by : (k : Ordering) → slice_cmp nat_cmp xs xs ≡ k → k ≡ Equal
    by Less e = absurd (lex_same xs e)
    by Equal e = refl
    by Greater e = absurd (lex_same xs ((lists_total nat_cmp_total).antisymm xs xs ∙ ap ordering_reverse e))

rank_less : (m n : ℕ) → m < n → nat_cmp m n ≡ Less
rank_less m n h = cond-true (ltb m n) Less (cond (eqb m n) Equal Greater) (lt-ltb m n h)

-- what a sort of names with their cards leaves is the index
pub sorted_indexed : (ps : List Placed) (xs ys : List (Bor (List ℕ) × ℕ)) → Collected (λ e. e.0.now) (λ e. e.1) ps (length (others ps)) xs → IsPermutation xs ys → IsSortedWithin (λ x y. is_lt (ordering_then (slice_cmp nat_cmp x.0.now y.0.now) (nat_cmp x.1 y.1))) ys 0 (length ys) → (d : Bor (List ℕ) × ℕ) → Indexed ByteLess ps (map (λ e. e.1) ys)
sorted_indexed ps xs ys c s up d = collected_indexed (λ e. e.0.now) (λ e. e.1) ps ByteLess d ys byte_total (collected_shuffled (λ e. e.0.now) (λ e. e.1) ps (length (others ps)) xs ys s c) ordered
  where
    ordered : (a : ℕ) → a + 1 < length ys → (ByteLess (get_or ys (a + 1) d).0.now (get_or ys a d).0.now ⊎ (((get_or ys (a + 1) d).0.now ≡ (get_or ys a d).0.now) × ((get_or ys (a + 1) d).1 < (get_or ys a d).1))) → ⊥
    ordered a h (inl q) = true≢false (sym (ap (λ k. is_lt (ordering_then k (nat_cmp (get_or ys (a + 1) d).1 (get_or ys a d).1))) q) ∙ up a d (omega arith) h)
    ordered a h (inr q) = true≢false (sym (ap (λ k. is_lt (ordering_then k (nat_cmp (get_or ys (a + 1) d).1 (get_or ys a d).1))) (lex_refl (get_or ys (a + 1) d).0.now (get_or ys a d).0.now q.0) ∙ ap is_lt (rank_less (get_or ys (a + 1) d).1 (get_or ys a d).1 q.1)) ∙ up a d (omega arith) h)

-- and the least card that repeats a name there is the least of the index
pub sorted_least : (ps : List Placed) (ys : List (Bor (List ℕ) × ℕ)) (n : ℕ) (d : Bor (List ℕ) × ℕ) (o : Option ℕ) → Collected (λ e. e.0.now) (λ e. e.1) ps n ys → LeastRepeat (λ a. (get_or ys a d).0.now) (λ a. (get_or ys a d).1) (length ys) o → LeastRepeat (λ a. key ps (get_or (map (λ e. e.1) ys) a 0)) (λ a. get_or (map (λ e. e.1) ys) a 0) (length (map (λ e. e.1) ys)) o
sorted_least ps ys n d o c l =
    subst (λ m. LeastRepeat (λ a. key ps (get_or (map (λ e. e.1) ys) a 0)) (λ a. get_or (map (λ e. e.1) ys) a 0) m o) (sym (length-map ys (λ e. e.1)))
    (least_same (λ a. (get_or ys a d).0.now) (λ a. key ps (get_or (map (λ e. e.1) ys) a 0)) (λ a. (get_or ys a d).1) (λ a. get_or (map (λ e. e.1) ys) a 0) (length ys) o
    (λ a h. sym (ap (key ps) (get_or-map (λ e. e.1) ys a d 0 h) ∙ ap name_of (All-get_or (λ e. (e.1 < n) × ((card_line ps e.1).identifier ≡ Some e.0.now)) ys a d h c.each).1))
    (λ a h. sym (get_or-map (λ e. e.1) ys a d 0 h)) l)
