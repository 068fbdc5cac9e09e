-- Rules 12 and 13 by the cards and a sorted index of their identifiers. Assumes nothing.
use Rattle.std.proofs.Common.{◌≡◌, ℕ, zero, suc, ◌+◌, ◌-◌, ◌<◌, ◌≤◌, min, Bool, true, false, ◌⊎◌, List, [], ◌∷◌, length, get_or, Some, None, Decides, Option, sym, refl, ap, ◌∙◌, subst, inl, inr, arith}
use lib.ListN.{length-map}
use Rattle.std.specs.List.{AllByRecursion}
use Rattle.std.proofs.ByRecursion.{All-get_or}
use Rattle.std.proofs.lemmas.Bool.{cases_lt, cases_order, cond_both, both_ways}
use Rattle.std.specs.Str.{bytes_eq}
use Rattle.std.proofs.lemmas.Slice.Eq.{bytes_eq-Decides}
use Rattle.model.specs.Lines.{Line, pointer}
use Rattle.model.specs.Datasets.{CONT}
use Rattle.model.specs.Files.{Placed, at}
use Rattle.model.specs.Refusals.{First, lines_of, others_from, others, Keeps12, Keeps13, named, continued, apart, aimed, LineKeeps}
use Rattle.model.specs.LineTurns.{Noted, told, RulesKept, Verdict}
use Rattle.model.specs.declared.Place.{Place}
use Rattle.model.specs.Index.{place_of, card_line, card_spot, CardsNoted, name_of, key, Strict, Before, Indexed, Repeats, LeastRepeat, lesser}
use Rattle.model.proofs.Answering.{others_within}
use Rattle.model.proofs.Noting.{told_next}
use Rattle.model.proofs.Options.{never}
use Rattle.model.proofs.Walking.{tag_cases}

-- The places of the cards

others_from_low : (m n : ℕ) (ls : List Line) → m ≤ n → AllByRecursion (λ i. m ≤ i) (others_from n ls)
others_from_low m n [] h = tt
others_from_low m n (l ∷ ls) h = cond_both (bytes_eq l.tag CONT) (others_from (n + 1) ls) (n ∷ others_from (n + 1) ls) (AllByRecursion (λ i. m ≤ i)) (λ e. others_from_low m (n + 1) ls (omega arith)) (λ e. (h, others_from_low m (n + 1) ls (omega arith)))

abbrev Rise : List ℕ → Type 0
Rise is = (a b : ℕ) → a < b → b < length is → get_or is a 0 < get_or is b 0

rise_cons : (n : ℕ) (is : List ℕ) → AllByRecursion (λ i. n + 1 ≤ i) is → Rise is → Rise (n ∷ is)
rise_cons n is low r a zero h l = absurd (omega arith)
rise_cons n is low r zero (suc b) h l = let q = All-get_or (λ i. n + 1 ≤ i) is b 0 (omega arith) low in omega arith
rise_cons n is low r (suc a) (suc b) h l = r a b (omega arith) (omega arith)

others_from_rise : (n : ℕ) (ls : List Line) → Rise (others_from n ls)
others_from_rise n [] = λ a b h l. absurd (omega arith)
others_from_rise n (x ∷ ls) = cond_both (bytes_eq x.tag CONT) (others_from (n + 1) ls) (n ∷ others_from (n + 1) ls) Rise (λ e. others_from_rise (n + 1) ls) (λ e. rise_cons n (others_from (n + 1) ls) (others_from_low (n + 1) (n + 1) ls (omega arith)) (others_from_rise (n + 1) ls))

pub places_rise : (ps : List Placed) (j k : ℕ) → j < k → k < length (others ps) → place_of ps j < place_of ps k
places_rise ps j k h l = others_from_rise 0 (lines_of ps) j k h l

abbrev Lists : List ℕ → ℕ → Type 0
Lists is i = (k : ℕ) × (k < length is) × (get_or is k 0 ≡ i)

others_from_all : (n : ℕ) (ls : List Line) (i : ℕ) → i < length ls → ((at ls i).tag ≡ CONT → ⊥) → Lists (others_from n ls) (n + i)
others_from_all n [] i h c = absurd (omega arith)
others_from_all n (l ∷ ls) zero h c = cond_both (bytes_eq l.tag CONT) (others_from (n + 1) ls) (n ∷ others_from (n + 1) ls) (λ is. Lists is (n + 0)) (λ e. absurd (c ((bytes_eq-Decides l.tag CONT).0 e))) (λ e. (0, omega arith, omega arith))
others_from_all n (l ∷ ls) (suc i) h c =
    let (k, below, is) = others_from_all (n + 1) ls i (omega arith) c in
    cond_both (bytes_eq l.tag CONT) (others_from (n + 1) ls) (n ∷ others_from (n + 1) ls) (λ is. Lists is (n + suc i)) (λ e. (k, below, omega arith)) (λ e. (suc k, omega arith, omega arith))

-- a line is a continuation, or that of a card
pub place_cases : (ps : List Placed) (i : ℕ) → i < length ps → ((at (lines_of ps) i).tag ≡ CONT) ⊎ ((k : ℕ) × (k < length (others ps)) × (place_of ps k ≡ i))
place_cases ps i h = elim (tag_cases (at (lines_of ps) i).tag CONT) [
  | inl e ↦ inl e
  | inr e ↦ let (k, below, is) = others_from_all 0 (lines_of ps) i (omega (arith, length-map ps (λ p. p.line))) e in inr (k, below, omega arith)
]

-- a rule that continuations keep is asked of the cards only
module _ (ps : List Placed) (K : ℕ → Type 0) (kept : (i : ℕ) → i < length ps → (at (lines_of ps) i).tag ≡ CONT → K i) where
  pub cards_all : ((k : ℕ) → k < length (others ps) → K (place_of ps k)) → (i : ℕ) → i < length ps → K i
  cards_all h i l = elim (place_cases ps i l) [
    | inl e ↦ kept i l e
    | inr e ↦ subst K e.2 (h e.0 e.1)
  ]

  pub cards_first : (k : ℕ) → First (λ j. K (place_of ps j)) (length (others ps)) k → First K (length ps) (place_of ps k)
  cards_first k f = record {
    within = others_within ps k f.within;
    breaks = f.breaks;
    before = λ i l. let w = others_within ps k f.within in elim (place_cases ps i (omega arith)) [
      | inl e ↦ kept i (omega arith) e
      | inr e ↦ subst K e.2 (f.before e.0 (elim (cases_order e.0 k) [
        | inl q ↦ absurd (let z : place_of ps k ≡ i = ap (place_of ps) (sym q) ∙ e.2 in omega arith)
        | inr (inl q) ↦ q
        | inr (inr q) ↦ absurd (let up = places_rise ps k e.0 q e.1 in let z = e.2 in omega arith)
      ]))
    ];
  }

  -- by the first card that breaks it, where one does
  pub cards_noted : (o : Option ℕ) → CardsNoted (λ k. K (place_of ps k)) (length (others ps)) o → Noted K ps (card_spot ps o)
  cards_noted None h = cards_all h
  cards_noted (Some k) h = (place_of ps k, cards_first k h, refl)

-- Continuations have neither identifier nor pointer

continuation_unnamed : (cards : ℕ) (ps : List Placed) → RulesKept 11 cards ps → (i : ℕ) → i < length ps → (at (lines_of ps) i).tag ≡ CONT → (at (lines_of ps) i).identifier ≡ None
continuation_unnamed cards ps r i h e = let c = (r continued (omega arith) i h).1 e in let d = c.2.deeper in r named (omega arith) i h (omega arith)

continuation_keeps12 : (cards : ℕ) (ps : List Placed) → RulesKept 11 cards ps → (i : ℕ) → i < length ps → (at (lines_of ps) i).tag ≡ CONT → Keeps12 (lines_of ps) i
continuation_keeps12 cards ps r i h e x is j l there = never x (sym (continuation_unnamed cards ps r i h e) ∙ is)

continuation_keeps13 : (cards : ℕ) (ps : List Placed) → RulesKept 11 cards ps → (i : ℕ) → i < length ps → (at (lines_of ps) i).tag ≡ CONT → Keeps13 (lines_of ps) i
continuation_keeps13 cards ps r i h e x is = let c = (r continued (omega arith) i h).1 e in absurd (c.2.text_here (subst Rattle.model.specs.Files.IsPointer (sym is) tt))

-- the card with an identifier
pub card_named : (cards : ℕ) (ps : List Placed) → RulesKept 11 cards ps → (i : ℕ) (x : List ℕ) → i < length ps → (at (lines_of ps) i).identifier ≡ Some x → (k : ℕ) × (k < length (others ps)) × (place_of ps k ≡ i)
card_named cards ps r i x h is = elim (place_cases ps i h) [
  | inl e ↦ never x (sym (continuation_unnamed cards ps r i h e) ∙ is)
  | inr e ↦ e
]

-- The sorted index

module _ (less : List ℕ → List ℕ → Type 0) (strict : Strict less) (cards : ℕ) (ps : List Placed) (kept : RulesKept 11 cards ps) (ks : List ℕ) (index : Indexed less ps ks) where
  before_trans : (i j k : ℕ) → Before less ps i j → Before less ps j k → Before less ps i k
  before_trans i j k (inl a) (inl b) = inl (strict.trans (key ps i) (key ps j) (key ps k) a b)
  before_trans i j k (inl a) (inr b) = inl (subst (less (key ps i)) b.0 a)
  before_trans i j k (inr a) (inl b) = inl (subst (λ x. less x (key ps k)) (sym a.0) b)
  before_trans i j k (inr a) (inr b) = inr (a.0 ∙ b.0, omega arith)

  far : (a n : ℕ) → a + suc n < length ks → Before less ps (get_or ks a 0) (get_or ks (a + suc n) 0)
  far a zero h = subst (λ b. Before less ps (get_or ks a 0) (get_or ks b 0)) (let z : a + 1 ≡ a + suc 0 = omega arith in z) (index.sorted a (omega arith))
  far a (suc n) h = subst (λ b. Before less ps (get_or ks a 0) (get_or ks b 0)) (let z : a + suc n + 1 ≡ a + suc (suc n) = omega arith in z) (before_trans (get_or ks a 0) (get_or ks (a + suc n) 0) (get_or ks (a + suc n + 1) 0) (far a n (omega arith)) (index.sorted (a + suc n) (omega arith)))

  apart_by : (a b : ℕ) → a < b → b < length ks → Before less ps (get_or ks a 0) (get_or ks b 0)
  apart_by a b h l = subst (λ c. Before less ps (get_or ks a 0) (get_or ks c 0)) (let z : a + suc (b - (a + 1)) ≡ b = omega arith in z) (far a (b - (a + 1)) (omega arith))

  before_same : (j k : ℕ) → key ps j ≡ key ps k → Before less ps j k → j < k
  before_same j k e (inl h) = absurd (strict.irrefl (key ps k) (subst (λ x. less x (key ps k)) e h))
  before_same j k e (inr h) = h.1

  -- equal identifiers stand side by side
  beside : (a b : ℕ) → a < suc b → suc b < length ks → key ps (get_or ks a 0) ≡ key ps (get_or ks (suc b) 0) → key ps (get_or ks b 0) ≡ key ps (get_or ks (suc b) 0)
  beside a b h l e = elim (cases_lt a b) [
    | inl q ↦ elim (apart_by b (suc b) (omega arith) l) [
      | inl r ↦ absurd (elim (apart_by a b q (omega arith)) [
        | inl t ↦ strict.irrefl (key ps (get_or ks a 0)) (subst (less (key ps (get_or ks a 0))) (sym e) (strict.trans (key ps (get_or ks a 0)) (key ps (get_or ks b 0)) (key ps (get_or ks (suc b) 0)) t r))
        | inr t ↦ strict.irrefl (key ps (get_or ks a 0)) (subst (less (key ps (get_or ks a 0))) (sym e) (subst (λ x. less x (key ps (get_or ks (suc b) 0))) (sym t.0) r))
      ])
      | inr r ↦ r.0
    ]
    | inr q ↦ subst (λ c. key ps (get_or ks c 0) ≡ key ps (get_or ks (suc b) 0)) (let z : a ≡ b = omega arith in z) e
  ]

  -- so an identifier that stands twice repeats one just before it
  neighbour : (a b : ℕ) → a < b → b < length ks → key ps (get_or ks a 0) ≡ key ps (get_or ks b 0) → (c : ℕ) × (c + 1 < length ks) × Repeats ps ks c × (get_or ks (c + 1) 0 ≡ get_or ks b 0)
  neighbour a zero h l e = absurd (omega arith)
  neighbour a (suc b) h l e =
      let on : suc b ≡ b + 1 = omega arith in
      (b, omega arith, beside a b h l e ∙ ap (λ n. key ps (get_or ks n 0)) on, ap (λ n. get_or ks n 0) (sym on))

  repeated : (m k : ℕ) (x : List ℕ) → m < k → k < length (others ps) → (card_line ps m).identifier ≡ Some x → (card_line ps k).identifier ≡ Some x → (c : ℕ) × (c + 1 < length ks) × Repeats ps ks c × (get_or ks (c + 1) 0 ≡ k)
  repeated m k x h l em ek = between (index.all m x (omega arith) em) (index.all k x l ek)
    where
      between : (a : ℕ) × (a < length ks) × (get_or ks a 0 ≡ m) → (b : ℕ) × (b < length ks) × (get_or ks b 0 ≡ k) → (c : ℕ) × (c + 1 < length ks) × Repeats ps ks c × (get_or ks (c + 1) 0 ≡ k)
      between (a, al, am) (b, bl, bk) =
          let same : key ps (get_or ks a 0) ≡ key ps (get_or ks b 0) = ap (key ps) am ∙ ap name_of em ∙ sym (ap (key ps) bk ∙ ap name_of ek) in
          let low : a < b = elim (cases_order a b) [
            | inl q ↦ absurd (let z : m ≡ k = sym am ∙ ap (λ n. get_or ks n 0) q ∙ bk in omega arith)
            | inr (inl q) ↦ q
            | inr (inr q) ↦ absurd (omega (arith, before_same (get_or ks b 0) (get_or ks a 0) (sym same) (apart_by b a q al)))
          ] in
          let (c, cl, r, is) = neighbour a b low bl same in
          (c, cl, r, is ∙ bk)

  named_before : (m k : ℕ) → k < length (others ps) → m < length (others ps) → place_of ps m < place_of ps k → m < k
  named_before m k h l p = elim (cases_order m k) [
    | inl q ↦ absurd (omega (arith, ap (place_of ps) q))
    | inr (inl q) ↦ q
    | inr (inr q) ↦ absurd (omega (arith, places_rise ps k m q l))
  ]

  -- a card keeps rule 12 where nothing before it in the index has its identifier
  pub card_apart : (k : ℕ) → k < length (others ps) → ((a : ℕ) → a + 1 < length ks → Repeats ps ks a → get_or ks (a + 1) 0 ≡ k → ⊥) → Keeps12 (lines_of ps) (place_of ps k)
  card_apart k h none x is j l there = by (card_named cards ps kept j x (omega (arith, others_within ps k h)) there)
    where
      by : (m : ℕ) × (m < length (others ps)) × (place_of ps m ≡ j) → ⊥
      by (m, ml, mj) =
          let low = named_before m k h ml (omega arith) in
          let (c, cl, r, e) = repeated m k x low h (ap (λ n. (at (lines_of ps) n).identifier) mj ∙ there) is in
          none c cl r e

  -- and breaks it where something does
  pub card_repeats : (a : ℕ) → a + 1 < length ks → Repeats ps ks a → Keeps12 (lines_of ps) (place_of ps (get_or ks (a + 1) 0)) → ⊥
  card_repeats a h r k =
      let low : get_or ks a 0 < get_or ks (a + 1) 0 = before_same (get_or ks a 0) (get_or ks (a + 1) 0) r (index.sorted a h) in
      k (key ps (get_or ks (a + 1) 0)) (index.named (a + 1) h) (place_of ps (get_or ks a 0)) (places_rise ps (get_or ks a 0) (get_or ks (a + 1) 0) low (index.cards (a + 1) h)) (index.named a (omega arith) ∙ ap Some r)

  -- rule 12
  pub apart_noted : (o : Option ℕ) → LeastRepeat (λ a. key ps (get_or ks a 0)) (λ a. get_or ks a 0) (length ks) o → Noted (LineKeeps apart cards ps) ps (card_spot ps o)
  apart_noted None h = cards_noted ps (Keeps12 (lines_of ps)) (continuation_keeps12 cards ps kept) None (λ k l. card_apart k l (λ a al r e. h a al r))
  apart_noted (Some k) h =
      let ((a, al, r, e), least) = h in
      cards_noted ps (Keeps12 (lines_of ps)) (continuation_keeps12 cards ps kept) (Some k) (record {
        within = subst (λ n. n < length (others ps)) e (index.cards (a + 1) al);
        breaks = λ q. card_repeats a al r (subst (λ n. Keeps12 (lines_of ps) (place_of ps n)) (sym e) q);
        before = λ j l. card_apart j (let w = index.cards (a + 1) al in omega arith) (λ b bl s f. let low = least b bl s in omega arith);
      })

  -- Rule 13: a pointer that the index has, one that it lacks, and a line that is none
  pub card_aimed : (k a : ℕ) (x : List ℕ) → (card_line ps k).value ≡ pointer x → a < length ks → key ps (get_or ks a 0) ≡ x → Keeps13 (lines_of ps) (place_of ps k)
  card_aimed k a x is h e y there =
      let same : x ≡ y = pointers x y (sym is ∙ there) in
      (place_of ps (get_or ks a 0), (let w = others_within ps (get_or ks a 0) (index.cards a h) in omega (arith, length-map ps (λ p. p.line))), index.named a h ∙ ap Some (e ∙ same))
    where
      pointers : (x y : List ℕ) → pointer x ≡ pointer y → x ≡ y
      pointers x y e = cc

  pub card_lost : (k : ℕ) (x : List ℕ) → (card_line ps k).value ≡ pointer x → ((a : ℕ) → a < length ks → key ps (get_or ks a 0) ≡ x → ⊥) → Keeps13 (lines_of ps) (place_of ps k) → ⊥
  card_lost k x is none q = by (q x is)
    where
      found : (j : ℕ) → (at (lines_of ps) j).identifier ≡ Some x → (m : ℕ) × (m < length (others ps)) × (place_of ps m ≡ j) → ⊥
      found j there (m, ml, mj) =
          let is = ap (λ n. (at (lines_of ps) n).identifier) mj ∙ there in
          let (a, al, am) = index.all m x ml is in
          none a al (ap (key ps) am ∙ ap name_of is)

      by : (j : ℕ) × (j < length (lines_of ps)) × ((at (lines_of ps) j).identifier ≡ Some x) → ⊥
      by (j, jl, there) = found j there (card_named cards ps kept j x (omega (arith, length-map ps (λ p. p.line))) there)

  pub card_pointless : (k : ℕ) → ((x : List ℕ) → (card_line ps k).value ≡ pointer x → ⊥) → Keeps13 (lines_of ps) (place_of ps k)
  card_pointless k h x is = absurd (h x is)

  pub aimed_noted : (o : Option ℕ) → CardsNoted (λ k. Keeps13 (lines_of ps) (place_of ps k)) (length (others ps)) o → Noted (LineKeeps aimed cards ps) ps (card_spot ps o)
  aimed_noted o h = cards_noted ps (Keeps13 (lines_of ps)) (continuation_keeps13 cards ps kept) o h

-- The search for the least repeat: the entries n - 1 and n are compared

module _ (name : ℕ → List ℕ) (card : ℕ → ℕ) where
  pub least_start : (n : ℕ) → n ≤ 1 → LeastRepeat name card n None
  least_start n h a l r = omega arith

  last_pair : (a n : ℕ) → a + 1 ≡ n → name a ≡ name (a + 1) → name (n - 1) ≡ name n
  last_pair a n e r = ap name (let z : n - 1 ≡ a = omega arith in z) ∙ r ∙ ap name e

  pair_last : (n : ℕ) → 0 < n → name (n - 1) ≡ name n → name (n - 1) ≡ name (n - 1 + 1)
  pair_last n h r = r ∙ ap name (let z : n ≡ n - 1 + 1 = omega arith in z)

  least_yes : (n : ℕ) (o : Option ℕ) → 0 < n → name (n - 1) ≡ name n → LeastRepeat name card n o → LeastRepeat name card (n + 1) (lesser o true (card n))
  least_yes n None h r l =
      let on : n - 1 + 1 ≡ n = omega arith in (
        (n - 1, omega arith, pair_last n h r, ap card on),
        λ a al s. elim (cases_lt (a + 1) n) [
          | inl q ↦ absurd (l a q s)
          | inr q ↦ subst (λ k. card n ≤ card k) (let z : n ≡ a + 1 = omega arith in z) (omega arith)
        ],
      )
  least_yes n (Some m) h r l =
      let on : n - 1 + 1 ≡ n = omega arith in
      let ((a, al, s, e), least) = l in
      let low : (b : ℕ) → b + 1 < n + 1 → name b ≡ name (b + 1) → min m (card n) ≤ card (b + 1) = λ b bl t. elim (cases_lt (b + 1) n) [
        | inl q ↦ omega (arith, least b q t)
        | inr q ↦ subst (λ k. min m (card n) ≤ card k) (let z : n ≡ b + 1 = omega arith in z) (omega arith)
      ] in
      elim (cases_lt (card n) m) [
        | inl q ↦ ((n - 1, omega arith, pair_last n h r, ap card on ∙ omega arith), low)
        | inr q ↦ ((a, omega arith, s, e ∙ omega arith), low)
      ]

  least_no : (n : ℕ) (o : Option ℕ) → (name (n - 1) ≡ name n → ⊥) → LeastRepeat name card n o → LeastRepeat name card (n + 1) (lesser o false (card n))
  least_no n None r l = λ a al s. elim (cases_lt (a + 1) n) [
    | inl q ↦ l a q s
    | inr q ↦ r (last_pair a n (omega arith) s)
  ]
  least_no n (Some m) r l =
      let ((a, al, s, e), least) = l in (
        (a, omega arith, s, e),
        λ b bl t. elim (cases_lt (b + 1) n) [
          | inl q ↦ least b q t
          | inr q ↦ absurd (r (last_pair b n (omega arith) t))
        ],
      )

  pub least_more : (n : ℕ) (o : Option ℕ) (b : Bool) → 0 < n → Decides b (name (n - 1) ≡ name n) → LeastRepeat name card n o → LeastRepeat name card (n + 1) (lesser o b (card n))
  least_more n o true h d l = least_yes n o h (d.0 refl) l
  least_more n o false h d l = least_no n o (λ e. both_ways false refl (d.1 e)) l

-- by entries that have the same names and cards
pub least_same : (name other : ℕ → List ℕ) (card mark : ℕ → ℕ) (n : ℕ) (o : Option ℕ) → ((a : ℕ) → a < n → name a ≡ other a) → ((a : ℕ) → a < n → card a ≡ mark a) → LeastRepeat name card n o → LeastRepeat other mark n o
least_same name other card mark n None e f h = λ a l r. h a l (e a (omega arith) ∙ r ∙ sym (e (a + 1) l))
least_same name other card mark n (Some k) e f h =
    let ((a, al, r, is), least) = h in
    ((a, al, sym (e a (omega arith)) ∙ r ∙ e (a + 1) al, sym (f (a + 1) al) ∙ is), λ b l t. subst (λ m. k ≤ m) (f (b + 1) l) (least b l (e b (omega arith) ∙ t ∙ sym (e (b + 1) l))))

-- The rules 12 and 13, asked of lines that keep those before them
pub index_verdict : (cards : ℕ) (ps : List Placed) (o p : Option Place) → RulesKept 12 cards ps → Noted (LineKeeps apart cards ps) ps o → Noted (LineKeeps aimed cards ps) ps p → Verdict 14 cards ps (told 12 o (told 13 p None))
index_verdict cards ps o p k a b = told_next 12 14 apart cards ps o (told 13 p None) refl k a (λ e12 k13. told_next 13 14 aimed cards ps p None refl k13 b (λ e13 k14. k14))

pub kept_fewer : (k m cards : ℕ) (ps : List Placed) → k ≤ m → RulesKept m cards ps → RulesKept k cards ps
kept_fewer k m cards ps h kept r l = kept r (omega arith)
