-- The index of identifiers: how it is collected, and what is found in it. Assumes nothing.
use Rattle.std.proofs.Common.{◌≡◌, ℕ, ◌+◌, ◌<◌, ◌≤◌, ◌⊎◌, min, List, [], ◌∷◌, ◌++◌, map, length, get_or, set, take, Bool, true, false, is_none, Some, None, Option, Ok, Err, Result, Ordering, Less, Equal, Greater, sym, refl, ap, ◌∙◌, subst, inl, inr, true≢false, arith, length-append, length-take, Bor}
use lib.ListN.{length-map}
use Rattle.std.specs.Cmp.{nat_cmp_total, ranks, on_total, then_total}
use Rattle.std.specs.Cmp.Lexicographic.{slice_cmp, lists_total}
use Rattle.std.specs.Bool.{Decides, then_some}
use Rattle.std.specs.Option.{option_map, MatchOption}
use Rattle.std.specs.Ordering.{is_lt, is_gt, ordering_reverse, ordering_then, ordering_index, MatchOrdering, nat_cmp}
use Rattle.std.specs.List.Sorted.{IsPartitionPoint, IsNonDecreasingBy, IsPermutation, IsBinarySearchResult, IsSearchInRange}
use Rattle.std.specs.List.{AllWithin, HoldsAt}
use Rattle.std.proofs.ByRecursion.{All-get_or}
use Rattle.std.proofs.lemmas.List.MinMax.{ranks_by}
use Rattle.std.proofs.lemmas.List.{take_all, take_at, take_more_set, get_or-map, get_or_default}
use Rattle.std.proofs.lemmas.List.Sorted.{length_permutation, sorted_far, searchable_from_sorted}
use Rattle.std.proofs.lemmas.Bool.{cases_lt}
use Rattle.model.specs.declared.Card.{Card}
use Rattle.model.specs.Lines.{Line, pointer}
use Rattle.model.specs.Files.{Placed}
use Rattle.model.specs.Cards.{blank}
use Rattle.model.specs.Refusals.{lines_of, others, apart, aimed, Keeps13, LineKeeps}
use Rattle.model.specs.LineTurns.{Noted, RulesKept}
use Rattle.model.specs.Index.{place_of, card_line, card_spot, key, name_of, CardsNoted, Indexed, LeastRepeat}
use Rattle.model.proofs.Index.{apart_noted, card_aimed, card_lost, card_pointless, aimed_noted, least_same}
use Rattle.model.proofs.Sorting.{Collected, collected_skip, collected_more, collected_shuffled, sorted_indexed, byte_strict, byte_total}
use Rattle.naming.specs.Naming.{Name, ByteLess, InOrder, IndexOf, LeastName, Collects, Indexes, Target, FindsName, TargetOf, CardShows, ShowsPointer, IsLost, FindsLost}

abbrev pub Gathered : List Placed → ℕ → List Name → Type 0
Gathered ps n names = Collected (λ (e : Name). e.0.now) (λ (e : Name). e.1) ps n names

-- One card more

pub gathered_skip : (ps : List Placed) (i : Option (Bor (List ℕ))) (k : ℕ) (names : List Name) → i ≡ None → option_map (λ (p : Bor (List ℕ)). p.now) i ≡ (card_line ps k).identifier → Gathered ps k names → Gathered ps (k + 1) names
gathered_skip ps i k names e is g = collected_skip (λ (e : Name). e.0.now) (λ (e : Name). e.1) ps k names (sym is ∙ ap (option_map (λ (p : Bor (List ℕ)). p.now)) e) g

pub gathered_more : (ps : List Placed) (i : Option (Bor (List ℕ))) (p : Bor (List ℕ)) (n k : ℕ) (names : List Name) → n < length names → i ≡ Some p → option_map (λ (p : Bor (List ℕ)). p.now) i ≡ (card_line ps k).identifier → Gathered ps k (take n names) → Gathered ps (k + 1) (take (n + 1) (set names n (p, k)))
gathered_more ps i p n k names h e is g =
    subst (λ xs. Gathered ps (k + 1) xs) (sym (take_more_set names n (p, k) h))
    (collected_more (λ (e : Name). e.0.now) (λ (e : Name). e.1) ps k (take n names) (p, k) refl (sym is ∙ ap (option_map (λ (p : Bor (List ℕ)). p.now)) e) g)

-- In order

indexed_by : (ps : List Placed) (xs ys : List Name) → Gathered ps (length (others ps)) xs → IsPermutation xs ys → InOrder ys → Gathered ps (length (others ps)) ys → Indexed ByteLess ps (map (λ e. e.1) ys)
indexed_by ps xs [] c s up g = record {
  cards = λ a h. absurd (omega arith);
  named = λ a h. absurd (omega arith);
  all = λ k x h is. let (e, has, _) = g.all k x h is in absurd (let low = has.1 in omega arith);
  sorted = λ a h. absurd (omega arith);
}
indexed_by ps xs (y ∷ ys) c s up g = sorted_indexed ps xs (y ∷ ys) c s up y

pub index_of : (ps : List Placed) (xs ys : List Name) → Gathered ps (length (others ps)) xs → IsPermutation xs ys → InOrder ys → IndexOf ps ys
index_of ps xs ys c s up =
    let g = collected_shuffled (λ (e : Name). e.0.now) (λ (e : Name). e.1) ps (length (others ps)) xs ys s c in
    record { order = up; each = g.each; index = indexed_by ps xs ys c s up g }

-- the front of a table, put in order
pub index_front : (file : List ℕ) (cards : List Card) (n : ℕ) (table ys post : List Name) → Collects file cards n table → IsPermutation (take n table) ys → InOrder ys → Indexes file cards n (ys ++ post)
index_front file cards n table ys post c s up =
    let within = c.within in
    let long : length ys ≡ n = length_permutation (take n table) ys s ∙ (let z = length-take n table in omega arith) in
    record {
      within = omega (arith, length-append ys post);
      index = λ ps shows. subst (IndexOf ps) (sym (take_at ys post n long)) (index_of ps (take n table) ys (c.collected ps shows) s up);
    }

-- What a search finds

abbrev against : Name → Name → Ordering
against y x = ordering_then (slice_cmp nat_cmp y.0.now x.0.now) (nat_cmp y.1 x.1)

abbrev pub Absent : List Name → List ℕ → Type 0
Absent names x = (a : ℕ) (d : Name) → a < length names → (get_or names a d).0.now ≡ x → ⊥

lex_equal : (xs ys : List ℕ) → slice_cmp nat_cmp xs ys ≡ Equal → xs ≡ ys
lex_equal xs ys e = elim (byte_total xs ys) [
  | inl s ↦ s
  | inr (inl s) ↦ absurd (true≢false (ap is_lt (sym s ∙ e)))
  | inr (inr s) ↦ absurd (true≢false (ap is_lt (sym s ∙ (lists_total nat_cmp_total).antisymm ys xs ∙ ap ordering_reverse e)))
]

lex_refl : (xs ys : List ℕ) → xs ≡ ys → slice_cmp nat_cmp xs ys ≡ Equal
lex_refl xs ys e = go (slice_cmp nat_cmp xs ys) refl
  where
    go : (k : Ordering) → slice_cmp nat_cmp xs ys ≡ k → k ≡ Equal
    go Less q = absurd (byte_strict.irrefl ys (ap (λ zs. slice_cmp nat_cmp zs ys) (sym e) ∙ q))
    go Equal q = refl
    go Greater q = absurd (byte_strict.irrefl ys (ap (slice_cmp nat_cmp ys) (sym e) ∙ (lists_total nat_cmp_total).antisymm ys xs ∙ ap ordering_reverse q))

-- an entry with the name is not below that name at card 0
name_not_below : (y x : Name) → x.1 ≡ 0 → y.0.now ≡ x.0.now → against y x ≡ Less → ⊥
name_not_below y x z e l = go (nat_cmp y.1 x.1) (ranks y.1 x.1) (sym (ap (λ k. ordering_then k (nat_cmp y.1 x.1)) (lex_refl y.0.now x.0.now e)) ∙ l)
  where
    go : (k : Ordering) → MatchOrdering k (y.1 < x.1) (y.1 ≡ x.1) (x.1 < y.1) → k ≡ Less → ⊥
    go Less r q = omega arith
    go Equal r q = true≢false (sym (ap is_lt q))
    go Greater r q = true≢false (sym (ap is_lt q))

equal_name : (y x : Name) → against y x ≡ Equal → y.0.now ≡ x.0.now
equal_name y x e = go (slice_cmp nat_cmp y.0.now x.0.now) refl e
  where
    go : (k : Ordering) → slice_cmp nat_cmp y.0.now x.0.now ≡ k → ordering_then k (nat_cmp y.1 x.1) ≡ Equal → y.0.now ≡ x.0.now
    go Less q f = absurd (true≢false (ap is_lt f))
    go Equal q f = lex_equal y.0.now x.0.now q
    go Greater q f = absurd (true≢false (ap is_gt f))

-- one above it, with another name, has a greater name
other_above : (y x : Name) → (y.0.now ≡ x.0.now → ⊥) → against y x ≡ Greater → ByteLess x.0.now y.0.now
other_above y x h g = go (slice_cmp nat_cmp y.0.now x.0.now) refl g
  where
    go : (k : Ordering) → slice_cmp nat_cmp y.0.now x.0.now ≡ k → ordering_then k (nat_cmp y.1 x.1) ≡ Greater → ByteLess x.0.now y.0.now
    go Less q f = absurd (true≢false (sym (ap is_gt f)))
    go Equal q f = absurd (h (lex_equal y.0.now x.0.now q))
    go Greater q f = (lists_total nat_cmp_total).antisymm x.0.now y.0.now ∙ ap ordering_reverse q

pub absent : (names : List Name) (x : Name) (i : ℕ) → x.1 ≡ 0 → InOrder names → IsPartitionPoint (λ y. against y x ≡ Less) (λ y. against y x ≡ Greater) names i → (length names ≤ i) ⊎ ((d : Name) → (get_or names i d).0.now ≡ x.0.now → ⊥) → Absent names x.0.now
absent names x i z up p past a d h e = elim (cases_lt a i) [
  | inl l ↦ name_not_below (get_or names a d) x z e (p.0 a d (omega arith) l)
  | inr l ↦ elim past [
    | inl q ↦ omega arith
    | inr q ↦
        let above = other_above (get_or names i d) x (q d) (p.1 i d (omega arith) (omega arith)) in
        let low : slice_cmp nat_cmp (get_or names a d).0.now (get_or names i d).0.now ≡ Less = ap (λ n. slice_cmp nat_cmp n (get_or names i d).0.now) e ∙ above in
        true≢false (sym (ap (λ k. is_lt (ordering_then k (nat_cmp (get_or names a d).1 (get_or names i d).1))) low) ∙ sorted_far (λ x y. is_lt (against x y)) (ranks_by (then_total (on_total (λ p. p.0) (on_total (λ x. x.now) (lists_total nat_cmp_total))) (on_total (λ p. p.1) nat_cmp_total)) (λ (y : Name). y)) names up i a d l h)
  ]
]

pub searched_absent : (names : List Name) (x : Name) (i : ℕ) → x.1 ≡ 0 → (IsNonDecreasingBy (λ y. ordering_index (against y x)) names → IsPartitionPoint (λ y. against y x ≡ Less) (λ y. against y x ≡ Greater) names i) → (length names ≤ i) ⊎ ((d : Name) → (get_or names i d).0.now ≡ x.0.now → ⊥) → InOrder names → Absent names x.0.now
searched_absent names x i z p past up = absent names x i z up (p (searchable_from_sorted (then_total (on_total (λ p. p.0) (on_total (λ x. x.now) (lists_total nat_cmp_total))) (on_total (λ p. p.1) nat_cmp_total)) (λ (y : Name). y) names x up)) past

pub found_there : (names : List Name) (i : ℕ) (x : List ℕ) (u : Name) → i < length names → (get_or names i u).0.now ≡ x → (a : ℕ) × (a < length names) × ((d : Name) → ((get_or names a d).0.now ≡ x) × ((get_or names a d).1 ≡ (get_or names i u).1))
found_there names i x u h e = (i, h, λ d. (ap (λ (y : Name). y.0.now) (get_or_default names i d u h) ∙ e, ap (λ (y : Name). y.1) (get_or_default names i d u h)))

pub ended_at : (r : Result ℕ ℕ) (i j : ℕ) → (r ≡ Ok j) ⊎ (r ≡ Err j) → i ≡ j → (r ≡ Ok i) ⊎ (r ≡ Err i)
ended_at r i j e is = subst (λ k. (r ≡ Ok k) ⊎ (r ≡ Err k)) (sym is) e

-- of a search for the name with card 0, where it ends
module _ (names : List Name) (x : Bor (List ℕ)) (r : Result ℕ ℕ) (i : ℕ) (searched : IsBinarySearchResult (λ (y : Name). against y (x, 0)) names r) (bound : IsSearchInRange r (length names)) (ended : (r ≡ Ok i) ⊎ (r ≡ Err i)) where
  pub absent_by : (length names ≤ i) ⊎ ((d : Name) → (get_or names i d).0.now ≡ x.now → ⊥) → InOrder names → Absent names x.now
  absent_by past up a d l q = go ended
    where
      go : (r ≡ Ok i) ⊎ (r ≡ Err i) → ⊥
      go (inl ok) =
          let here = subst (λ s. IsBinarySearchResult (λ (y : Name). against y (x, 0)) names s) ok searched in
          let low : i < length names = subst (λ s. IsSearchInRange s (length names)) ok bound in
          elim past [ inl p ↦ omega arith | inr other ↦ other d (equal_name (get_or names i d) (x, 0) (here d)) ]
      go (inr err) = searched_absent names (x, 0) i refl (subst (λ s. IsBinarySearchResult (λ (y : Name). against y (x, 0)) names s) err searched) past up a d l q

  pub found_by : (b : Bool) (e : Name) → i < length names → e ≡ get_or names i e → Decides b (e.0.now ≡ x.now) → FindsName names x.now (then_some b e.1)
  found_by true e h is t = (i, h, λ d. let same = get_or_default names i d e h ∙ sym is in (ap (λ (y : Name). y.0.now) same ∙ t.0 refl, ap (λ (y : Name). y.1) same))
  found_by false e h is t = absent_by (inr (λ d q. true≢false (sym (t.1 (ap (λ (y : Name). y.0.now) (is ∙ get_or_default names i e d h) ∙ q)))))

-- The rules

abbrev pub cards_in : List Name → List ℕ
cards_in names = map (λ e. e.1) names

key_is : (ps : List Placed) (names : List Name) → IndexOf ps names → (a : ℕ) (d : Name) → a < length names → key ps (get_or (cards_in names) a 0) ≡ (get_or names a d).0.now
key_is ps names i a d h = ap (key ps) (get_or-map (λ (e : Name). e.1) names a d 0 h) ∙ ap name_of (All-get_or (λ (e : Name). (e.1 < length (others ps)) × ((card_line ps e.1).identifier ≡ Some e.0.now)) names a d h i.each).1

abbrev pub nobody : Name
nobody = (record { ref_ptr = (0, 0); now = [] }, 0)

module _ (room : ℕ) (ps : List Placed) (names : List Name) (i : IndexOf ps names) (kept : RulesKept 11 room ps) where
  pub name_absent : (k : ℕ) (x : List ℕ) → (card_line ps k).value ≡ pointer x → Absent names x → Keeps13 (lines_of ps) (place_of ps k) → ⊥
  name_absent k x is none = card_lost ByteLess byte_strict room ps kept (cards_in names) i.index k x is (λ a h e.
      let l : a < length names = omega (arith, length-map names (λ (e : Name). e.1)) in
      let d = nobody in
      none a d l (sym (key_is ps names i a d l) ∙ e))

  pub name_there : (k a : ℕ) (x : List ℕ) → (card_line ps k).value ≡ pointer x → a < length names → ((d : Name) → (get_or names a d).0.now ≡ x) → Keeps13 (lines_of ps) (place_of ps k)
  name_there k a x is h e =
      let d = nobody in
      card_aimed ByteLess byte_strict room ps kept (cards_in names) i.index k a x is (omega (arith, length-map names (λ (e : Name). e.1))) (key_is ps names i a d h ∙ e d)

  pub no_name : (k : ℕ) → ((x : List ℕ) → (card_line ps k).value ≡ pointer x → ⊥) → Keeps13 (lines_of ps) (place_of ps k)
  no_name k h = card_pointless ByteLess byte_strict room ps kept (cards_in names) i.index k h

  least : (o : Option ℕ) → LeastName names (length names) o → LeastRepeat (λ a. key ps (get_or (cards_in names) a 0)) (λ a. get_or (cards_in names) a 0) (length names) o
  least o h = least_same (λ a. (get_or names a nobody).0.now) (λ a. key ps (get_or (cards_in names) a 0)) (λ a. (get_or names a nobody).1) (λ a. get_or (cards_in names) a 0) (length names) o (λ a l. sym (key_is ps names i a nobody l)) (λ a l. sym (get_or-map (λ (e : Name). e.1) names a nobody 0 l)) (h nobody)

  pub names_apart : (o : Option ℕ) → LeastName names (length names) o → Noted (LineKeeps apart room ps) ps (card_spot ps o)
  names_apart o h = apart_noted ByteLess byte_strict room ps kept (cards_in names) i.index o (subst (λ n. LeastRepeat (λ a. key ps (get_or (cards_in names) a 0)) (λ a. get_or (cards_in names) a 0) n o) (sym (length-map names (λ (e : Name). e.1))) (least o h))

  pub names_aimed : (o : Option ℕ) → CardsNoted (λ k. Keeps13 (lines_of ps) (place_of ps k)) (length (others ps)) o → Noted (LineKeeps aimed room ps) ps (card_spot ps o)
  names_aimed o h = aimed_noted ByteLess byte_strict room ps kept (cards_in names) i.index o h

-- cards for which there is room
pub cut_all : {X : Type 0} (n room : ℕ) (xs : List X) → n ≡ min (length xs) room → length xs ≤ room → take n xs ≡ xs
cut_all n room xs e h = take_all n xs (omega arith)

-- The card that a pointer names

pub no_target : (ps : List Placed) (names : List Name) (l : Line) (x : List ℕ) → IndexOf ps names → l.value ≡ pointer x → Absent names x → (j : ℕ) (y : List ℕ) → Target ps l j y → ⊥
no_target ps names l x i e none j y t =
    let same : x ≡ y = pointers x y (sym e ∙ t.points) in
    let (a, h, is) = i.index.all j y t.within t.named in
    let low : a < length names = omega (arith, length-map names (λ (e : Name). e.1)) in
    none a nobody low (sym (key_is ps names i a nobody low) ∙ ap (key ps) is ∙ ap name_of t.named ∙ sym same)
  where
    pointers : (x y : List ℕ) → pointer x ≡ pointer y → x ≡ y
    pointers x y e = cc

pub the_target : (ps : List Placed) (names : List Name) (l : Line) (x : List ℕ) (k : ℕ) → IndexOf ps names → l.value ≡ pointer x → (a : ℕ) × (a < length names) × ((d : Name) → ((get_or names a d).0.now ≡ x) × ((get_or names a d).1 ≡ k)) → (y : List ℕ) × Target ps l k y
the_target ps names l x k i e (a, h, there) =
    let at = All-get_or (λ (e : Name). (e.1 < length (others ps)) × ((card_line ps e.1).identifier ≡ Some e.0.now)) names a nobody h i.each in
    let (named, card) = there nobody in
    (x, record { points = e; within = subst (λ n. n < length (others ps)) card at.0; named = ap (λ n. (card_line ps n).identifier) (sym card) ∙ at.1 ∙ ap Some named })

pub target_by : (file : List ℕ) (c : Card) (names : List Name) (x : List ℕ) (r : Option ℕ) → ((l : Line) → CardShows file c l → l.value ≡ pointer x) → FindsName names x r → TargetOf file c names r
target_by file c names x None is f ps l s i = no_target ps names l x i (is l s) (f i.order)
target_by file c names x (Some k) is f ps l s i = the_target ps names l x k i (is l s) f

-- Cards whose pointers name none

module _ (file : List ℕ) (c : Card) (names : List Name) where
  pub lost_told : (r : Bool) → (b : Bool) × IsLost file c names b × (r ≡ b) → IsLost file c names r
  lost_told r (b, lost, e) = subst (IsLost file c names) (sym e) lost

  -- its pointer names a card, or there is none
  pub lost_by : (o : Option (Bor (List ℕ))) (r : Bool) → ShowsPointer file c o → MatchOption o (r ≡ false) (λ p. (q : Option ℕ) × FindsName names p.now q × (r ≡ is_none q)) → IsLost file c names r
  lost_by None r shows e = lost_told r (false, (λ room ps k s i kept. no_name room ps names i kept k (shows (card_line ps k) s)), e)
  lost_by (Some p) r shows (None, f, e) = lost_told r (true, (λ room ps k s i kept. name_absent room ps names i kept k p.now (shows (card_line ps k) s) (f i.order)), e)
  lost_by (Some p) r shows (Some j, (a, h, f), e) = lost_told r (false, (λ room ps k s i kept. name_there room ps names i kept k a p.now (shows (card_line ps k) s) h (λ d. (f d).0)), e)

module _ (file : List ℕ) (cards : List Card) (names : List Name) where
  -- the first card that is lost
  pub first_lost : (r : Option ℕ) → MatchOption r (AllWithin (λ c. IsLost file c names false) cards 0 (length cards)) (λ k. (k < length cards) × HoldsAt (λ c. IsLost file c names true) cards k × AllWithin (λ c. IsLost file c names false) cards 0 k) → FindsLost file cards names r
  first_lost None all room ps s i kept = λ k h. let low : k < length cards = let many = s.many in omega arith in all k blank (omega arith) low room ps k (s.each k blank low) i kept
  first_lost (Some k) found room ps s i kept = let (low, here, before) = found in record {
    within = let many = s.many in omega arith;
    breaks = here blank room ps k (s.each k blank low) i kept;
    before = λ j h. before j blank (omega arith) h room ps j (s.each j blank (omega arith)) i kept;
  }
