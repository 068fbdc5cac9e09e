-- What is missing, by the first need that is not met. Assumes nothing.
use Rattle.std.proofs.Common.{◌≡◌, ℕ, ◌+◌, ◌<◌, ◌≤◌, Bool, true, false, not, MatchOption, ap, ◌∙◌, IfSome, IsSomeAnd, List, [], ◌∷◌, ◌++◌, length, take, get_or, Some, None, Option, sym, subst, refl, arith}
use Rattle.std.specs.Bool.{then_some}
use Rattle.std.proofs.lemmas.Grind.{common_steps}
use Rattle.model.specs.declared.Context.{Context}
use Rattle.model.specs.declared.Context.TheVariants.{Top}
use Rattle.model.specs.Books.{Meaning, Lawful}
use Rattle.model.specs.Datasets.{Entry}
use Rattle.model.specs.Positions.{NeedMet, LackIn, LackOf, NeedsOf, top_at}
use Rattle.std.specs.List.{ContainsAt as Has}
use Rattle.std.proofs.lemmas.Bool.{both_ways}
use Rattle.model.proofs.Options.{some_same}
use Rattle.judging.specs.Sets.{TypesOf}
use Rattle.model.proofs.Finding.{needs_met, need_none, need_below, needs_top, needs_cards}

module _ (m : Meaning) (lawful : Lawful m) (c : Context) (ts : List (Option ℕ)) where
  -- what a need gives: none where it is met, and else its type
  abbrev pub Gives : ℕ → Option ℕ → Type 0
  Gives j o = MatchOption o (NeedMet m c ts j) (λ t. (m.need c j ≡ Some t) × (NeedMet m c ts j → ⊥))

  pub gives : (has : ℕ → Bool) → TypesOf has ts → (j : ℕ) (x : Option ℕ) → m.need c j ≡ x → (o : Option ℕ) → MatchOption x (o ≡ None) (λ t. o ≡ then_some (not (has t)) t) → Gives j o
  gives has d j None e o is = subst (Gives j) (sym is) (need_none m lawful c ts j e)
  gives has d j (Some t) e o is = by (has t) refl
    where
      low : t < 1024
      low = need_below m lawful c ts j t e

      by : (b : Bool) → has t ≡ b → Gives j o
      by true h = subst (Gives j) (sym (is ∙ ap (λ b. then_some (not b) t) h)) (λ u f. subst (λ k. Has ts (Some k)) (some_same t u (sym e ∙ f)) ((d t low).0 h))
      by false h = subst (Gives j) (sym (is ∙ ap (λ b. then_some (not b) t) h)) (e, λ met. both_ways (has t) h ((d t low).1 (met t e)))

  pub first_need : (K : Type 0) (No : ℕ → Type 0) (Yes : ℕ → ℕ → Type 0) (at : ℕ → Option ℕ) (whole : Bool) (len n : ℕ) (x : Option ℕ) → MatchOption x ((whole ≡ true) × (K → (k : ℕ) → IfSome (at k) (λ j. No j))) (λ t. (i : ℕ) × (i < len) × (len ≡ i + 1) × (K → IsSomeAnd (at i) (λ j. Yes t j) × ((k : ℕ) → k < i → IsSomeAnd (at k) (λ j. No j)))) → K → ((j : ℕ) → No j → Gives j None) → ((t j : ℕ) → Yes t j → Gives j (Some t)) → n ≡ m.needs c → len ≤ n → (whole ≡ true → len ≡ n) → ((k : ℕ) → k < len → at k ≡ Some k) → LackIn m c ts x
  first_need K No Yes at whole len n None (w, h) keeps met unmet e low all up = needs_met m lawful c ts (λ j lt. met j (subst (λ o. IfSome o (λ y. No y)) (up j (let z = all w in omega arith)) (h keeps j)))
  first_need K No Yes at whole len n (Some t) (i, lt, one, asked) keeps met unmet e low all up =
      let told = unmet t i (subst (λ o. IsSomeAnd o (λ y. Yes t y)) (up i lt) (asked keeps).0) in
      record {
        need = i;
        first = record {
          within = omega arith;
          breaks = told.1;
          before = λ j h. met j (subst (λ o. IsSomeAnd o (λ y. No y)) (up j (omega arith)) ((asked keeps).1 j h));
        };
        is = told.0;
      }

-- what is missing at the top comes before what a card lacks
pub needs_first : (m : Meaning) (b : List Entry) (x : Option ℕ) → LackIn m Top (top_at m b) x → (o : Option (ℕ × ℕ)) → LackOf m b 0 o → (r : Option (ℕ × ℕ)) → (x ≡ None → r ≡ o) → ((t : ℕ) → x ≡ Some t → r ≡ Some (0, t)) → NeedsOf m b r
needs_first m b None met o lack r none some = subst (NeedsOf m b) (sym (none refl)) (needs_cards m b o met lack)
needs_first m b (Some t) lacks o lack r none some = subst (NeedsOf m b) (sym (some t refl)) (needs_top m b t lacks)

-- of a list that is passed from its end: what is left of it, and then one less
pub last_left : {X : Type 0} (xs left more : List X) (x d : X) → left ≡ more ++ x ∷ [] → left ≡ take (length left) xs → (more ≡ take (length more) xs) × (length left ≡ length more + 1) × (length more < length xs) × (get_or xs (length more) d ≡ x)
last_left xs left more x d e f =
    let one : length left ≡ length more + 1 = grind (arith, common_steps) in
    let within : length more < length xs = grind (arith, common_steps) in
    let front : more ≡ take (length more) left = grind (arith, common_steps) in
    let last : x ≡ get_or left (length more) d = grind (arith, common_steps) in
    (grind (arith, common_steps), one, within, grind (arith, common_steps))
