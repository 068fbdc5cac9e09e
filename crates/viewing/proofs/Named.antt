-- Which cards of a drawer are those of what it holds. Assumes nothing.
use Rattle.std.proofs.Common.{◌≡◌, ℕ, ◌<◌, ◌≤◌, List, length, get_or, take, Ok, Err, Result, MatchResult, refl, sym, ap, subst, inl, inr, arith, length-take}
use Rattle.std.proofs.lemmas.List.{get_or-take}
use Rattle.std.proofs.lemmas.Bool.{cases_lt}
use Rattle.model.specs.declared.Card.{Card}
use Rattle.model.specs.declared.Refusal.{Refusal}
use Rattle.model.specs.declared.Refusal.TheVariants.{Past}
use Rattle.model.specs.declared.State.{State}
use Rattle.model.specs.declared.State.TheVariants.{Filed, Voided, Emptied, Blank}
use Rattle.model.specs.Datasets.{Dataset, entries}
use Rattle.model.specs.Cards.{Holds}
use Rattle.model.specs.Edits.{no_card, no_entry}
use Rattle.model.specs.Removal.{card_count}
use Rattle.model.proofs.Drawers.{files_long}
use Rattle.model.proofs.Editing.{held_room}
use Rattle.looking.specs.Looking.{Shown}
use Rattle.looking.proofs.Drawers.{shown_at, blank_at}
use Rattle.writing.proofs.Carded.{never_blank}
use Rattle.holding.specs.Standing.{NamedFront}
use Rattle.holding.proofs.Fronting.{front_once}

clash : {A : Type 0} → ◌≡◌ {A = ℕ} 0 1 → A
clash e = absurd (omega arith)

module _ (file : List ℕ) (cards : List Card) (d : Dataset) (h : Holds file cards d) where
  -- the cards that name lines are those of the dataset
  pub front_count : (n : ℕ) → NamedFront cards n → n ≡ card_count d
  front_count n f =
      let long = files_long h.placed h.named (entries d) h.files in
      let w = f.within in
      omega (arith, ap length (front_once file cards n d f h).0, length-take n cards)

  pub held_few : card_count d ≤ 65535
  held_few = let long = files_long h.placed h.named (entries d) h.files in let few = h.few in omega arith

  -- a card of the dataset shows its entry
  pub shown_card : (k : ℕ) (c : Card) → k < card_count d → c ≡ get_or cards k no_card → Shown file c (get_or (entries d) k no_entry)
  shown_card k c inside is = subst (λ x. Shown file x (get_or (entries d) k no_entry)) (sym is) (shown_at file cards d h k inside)

  abbrev CardIs : ℕ → Result Card Refusal → Type 0
  CardIs k r = MatchResult r (λ c. (k < card_count d) × (c ≡ get_or cards k no_card)) (λ f. (f ≡ Past) × (card_count d ≤ k))

  pub past_end : (k : ℕ) → length cards ≤ k → card_count d ≤ k
  past_end k q = let room = held_room file cards d h in omega arith

  past_blank : (k : ℕ) → (get_or cards k no_card).state ≡ Blank → card_count d ≤ k
  past_blank k is = elim (cases_lt k (card_count d)) [
    | inl q ↦ absurd (never_blank file (get_or cards k no_card) _ (shown_at file cards d h k q) is)
    | inr q ↦ q
  ]

  inside_named : (k : ℕ) → k < length cards → ((get_or cards k no_card).state ≡ Blank → ⊥) → k < card_count d
  inside_named k lt named = elim (cases_lt k (card_count d)) [
    | inl q ↦ q
    | inr q ↦ absurd (named (ap (λ (c : Card). c.state) (blank_at file cards d h k q lt)))
  ]

  -- the card at a place, where the blank ones are refused with those past the end
  pub card_right : (k : ℕ) (r : Result Card Refusal) → (length cards ≤ k → r ≡ Err Past) → (k < length cards → (get_or cards k no_card).state ≡ Blank → r ≡ Err Past) → (k < length cards → ((get_or cards k no_card).state ≡ Blank → ⊥) → r ≡ Ok (get_or cards k no_card)) → CardIs k r
  card_right k r past blank named = elim (cases_lt k (length cards)) [
    | inl lt ↦ go (get_or cards k no_card).state refl lt
    | inr q ↦ refused (past q) (past_end k q)
  ]
    where
      refused : r ≡ Err Past → card_count d ≤ k → CardIs k r
      refused e q = subst (CardIs k) (sym e) (refl, q)

      given : k < length cards → ((get_or cards k no_card).state ≡ Blank → ⊥) → CardIs k r
      given lt some = subst (CardIs k) (sym (named lt some)) (inside_named k lt some, refl)

      go : (s : State) → (get_or cards k no_card).state ≡ s → k < length cards → CardIs k r
      go Filed is lt = given lt (λ b. clash (cc))
      go Voided is lt = given lt (λ b. clash (cc))
      go Emptied is lt = given lt (λ b. clash (cc))
      go Blank is lt = refused (blank lt is) (past_blank k is)

  -- and they are those that are taken from the front
  module _ (n : ℕ) (f : NamedFront cards n) where
    pub taken_long : length (take n cards) ≡ card_count d
    taken_long = let w = f.within in omega (arith, length-take n cards, front_count n f)

    pub taken_card : (k : ℕ) → k < length (take n cards) → (k < card_count d) × Shown file (get_or (take n cards) k no_card) (get_or (entries d) k no_entry)
    taken_card k h =
        let inside : k < card_count d = omega (arith, taken_long) in
        (inside, shown_card k _ inside (get_or-take n cards k no_card (omega (arith, front_count n f))))
