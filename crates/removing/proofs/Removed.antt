-- What a removal answers and leaves, by what was planned. Assumes nothing.
use Rattle.std.proofs.Common.{◌≡◌, ℕ, ◌+◌, ◌≤◌, true, false, eqb, leb, ◌⊎◌, List, length, Ok, Err, Result, sym, refl, ap, ◌∙◌, subst, inl, inr, arith}
use Rattle.std.proofs.lemmas.Bool.{cases_Bool, cond-true, cond-false, or_parts, or_from, ne_eqb, lt-leb, eqb-false, leb-false}
use Rattle.model.specs.declared.Card.{Card}
use Rattle.model.specs.declared.Edit.{Edit}
use Rattle.model.specs.declared.Edit.TheVariants.{Withheld, Deleted, Cleared}
use Rattle.model.specs.declared.Refusal.{Refusal}
use Rattle.model.specs.declared.Refusal.TheVariants as refusal
use Rattle.model.specs.Books.{Meaning}
use Rattle.model.specs.Datasets.{Dataset, entries}
use Rattle.model.specs.Rules.{Belongs}
use Rattle.model.specs.Cards.{Holds}
use Rattle.model.specs.Removal.{card_count}
use Rattle.model.specs.Refusals.{refusal_number}
use Rattle.model.specs.Edits.{edit, applied_cards, dropped, edit_reply, drawer_after}
use Rattle.model.specs.Runs.{refused, number, after_removal, remove_reply}
use Rattle.model.specs.Calls.{Event, Unheld, Removing}
use Rattle.model.proofs.Drawers.{out_of_range}
use Rattle.model.proofs.Editing.{held_room, long_edited, reply_edited, holds_after, refused_same}
use Rattle.model.proofs.Filing.{held_once}
use Rattle.editing.specs.Showing.{Inside}
use Rattle.editing.proofs.Reaching.{edit_inside}
use Rattle.removing.specs.Answering.{remove_answer}
use Rattle.removing.specs.Planning.{Inner, Planned, PlansFor, Plans}

-- Which cards are in range

in_range : (d : Dataset) (k : ℕ) → Inner d k → out_of_range d k ≡ false
in_range d k i = or_from (eqb k 0) (leb (card_count d) (k + 1)) (ne_eqb k 0 (λ e. let low = i.low in omega arith)) (lt-leb (card_count d) (k + 1) i.high)

range : (d : Dataset) (k : ℕ) → Inner d k ⊎ (out_of_range d k ≡ true)
range d k =
    elim (cases_Bool (out_of_range d k)) [
      | inl t ↦ inr t
      | inr f ↦ (let parts = or_parts (eqb k 0) (leb (card_count d) (k + 1)) f in
          let apart : k ≡ 0 → ⊥ = eqb-false k 0 parts.0 in
          inl (record { low = omega arith; high = leb-false (card_count d) (k + 1) parts.1 }))
    ]

-- A drawer that holds a dataset of the book

module _ (m : Meaning) (file : List ℕ) (cards : List Card) (k : ℕ) (d : Dataset) (h : Holds file cards d) where
  inner_drawer : Inner d k → drawer_after m d cards k ≡ applied_cards (edit m d k) (entries d) cards
  inner_drawer i = cond-false (out_of_range d k) cards _ (in_range d k i)

  outer_drawer : out_of_range d k ≡ true → drawer_after m d cards k ≡ cards
  outer_drawer t = cond-true (out_of_range d k) cards _ t

  drawer_holds : Holds file (drawer_after m d cards k) (after_removal m d k)
  drawer_holds =
      elim (range d k) [
        | inl i ↦ subst (λ cs. Holds file cs (after_removal m d k)) (sym (inner_drawer i)) (holds_after file cards d h m k i.low i.high)
        | inr t ↦ subst (λ cs. Holds file cs (after_removal m d k)) (sym (outer_drawer t)) (subst (Holds file cards) (sym (cond-true (out_of_range d k) d _ t)) h)
      ]

  drawer_long : length (drawer_after m d cards k) ≡ length cards
  drawer_long =
      elim (range d k) [
        | inl i ↦ ap length (inner_drawer i) ∙ long_edited file cards d h m k i.low i.high
        | inr t ↦ ap length (outer_drawer t)
      ]

  drawer_refused : (n : ℕ) → remove_reply m d k ≡ refused n → drawer_after m d cards k ≡ cards
  drawer_refused n q =
      elim (range d k) [
        | inl i ↦ inner_drawer i ∙ refused_same (edit m d k) n (entries d) cards (sym (reply_edited m d k i.low i.high) ∙ q)
        | inr t ↦ outer_drawer t
      ]

  module _ (b : Belongs m d) (out : List Card) (e : Event) (same_buffer : e.left ≡ e.buffer) where
    -- it answers and leaves what the plain run does
    own_removing : e.answer ≡ remove_reply m d k → out ≡ drawer_after m d cards k → Removing m file cards k e out
    own_removing says is = record {
      unheld = λ u. absurd (u d h);
      foreign = λ x g f. absurd (f (subst (Belongs m) (held_once file cards d x h g) b));
      own = λ x g _. subst (λ y. (e.answer ≡ remove_reply m y k) × Holds file out (after_removal m y k)) (held_once file cards d x h g) (says, subst (λ cs. Holds file cs (after_removal m d k)) (sym is) drawer_holds);
      cards_are = λ x g _. subst (λ y. out ≡ drawer_after m y cards k) (held_once file cards d x h g) is;
      refusing = λ n q. is ∙ drawer_refused n (sym says ∙ q);
      long = ap length is ∙ drawer_long;
      buffer_same = same_buffer;
    }

    planned_removing : (x : Edit) → Planned m d k x → e.answer ≡ edit_reply x → out ≡ applied_cards x (entries d) cards → Removing m file cards k e out
    planned_removing x p says is =
        let i = p.inner in
        own_removing
        (says ∙ ap edit_reply (sym p.is) ∙ sym (reply_edited m d k i.low i.high))
        (is ∙ ap (λ y. applied_cards y (entries d) cards) (sym p.is) ∙ sym (inner_drawer i))

-- The refusals

pub answers_refused : (r : Result ℕ Refusal) (f x : Refusal) → r ≡ Err x → x ≡ f → remove_answer r ≡ refused (refusal_number f)
answers_refused r f x is same = ap remove_answer is ∙ ap (λ y. refused (refusal_number y)) same

module _ (m : Meaning) (file : List ℕ) (cards : List Card) (k : ℕ) (e : Event) (same_buffer : e.left ≡ e.buffer) where
  unheld_removing : Unheld file cards → e.answer ≡ refused 20 → Removing m file cards k e cards
  unheld_removing u says = record {
    unheld = λ _. (says, refl);
    foreign = λ x g _. absurd (u x g);
    own = λ x g _. absurd (u x g);
    cards_are = λ x g _. absurd (u x g);
    refusing = λ n q. refl;
    long = refl;
    buffer_same = same_buffer;
  }

  foreign_removing : (d : Dataset) → Holds file cards d → (Belongs m d → ⊥) → e.answer ≡ refused 21 → Removing m file cards k e cards
  foreign_removing d h f says =
      let not_own : (x : Dataset) → Holds file cards x → Belongs m x → ⊥ = λ x g b. f (subst (Belongs m) (held_once file cards x d g h) b) in
      record {
        unheld = λ u. absurd (u d h);
        foreign = λ _ _ _. (says, refl);
        own = λ x g b. absurd (not_own x g b);
        cards_are = λ x g b. absurd (not_own x g b);
        refusing = λ n q. refl;
        long = refl;
        buffer_same = same_buffer;
      }

  fixed_removing : (d : Dataset) → Holds file cards d → Belongs m d → (Inner d k → ⊥) → e.answer ≡ refused 22 → Removing m file cards k e cards
  fixed_removing d h b outer says =
      elim (range d k) [
        | inl i ↦ absurd (outer i)
        | inr t ↦ own_removing m file cards k d h b cards e same_buffer (says ∙ sym (cond-true (out_of_range d k) (refused 22) _ t)) (sym (outer_drawer m file cards k d h t))
      ]

  refused_for : (d : Dataset) → Holds file cards d → (f : Refusal) → PlansFor m d k (Err f) → e.answer ≡ refused (refusal_number f) → Removing m file cards k e cards
  refused_for d h refusal.Unheld p says = absurd p
  refused_for d h refusal.Foreign p says = foreign_removing d h p says
  refused_for d h refusal.Fixed p says = fixed_removing d h p.0 p.1 says
  refused_for d h refusal.Held p says = planned_removing m file cards k d h p.belongs cards e same_buffer Withheld p says refl
  refused_for d h refusal.Past p says = absurd p
  refused_for d h refusal.Oversized p says = absurd p
  refused_for d h refusal.Cramped p says = absurd p

  -- a refusal leaves the cards
  pub refused_plan : (f : Refusal) → Plans m file cards k (Err f) → e.answer ≡ refused (refusal_number f) → Removing m file cards k e cards
  refused_plan f (inl (d, h, p)) says = refused_for d h f p says
  refused_plan f (inr (is, u)) says = let same : f ≡ refusal.Unheld = cc in unheld_removing u (says ∙ ap (λ x. refused (refusal_number x)) same)

  reply_dropped : (x : Edit) → (x ≡ Withheld → ⊥) → edit_reply x ≡ number (dropped x)
  reply_dropped Withheld f = absurd (f refl)
  reply_dropped (Deleted from to) f = refl
  reply_dropped (Cleared place to) f = refl

  inside_more : (x : Edit) (a b : ℕ) → a ≤ b → Inside x a → Inside x b
  inside_more Withheld a b h i = tt
  inside_more (Deleted from to) a b h i = (i.0, omega (arith, i.1))
  inside_more (Cleared place to) a b h i = (i.0, omega (arith, i.1))

  -- an edit that is done
  pub done_plan : (x : Edit) (n : ℕ) (out : List Card) → Plans m file cards k (Ok x) → ((d : Dataset) → Holds file cards d → Inside x (card_count d) → out ≡ applied_cards x (entries d) cards) → (Inside x (length cards) → n ≡ dropped x) → e.answer ≡ number n → Removing m file cards k e out
  done_plan x n out (inl (d, h, p)) cards_are gone says =
      let i = p.0.inner in
      let inside : Inside x (card_count d) = subst (λ y. Inside y (card_count d)) p.0.is (edit_inside m d k i.low i.high) in
      planned_removing m file cards k d h p.0.belongs out e same_buffer x p.0 (says ∙ ap number (gone (inside_more x (card_count d) (length cards) (held_room file cards d h) inside)) ∙ sym (reply_dropped x p.1)) (cards_are d h inside)
  done_plan x n out (inr (is, u)) cards_are gone says = let z : ◌≡◌ {A = ℕ} 0 1 = cc in absurd (omega arith)
