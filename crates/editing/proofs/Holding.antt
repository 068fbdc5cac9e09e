-- What the line of a card shows of the structure that it files, and the cards of a drawer one by one. Assumes nothing.
use Rattle.std.proofs.Common.{◌≡◌, ℕ, ◌+◌, ◌<◌, Bool, false, cond, List, [], ◌∷◌, length, get_or, take, set, Some, None, Option, sym, refl, ap, ◌∙◌, subst, inl, inr, arith}
use Rattle.std.proofs.lemmas.List.{set-get_or, take_all}
use Rattle.std.proofs.lemmas.Bool.{cases_lt}
use Rattle.model.specs.declared.Card.{Card}
use Rattle.model.specs.declared.State.{State}
use Rattle.model.specs.declared.State.TheVariants.{Filed, Blank}
use Rattle.model.specs.Datasets.{Payload, none, text, void, pointer, Dataset, Entry, entries, first_value}
use Rattle.model.specs.Cards.{after, Holds}
use Rattle.model.specs.Edits.{no_entry, no_card, voided_card, marked_card, marked, emptied_state}
use Rattle.model.proofs.Editing.{marked_more, marked_ahead}
use Rattle.lines.specs.declared.line.Line.{Line}
use Rattle.lines.specs.Shown.{value_of}
use Rattle.looking.specs.Looking.{LineAt, Shown}
use Rattle.looking.proofs.Drawers.{shown_at, blank_at}
use Rattle.looking.proofs.Showing.{entry_shows, entry_there}
use Rattle.editing.specs.Showing.{aims, aims_value, emptied_value}

-- The line at the byte of a card as filed shows the payload

pub filed_line : (file : List ℕ) (c : Card) (e : Entry) → Shown file c e → c.state ≡ Filed → (o : Option Line) → LineAt file c.byte o → (v : Line) × (o ≡ Some v) × (value_of v.payload ≡ first_value e.payload)
filed_line file c e s is None there = absurd (entry_there file c.byte there s.placed _ s.lined s.files.stands)
filed_line file c e s is (Some v) there =
    let filed : s.files.filed ≡ e.payload = sym (s.files.shows ∙ ap (λ (x : State). after x s.files.filed) is) in
    (v, refl, (entry_shows file c.byte v there s.placed _ s.lined s.files.stands).value ∙ ap first_value filed)

pub aims_first : (i : List ℕ) (p : Payload) → aims_value i (first_value p) ≡ aims i p
aims_first i none = refl
aims_first i (text [] more) = refl
aims_first i (text (c ∷ cs) more) = refl
aims_first i void = refl
aims_first i (pointer j) = refl

pub emptied_first : (p : Payload) → emptied_value (first_value p) ≡ emptied_state p
emptied_first none = refl
emptied_first (text [] more) = refl
emptied_first (text (c ∷ cs) more) = refl
emptied_first void = refl
emptied_first (pointer j) = refl

-- The cards of a drawer

marked_is : (i : List ℕ) (p : Payload) (c : Card) → cond (aims i p) (voided_card c) c ≡ marked_card i p c
marked_is i none c = refl
marked_is i (text t more) c = refl
marked_is i void c = refl
marked_is i (pointer j) c = refl

module _ (file : List ℕ) (cs : List Card) (d : Dataset) (h : Holds file cs d) (k : ℕ) where
  -- a loop that makes pointers void, one card further
  pub voided_turn : k < length cs → (i : List ℕ) (l : List Card) → l ≡ marked i (take k (entries d)) cs → (r : Bool) → ((e : Entry) → Shown file (get_or l k no_card) e → r ≡ aims i e.payload) → ((get_or l k no_card).state ≡ Blank → r ≡ false) → set l k (cond r (voided_card (get_or l k no_card)) (get_or l k no_card)) ≡ marked i (take (k + 1) (entries d)) cs
  voided_turn lt i l is r aimed unnamed =
      let es = entries d in
      let c = get_or cs k no_card in
      let here : get_or l k no_card ≡ c = ap (λ x. get_or x k no_card) is ∙ marked_ahead i es cs k no_card in
      elim (cases_lt k (length es)) [
        | inl inside ↦
            let p = (get_or es k no_entry).payload in
            let e : r ≡ aims i p = aimed (get_or es k no_entry) (subst (λ x. Shown file x (get_or es k no_entry)) (sym here) (shown_at file cs d h k inside)) in
            ap (λ x. set l k (cond r (voided_card x) x)) here ∙ ap (λ b. set l k (cond b (voided_card c) c)) e ∙ ap (λ x. set l k x) (marked_is i p c) ∙ ap (λ x. set x k (marked_card i p c)) is ∙ marked_more i es cs k inside
        | inr past ↦
            let e : r ≡ false = unnamed (ap (λ (x : Card). x.state) (here ∙ blank_at file cs d h k past lt)) in
            ap (λ b. set l k (cond b (voided_card (get_or l k no_card)) (get_or l k no_card))) e ∙ set-get_or l k no_card ∙ is ∙ ap (λ x. marked i x cs) (take_all k es past ∙ sym (take_all (k + 1) es (omega arith)))
      ]
