-- Entries are marked one by one, and what a mark says of its entry. Assumes nothing.
use Rattle.std.proofs.Common.{◌≡◌, ℕ, ◌+◌, ◌<◌, ◌≤◌, Bool, true, false, eqb, List, length, get_or, set, Some, None, Decides, Option, MatchOption, sym, refl, ap, ◌∙◌, subst, inl, inr, arith, get_or-set_other, get_or-set_same}
use Rattle.std.proofs.lemmas.Bool.{cases_eq, both_ways}
use Rattle.std.proofs.lemmas.Bool.Decides.{Decides-at, Decides-like}
use Rattle.model.specs.declared.Context.{Context}
use Rattle.model.specs.declared.Context.TheVariants.{Top}
use Rattle.model.specs.declared.Kind.TheVariants.{Pointer}
use Rattle.model.specs.declared.Row.{Row}
use Rattle.model.specs.Books.{Meaning}
use Rattle.model.specs.Datasets.{Entry}
use Rattle.model.specs.Edits.{no_entry}
use Rattle.model.specs.Refusals.{BookRule, known, aimed_right}
use Rattle.model.specs.Positions.{Levelled, Contexts, RowKeeps, KeepsAt, FirstOf, level_at, row_at}
use Rattle.model.proofs.Finding.{row_keeps, keeps_row}
use Rattle.model.proofs.Turns.{contexts_row, aimed_decides}
use Rattle.judging.specs.Entries.{Targets}
use Rattle.judging.specs.declared.marks.Mark.{Mark}
use Rattle.judging.specs.Marks.{no_mark, MarkedTo, Marked, Small}

-- what holds of the marks below i, and of the one that is written at i
front_more : (P : ℕ → Mark → Type 0) (marks : List Mark) (i : ℕ) (x : Mark) → i < length marks → ((j : ℕ) → j < i → P j (get_or marks j no_mark)) → P i x → (j : ℕ) → j < i + 1 → P j (get_or (set marks i x) j no_mark)
front_more P marks i x h front p j lt = elim (cases_eq j i) [
  | inl e ↦ subst (λ n. P n (get_or (set marks i x) n no_mark)) (sym e) (subst (P i) (sym (get_or-set_same marks i x no_mark h)) p)
  | inr n ↦ (let ne : j ≡ i → ⊥ = n in subst (P j) (sym (get_or-set_other marks i j x no_mark ne)) (front j (omega arith)))
]

pub small_more : (marks : List Mark) (i : ℕ) (x : Mark) → i < length marks → ((j : ℕ) → j < i → Small (get_or marks j no_mark)) → Small x → (j : ℕ) → j < i + 1 → Small (get_or (set marks i x) j no_mark)
small_more = front_more (λ j y. Small y)

module _ (m : Meaning) (b : List Entry) (marks : List Mark) where
  pub marked_none : MarkedTo m b marks 0
  marked_none = record { level = λ i h. absurd (omega arith); row = λ i h. absurd (omega arith) }

  pub marked_more : (i : ℕ) (x : Mark) → i < length marks → MarkedTo m b marks i → x.level ≡ level_at b i → row_at m b i ≡ Some x.row → MarkedTo m b (set marks i x) (i + 1)
  marked_more i x h front level row = record {
    level = front_more (λ j y. y.level ≡ level_at b j) marks i x h front.level level;
    row = front_more (λ j y. row_at m b j ≡ Some y.row) marks i x h front.row row;
  }

  pub marked_known : (n : ℕ) → MarkedTo m b marks n → (i : ℕ) → i < n → KeepsAt m b known i
  marked_known n t i h = row_keeps m b known i (get_or marks i no_mark).row (t.row i h) tt

  -- a test of a rule at entry i, by its row
  pub decides_row : Marked m b marks → (rule : BookRule) (i : ℕ) → i < length b → (x : Bool) → Decides x (RowKeeps m b rule i (get_or marks i no_mark).row) → Decides x (KeepsAt m b rule i)
  decides_row t rule i h x d = Decides-like x (row_keeps m b rule i (get_or marks i no_mark).row (t.all.row i h)) (keeps_row m b rule i (get_or marks i no_mark).row (t.all.row i h)) d

  -- a test of rule 16, by the record that a pointer of a pointer kind names
  pub aimed_test : Marked m b marks → (i : ℕ) → i < length marks → (u : ℕ) → m.kind (get_or marks i no_mark).row.typed ≡ Pointer u → (o : Option ℕ) → Targets b i o → (x : Bool) → (o ≡ None → x ≡ true) → ((j : ℕ) → o ≡ Some j → j < length marks → x ≡ eqb (get_or marks j no_mark).row.typed u) → Decides x (KeepsAt m b aimed_right i)
  aimed_test t i h u kind None none x free is =
      let low : i < length b = omega (arith, t.long) in
      (λ _. row_keeps m b aimed_right i (get_or marks i no_mark).row (t.all.row i low) (λ u x k p j lt named. absurd (none j x (record { points = p; within = lt; named = named }))), λ _. free refl)
  aimed_test t i h u kind (Some j) (y, n) x free is =
      let low : i < length b = omega (arith, t.long) in
      let there : j < length marks = (let within = n.within in omega (arith, t.long)) in
      decides_row t aimed_right i low x (Decides-at x (eqb (get_or marks j no_mark).row.typed u) (is j refl there) (aimed_decides m b t.judgeable.apart i (get_or marks i no_mark).row u y j (get_or marks j no_mark).row kind n.points n.within n.named (t.all.row j n.within)))

-- what the book answers, asked of the context and the tag of entry i, is its row
pub row_found : (m : Meaning) (b : List Entry) → Levelled b → (i : ℕ) → i < length b → (l : ℕ) → l ≡ level_at b i → (cs : List Context) → Contexts m b i cs → (tag : List ℕ) → tag ≡ (get_or b i no_entry).tag → (o : Option Row) → o ≡ m.row (get_or cs l Top) tag → row_at m b i ≡ o
row_found m b lev i h l at cs inv tag is o found = contexts_row m b lev i h l (sym at) cs inv ∙ ap (m.row (get_or cs l Top)) (sym is) ∙ sym found

-- where tests of the places below n are asked in their order, the first that fails is the first that breaks what is tested
pub first_tested : (P : ℕ → Type 0) (post : ℕ → Bool → Type 0) (n k : ℕ) → k ≡ n → ((i : ℕ) (r : Bool) → i < n → post i r → Decides r (P i)) → (o : Option ℕ) → MatchOption o ((i : ℕ) → 0 ≤ i → i < n → post i true) (λ i. (0 ≤ i) × (i < n) × post i false × ((j : ℕ) → 0 ≤ j → j < i → post j true)) → FirstOf P k o
first_tested P post n k e tests None all = λ i h. (tests i true (omega arith) (all i (omega arith) (omega arith))).0 refl
first_tested P post n k e tests (Some i) (low, h, fails, before) = record {
  within = omega arith;
  breaks = λ p. both_ways false refl ((tests i false h fails).1 p);
  before = λ j lt. (tests j true (omega arith) (before j (omega arith) lt)).0 refl;
}
