-- How rows, contexts and types go on from position to position. Assumes nothing.
use Rattle.std.proofs.Common.{◌≡◌, ℕ, zero, suc, ◌+◌, ◌<◌, ◌≤◌, ltb, List, [], ◌∷◌, ◌++◌, reverse, length, get_or, take, drop, refl, ap, ◌∙◌, arith}
use mathlib.Core.List.{reverse_aux}
use Rattle.std.proofs.lemmas.List.{drop_all, drop_more}
use Rattle.std.proofs.lemmas.Bool.{cond-true, cond-false, lt-ltb, le-ltb}
use Rattle.model.specs.declared.Context.TheVariants.{Top}
use Rattle.model.specs.Books.{Meaning}
use Rattle.model.specs.Datasets.{Entry}
use Rattle.model.specs.Edits.{no_entry}
use Rattle.model.specs.Positions.{Mark, mark, no_mark, type_in, within, context_behind, types_behind, types_ahead, marks_from, marks, level_at, row_at, context_at, seen_at, ahead_at}

-- The marks of a list of entries

marks_count : (m : Meaning) (past : List Mark) (es : List Entry) → length (marks_from m past es) ≡ length es
marks_count m past [] = refl
marks_count m past (e ∷ es) = ap suc (marks_count m (mark e (m.row (context_behind m e.level past) e.tag) ∷ past) es)

pub length_marks : (m : Meaning) (b : List Entry) → length (marks m b) ≡ length b
length_marks m b = marks_count m [] b

marks_get : (m : Meaning) (past : List Mark) (es : List Entry) (i : ℕ) → i < length es → get_or (marks_from m past es) i no_mark ≡ mark (get_or es i no_entry) (m.row (context_behind m (get_or es i no_entry).level (reverse_aux (take i (marks_from m past es)) past)) (get_or es i no_entry).tag)
marks_get m past [] i h = absurd (omega arith)
marks_get m past (e ∷ es) zero h = refl
marks_get m past (e ∷ es) (suc i) h = marks_get m (mark e (m.row (context_behind m e.level past) e.tag) ∷ past) es i (omega arith)

pub past_more : (past ms : List Mark) (i : ℕ) → i < length ms → reverse_aux (take (suc i) ms) past ≡ get_or ms i no_mark ∷ reverse_aux (take i ms) past
past_more past [] i h = absurd (omega arith)
past_more past (x ∷ ms) zero h = refl
past_more past (x ∷ ms) (suc i) h = past_more (x ∷ past) ms i (omega arith)

module _ (m : Meaning) (b : List Entry) where
  -- nothing has been passed
  pub context_start : (l : ℕ) → context_at m b 0 l ≡ Top
  unfolding context_at
  context_start l = refl

  pub seen_start : (l : ℕ) → seen_at m b 0 l ≡ []
  unfolding seen_at
  seen_start l = refl

  -- nothing is left
  pub ahead_end : (i l : ℕ) → length b ≤ i → ahead_at m b i l ≡ []
  unfolding ahead_at
  ahead_end i l h = ap (types_ahead l) (drop_all i (marks m b) (omega (arith, length_marks m b)))

  module _ (i : ℕ) (h : i < length b) where
    pub mark_at : get_or (marks m b) i no_mark ≡ mark (get_or b i no_entry) (row_at m b i)
    unfolding row_at
    mark_at = let g = marks_get m [] b i h in λ k. record { entry = (g k).entry; row = (get_or (marks m b) i no_mark).row }

    -- the row, by the context at its level
    pub row_is : row_at m b i ≡ m.row (context_at m b i (level_at b i)) (get_or b i no_entry).tag
    unfolding row_at context_at
    row_is = ap (λ (x : Mark). x.row) (marks_get m [] b i h)

    past_step : reverse (take (i + 1) (marks m b)) ≡ mark (get_or b i no_entry) (row_at m b i) ∷ reverse (take i (marks m b))
    past_step = ap (λ n. reverse (take n (marks m b))) (let e : i + 1 ≡ suc i = omega arith in e) ∙ past_more [] (marks m b) i (omega (arith, length_marks m b)) ∙ ap (λ x. x ∷ reverse (take i (marks m b))) mark_at

    pub ahead_step : drop i (marks m b) ≡ mark (get_or b i no_entry) (row_at m b i) ∷ drop (i + 1) (marks m b)
    ahead_step = drop_more (marks m b) i no_mark (omega (arith, length_marks m b)) ∙ ap (λ x. x ∷ drop (i + 1) (marks m b)) mark_at

    -- past entry i: what was open above it stays, and below it a new row begins
    pub context_stays : (l : ℕ) → l ≤ level_at b i → context_at m b (i + 1) l ≡ context_at m b i l
    unfolding context_at
    context_stays l low = ap (context_behind m l) past_step ∙ cond-false (ltb (level_at b i) l) _ _ (le-ltb (level_at b i) l low)

    pub context_below : (l : ℕ) → level_at b i < l → context_at m b (i + 1) l ≡ within m (row_at m b i)
    unfolding context_at
    context_below l high = ap (context_behind m l) past_step ∙ cond-true (ltb (level_at b i) l) _ _ (lt-ltb (level_at b i) l high)

    pub seen_stays : (l : ℕ) → l < level_at b i → seen_at m b (i + 1) l ≡ seen_at m b i l
    unfolding seen_at
    seen_stays l low = ap (types_behind l) past_step ∙ cond-false (ltb (level_at b i) l) _ _ (le-ltb (level_at b i) l (omega arith)) ∙ cond-true (ltb l (level_at b i)) _ _ (lt-ltb l (level_at b i) low)

    pub seen_more : (l : ℕ) → level_at b i ≡ l → seen_at m b (i + 1) l ≡ seen_at m b i l ++ type_in (row_at m b i) ∷ []
    unfolding seen_at
    seen_more l same = ap (types_behind l) past_step ∙ cond-false (ltb (level_at b i) l) _ _ (le-ltb (level_at b i) l (omega arith)) ∙ cond-false (ltb l (level_at b i)) _ _ (le-ltb l (level_at b i) (omega arith))

    pub seen_none : (l : ℕ) → level_at b i < l → seen_at m b (i + 1) l ≡ []
    unfolding seen_at
    seen_none l high = ap (types_behind l) past_step ∙ cond-true (ltb (level_at b i) l) _ _ (lt-ltb (level_at b i) l high)

    -- and the same from behind
    pub ahead_stays : (l : ℕ) → l < level_at b i → ahead_at m b i l ≡ ahead_at m b (i + 1) l
    unfolding ahead_at
    ahead_stays l low = ap (types_ahead l) ahead_step ∙ cond-false (ltb (level_at b i) l) _ _ (le-ltb (level_at b i) l (omega arith)) ∙ cond-true (ltb l (level_at b i)) _ _ (lt-ltb l (level_at b i) low)

    pub ahead_more : (l : ℕ) → level_at b i ≡ l → ahead_at m b i l ≡ type_in (row_at m b i) ∷ ahead_at m b (i + 1) l
    unfolding ahead_at
    ahead_more l same = ap (types_ahead l) ahead_step ∙ cond-false (ltb (level_at b i) l) _ _ (le-ltb (level_at b i) l (omega arith)) ∙ cond-false (ltb l (level_at b i)) _ _ (le-ltb l (level_at b i) (omega arith))

    pub ahead_none : (l : ℕ) → level_at b i < l → ahead_at m b i l ≡ []
    unfolding ahead_at
    ahead_none l high = ap (types_ahead l) ahead_step ∙ cond-true (ltb (level_at b i) l) _ _ (lt-ltb (level_at b i) l high)
