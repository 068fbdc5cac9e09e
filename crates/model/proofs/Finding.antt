-- What loops note, turn by turn, and the finding that it makes. Assumes nothing.
use Rattle.std.proofs.Common.{◌≡◌, ℕ, ◌+◌, ◌<◌, ◌≤◌, List, length, Some, None, Option, sym, refl, ◌∙◌, subst, inl, inr, arith, MatchOption}
use Rattle.std.proofs.lemmas.Bool.{cases_lt, cases_eq}
use Rattle.model.specs.declared.Context.{Context}
use Rattle.model.specs.declared.Context.TheVariants.{Top, Under}
use Rattle.model.specs.declared.Row.{Row}
use Rattle.model.specs.Books.{Meaning, Lawful}
use Rattle.model.specs.Datasets.{Entry}
use Rattle.model.specs.Refusals.{BookRule, known, taken, aimed_right, single, needed, filled, book_rule_number}
use Rattle.model.specs.Positions.{within, row_at, under_at, top_at, NeedMet, RowKeeps, RowlessKeeps, KeepsAt, AllKeep, Lacks, finding, Earlier, BrokenAt, Finds, FindsNone, Judges, Told, FirstOf, From, LackOf, LackIn, NeedsOf, lowest}
use Rattle.model.proofs.Options.{never}

-- A loop that goes up notes the first place

module _ (P : ℕ → Type 0) where
  pub first_start : FirstOf P 0 None
  first_start i h = absurd (omega arith)

  pub first_kept : (i : ℕ) → FirstOf P i None → P i → FirstOf P (i + 1) None
  first_kept i k p j h = elim (cases_eq j i) [ inl e ↦ subst P (sym e) p | inr n ↦ k j (let ne : j ≡ i → ⊥ = n in omega arith) ]

  -- and may stop there
  pub first_broken : (i n : ℕ) → i < n → FirstOf P i None → (P i → ⊥) → FirstOf P n (Some i)
  first_broken i n h k b = record { within = h; breaks = b; before = k }

  pub first_stays : (i n j : ℕ) → i ≤ n → FirstOf P i (Some j) → FirstOf P n (Some j)
  first_stays i n j h f = record { within = let w = f.within in omega arith; breaks = f.breaks; before = f.before }

  -- one that goes down
  pub from_start : (n : ℕ) → FirstOf (From n P) n None
  from_start n j h low = absurd (omega arith)

  from_here : (i j : ℕ) → From (i + 1) P j → P i → From i P j
  from_here i j f p low = elim (cases_eq j i) [ inl e ↦ subst P (sym e) p | inr n ↦ f (let ne : j ≡ i → ⊥ = n in omega arith) ]

  pub from_kept : (i n : ℕ) (o : Option ℕ) → FirstOf (From (i + 1) P) n o → P i → FirstOf (From i P) n o
  from_kept i n None k p = λ j h. from_here i j (k j h) p
  from_kept i n (Some j) f p = record { within = f.within; breaks = λ k. f.breaks (λ low. k (omega arith)); before = λ k h. from_here i k (f.before k h) p }

  pub from_broken : (i n : ℕ) → i < n → (P i → ⊥) → FirstOf (From i P) n (Some i)
  from_broken i n h b = record { within = h; breaks = λ k. b (k (omega arith)); before = λ k lt low. absurd (omega arith) }

  pub from_all : (n : ℕ) (o : Option ℕ) → FirstOf (From 0 P) n o → FirstOf P n o
  from_all n None k = λ i h. k i h (omega arith)
  from_all n (Some j) f = record { within = f.within; breaks = λ p. f.breaks (λ low. p); before = λ k h. f.before k h (omega arith) }

module _ (m : Meaning) (b : List Entry) where
  -- A rule at an entry whose row is known

  pub row_keeps : (rule : BookRule) (i : ℕ) (r : Row) → row_at m b i ≡ Some r → RowKeeps m b rule i r → KeepsAt m b rule i
  row_keeps rule i r e k = subst (λ o. MatchOption o (RowlessKeeps m b rule i) (RowKeeps m b rule i)) (sym e) k

  pub keeps_row : (rule : BookRule) (i : ℕ) (r : Row) → row_at m b i ≡ Some r → KeepsAt m b rule i → RowKeeps m b rule i r
  keeps_row rule i r e k = subst (λ o. MatchOption o (RowlessKeeps m b rule i) (RowKeeps m b rule i)) e k

  pub no_row_breaks : (i : ℕ) → row_at m b i ≡ None → KeepsAt m b known i → ⊥
  no_row_breaks i e k = subst (λ o. MatchOption o (RowlessKeeps m b known i) (RowKeeps m b known i)) e k

  -- without a row the later rules ask nothing
  pub no_row_keeps : Lawful m → (rule : BookRule) (i : ℕ) → 14 < book_rule_number rule → row_at m b i ≡ None → KeepsAt m b rule i
  no_row_keeps lawful rule i h e = subst (λ o. MatchOption o (RowlessKeeps m b rule i) (RowKeeps m b rule i)) (sym e) (go rule h)
    where
      go : (rule : BookRule) → 14 < book_rule_number rule → RowlessKeeps m b rule i
      go known h = absurd (omega arith)
      go taken h = tt
      go aimed_right h = tt
      go single h = tt
      go needed h = λ j t f. never t (sym (lawful.uncounted (Under m.types) j (let low = lawful.no_needs m.types (omega arith) in omega arith)) ∙ f)
      go filled h = tt

  -- where every row is known, each entry has one
  pub some_row : AllKeep m b known → (i : ℕ) → i < length b → (r : Row) × (row_at m b i ≡ Some r)
  some_row k i h = go (row_at m b i) refl (k i h)
    where
      go : (o : Option Row) → row_at m b i ≡ o → MatchOption o (RowlessKeeps m b known i) (RowKeeps m b known i) → (r : Row) × (row_at m b i ≡ Some r)
      go None e c = absurd c
      go (Some r) e c = (r, e)

-- Needs

module _ (m : Meaning) (lawful : Lawful m) (c : Context) (ts : List (Option ℕ)) where
  -- a loop over the needs has met them all
  pub needs_met : ((j : ℕ) → j < m.needs c → NeedMet m c ts j) → LackIn m c ts None
  needs_met k j = elim (cases_lt j (m.needs c)) [
    | inl h ↦ k j h
    | inr h ↦ λ t e. never t (sym (lawful.uncounted c j h) ∙ e)
  ]

  pub need_none : (j : ℕ) → m.need c j ≡ None → NeedMet m c ts j
  need_none j e t f = never t (sym e ∙ f)

  -- a need is one of the types
  pub need_below : (j t : ℕ) → m.need c j ≡ Some t → t < 1024
  need_below j t e = let low = lawful.need_below c j t e in let few = lawful.few in omega arith

module _ (m : Meaning) (b : List Entry) where
  pub lacks_breaks : (i : ℕ) (r : Row) (t : ℕ) → row_at m b i ≡ Some r → Lacks m (Under r.typed) (under_at m b i) t → KeepsAt m b needed i → ⊥
  lacks_breaks i r t e l k = l.first.breaks (keeps_row m b needed i r e k l.need)

  -- a loop that goes down over the entries notes the first that lacks a type

  pub lack_start : LackOf m b (length b) None
  lack_start j h low = absurd (omega arith)

  pub lack_kept : (i : ℕ) (r : Row) (o : Option (ℕ × ℕ)) → row_at m b i ≡ Some r → LackOf m b (i + 1) o → LackIn m (Under r.typed) (under_at m b i) None → LackOf m b i o
  lack_kept i r None e k met = from_kept (KeepsAt m b needed) i (length b) None k (row_keeps m b needed i r e met)
  lack_kept i r (Some p) e k met = (from_kept (KeepsAt m b needed) i (length b) (Some p.0) k.0 (row_keeps m b needed i r e met), k.1)

  pub lack_broken : (i : ℕ) (r : Row) (t : ℕ) → i < length b → row_at m b i ≡ Some r → LackIn m (Under r.typed) (under_at m b i) (Some t) → LackOf m b i (Some (i, t))
  lack_broken i r t h e l = (from_broken (KeepsAt m b needed) i (length b) h (lacks_breaks i r t e l), subst (λ o. Lacks m (within m o) (under_at m b i) t) (sym e) l)

  -- the top comes first, at the first card
  pub needs_top : (t : ℕ) → LackIn m Top (top_at m b) (Some t) → NeedsOf m b (Some (0, t))
  needs_top t l = inl (refl, l)

  pub needs_cards : (o : Option (ℕ × ℕ)) → LackIn m Top (top_at m b) None → LackOf m b 0 o → NeedsOf m b o
  needs_cards None top k = (top, λ i h. k i h (omega arith))
  needs_cards (Some p) top l = inr (top, l.0.within, λ j h. l.0.before j h (omega arith), l.1)

  -- What is told, rule by rule

  pub found_known : (i : ℕ) → FirstOf (KeepsAt m b known) (length b) (Some i) → Finds m b (finding known i None)
  found_known i f = record { earlier = go; broken = (f, refl) }
    where
      go : Earlier m b known
      go known h = absurd (omega arith)
      go taken h = absurd (omega arith)
      go aimed_right h = absurd (omega arith)
      go single h = absurd (omega arith)
      go needed h = absurd (omega arith)
      go filled h = absurd (omega arith)

  module _ (k14 : AllKeep m b known) where
    pub found_taken : (i : ℕ) → FirstOf (KeepsAt m b taken) (length b) (Some i) → Finds m b (finding taken i None)
    found_taken i f = record { earlier = go; broken = (f, refl) }
      where
        go : Earlier m b taken
        go known h = (tt, k14)
        go taken h = absurd (omega arith)
        go aimed_right h = absurd (omega arith)
        go single h = absurd (omega arith)
        go needed h = absurd (omega arith)
        go filled h = absurd (omega arith)

    module _ (k15 : AllKeep m b taken) where
      pub found_aimed : (i : ℕ) → FirstOf (KeepsAt m b aimed_right) (length b) (Some i) → Finds m b (finding aimed_right i None)
      found_aimed i f = record { earlier = go; broken = (f, refl) }
        where
          go : Earlier m b aimed_right
          go known h = (tt, k14)
          go taken h = (tt, k15)
          go aimed_right h = absurd (omega arith)
          go single h = absurd (omega arith)
          go needed h = absurd (omega arith)
          go filled h = absurd (omega arith)

      module _ (k16 : AllKeep m b aimed_right) where
        pub found_single : (i : ℕ) → FirstOf (KeepsAt m b single) (length b) (Some i) → Finds m b (finding single i None)
        found_single i f = record { earlier = go; broken = (f, refl) }
          where
            go : Earlier m b single
            go known h = (tt, k14)
            go taken h = (tt, k15)
            go aimed_right h = (tt, k16)
            go single h = absurd (omega arith)
            go needed h = absurd (omega arith)
            go filled h = absurd (omega arith)

        module _ (k17 : AllKeep m b single) where
          before_needed : Earlier m b needed
          before_needed known h = (tt, k14)
          before_needed taken h = (tt, k15)
          before_needed aimed_right h = (tt, k16)
          before_needed single h = (tt, k17)
          before_needed needed h = absurd (omega arith)
          before_needed filled h = absurd (omega arith)

          pub found_needed : (i t : ℕ) → NeedsOf m b (Some (i, t)) → Finds m b (finding needed i (Some t))
          found_needed i t l = record { earlier = before_needed; broken = (t, refl, l) }

          module _ (k18 : NeedsOf m b None) where
            pub found_filled : (i : ℕ) → FirstOf (KeepsAt m b filled) (length b) (Some i) → Finds m b (finding filled i None)
            found_filled i f = record { earlier = go; broken = (f, refl) }
              where
                go : Earlier m b filled
                go known h = (tt, k14)
                go taken h = (tt, k15)
                go aimed_right h = (tt, k16)
                go single h = (tt, k17)
                go needed h = k18
                go filled h = absurd (omega arith)

            pub found_none : FirstOf (KeepsAt m b filled) (length b) None → FindsNone m b
            found_none k19 = record { all = go; top = k18.0 }
              where
                go : (r : BookRule) → AllKeep m b r
                go known = k14
                go taken = k15
                go aimed_right = k16
                go single = k17
                go needed = k18.1
                go filled = k19

  -- for one pass that has noted each: the lowest is told
  pub lowest_judges : (o14 o15 o16 o17 : Option ℕ) (o18 : Option (ℕ × ℕ)) (o19 : Option ℕ) → FirstOf (KeepsAt m b known) (length b) o14 → FirstOf (KeepsAt m b taken) (length b) o15 → FirstOf (KeepsAt m b aimed_right) (length b) o16 → FirstOf (KeepsAt m b single) (length b) o17 → NeedsOf m b o18 → FirstOf (KeepsAt m b filled) (length b) o19 → Judges m b (lowest o14 o15 o16 o17 o18 o19)
  lowest_judges (Some i) o15 o16 o17 o18 o19 k14 k15 k16 k17 k18 k19 = found_known i k14
  lowest_judges None (Some i) o16 o17 o18 o19 k14 k15 k16 k17 k18 k19 = found_taken k14 i k15
  lowest_judges None None (Some i) o17 o18 o19 k14 k15 k16 k17 k18 k19 = found_aimed k14 k15 i k16
  lowest_judges None None None (Some i) o18 o19 k14 k15 k16 k17 k18 k19 = found_single k14 k15 k16 i k17
  lowest_judges None None None None (Some p) o19 k14 k15 k16 k17 k18 k19 = found_needed k14 k15 k16 k17 p.0 p.1 k18
  lowest_judges None None None None None (Some i) k14 k15 k16 k17 k18 k19 = found_filled k14 k15 k16 k17 k18 i k19
  lowest_judges None None None None None None k14 k15 k16 k17 k18 k19 = found_none k14 k15 k16 k17 k18 k19

  -- by its number
  pub told : (rule : BookRule) (i : ℕ) (o : Option ℕ) → Finds m b (finding rule i o) → Told m b (book_rule_number rule) i o
  told rule i o f = record { rule = rule; numbered = refl; finds = f }

  -- the card that is told is one of the entries
  broken_within : (rule : BookRule) (i : ℕ) (o : Option ℕ) → 0 < length b → BrokenAt m b rule i o → i < length b
  broken_within known i o some (f, e) = f.within
  broken_within taken i o some (f, e) = f.within
  broken_within aimed_right i o some (f, e) = f.within
  broken_within single i o some (f, e) = f.within
  broken_within needed i o some (t, e, inl (here, l)) = omega arith
  broken_within needed i o some (t, e, inr (top, within, before, l)) = within
  broken_within filled i o some (f, e) = f.within

  pub told_within : (number i : ℕ) (o : Option ℕ) → 0 < length b → Told m b number i o → i < length b
  told_within number i o some t = broken_within t.rule i o some t.finds.broken
