-- One line more in the scan of a file, its start and its ends. Assumes nothing.
use Rattle.std.proofs.Common.{◌≡◌, ℕ, zero, suc, ◌+◌, ◌<◌, ◌≤◌, min, max, false, cond, eqb, List, [], ◌∷◌, ◌++◌, length, Some, None, Option, sym, refl, ap, ◌∙◌, subst, inl, inr, arith}
use Rattle.std.proofs.lemmas.List.{map-append}
use Rattle.std.proofs.lemmas.Bool.{cond_both}
use Rattle.model.specs.declared.Place.{Place}
use Rattle.model.specs.declared.Fault.{Fault}
use Rattle.model.specs.Characters.{Clean}
use Rattle.model.specs.Books.{Meaning}
use Rattle.model.specs.Lines.{Line}
use Rattle.model.specs.Files.{Placed, at}
use Rattle.model.specs.Refusals.{Short, Refuses, lined, fault, lines_of}
use Rattle.model.specs.LineTurns as turns
use Rattle.model.proofs.Scans.{turn_start, turn_step, turn_spelled, turn_ended, turn_bare, turn_lined}
use Rattle.model.proofs.Noting.{ruled_verdict, kept_ordered}
use Rattle.lines.specs.declared.notes.Seen.{Seen}
use Rattle.lines.specs.declared.notes.Scan.{Scan}
use Rattle.lines.specs.declared.rules.Counts.{Counts}
use Rattle.lines.specs.declared.steps.Found.{Found}
use Rattle.lines.specs.Counts.{deepest_of, Counted}
use Rattle.lines.specs.Scans.{seen, last_of, notes_of, Sees, no_scan, After}
use Rattle.lines.specs.Steps.{Comes, NoLineAt}

-- ps are the lines so far, for a drawer with any room
pub record Going (file : List ℕ) (i : ℕ) (t : Scan) : Type 0 where
  pub placed : List Placed
  pub turn : (room : ℕ) → (over : Option Place) × turns.Turn file room placed i t.lines t.cards (last_of t.last) (notes_of t.notes) over t.closed t.here
  pub low : t.last.level ≤ 100
  pub deepest : t.deepest ≡ min 100 (deepest_of (lines_of placed))

pub start : (file : List ℕ) (i : ℕ) (t : Scan) → Clean file → i ≡ cond (turns.is_marked file) 3 0 → t ≡ no_scan → Going file i t
start file i t k e is = subst (Going file i) (sym is) (record {
  placed = [];
  turn = λ room. (None, turn_start file room i (turns.last_with 0 false false) false (turns.spot 0 0) (turns.is_marked file) k refl e);
  low = omega arith;
  deepest = refl;
})

-- The deepest level

deepest_push : (ls : List Line) (l : Line) → deepest_of (ls ++ l ∷ []) ≡ max (deepest_of ls) l.level
deepest_push [] l = omega arith
deepest_push (x ∷ ls) l = let e = deepest_push ls l in omega arith

deepest_more : (ps : List Placed) (p : Placed) (d e v : ℕ) → d ≡ min 100 (deepest_of (lines_of ps)) → v ≡ min 100 p.line.level → e ≡ max d v → e ≡ min 100 (deepest_of (lines_of (ps ++ p ∷ [])))
deepest_more ps p d e v a b c =
    let push : deepest_of (lines_of (ps ++ p ∷ [])) ≡ max (deepest_of (lines_of ps)) p.line.level = ap deepest_of (map-append (λ (q : Placed). q.line) ps (p ∷ [])) ∙ deepest_push (lines_of ps) p.line in
    omega arith

shallow : (ls : List Line) → ((i : ℕ) → i < length ls → (at ls i).level ≤ 63) → deepest_of ls ≤ 63
shallow [] h = omega arith
shallow (l ∷ ls) h = let here = h 0 (omega arith) in let rest = shallow ls (λ i lt. h (suc i) (omega arith)) in omega arith

-- One line more

pub step : (file : List ℕ) (i n i' n' : ℕ) (t : Scan) (f : Found) (v : Seen) (byte : ℕ) (r : Scan) → Going file i t → Comes file i n i' n' f → Sees f.line v → byte ≡ f.byte → After t v byte r → Going file i' r
step file i n i' n' t f v byte r g c sees same a =
    let line = c.line in
    let e : seen v ≡ turns.seen_of (min 100 line.level) line = sees line c.shows ∙ ap (λ k. turns.seen_of k line) c.shows.level in
    let deep : v.level ≡ min 100 line.level = ap (λ (x : turns.Seen). x.level) e in
    let here : byte ≡ i = same ∙ c.byte in
    let low = g.low in
    record {
      placed = g.placed ++ turns.found_at file i line ∷ [];
      turn = λ room.
          let (over, turn) = g.turn room in
          let noted = turns.note over (turns.breaks11 room t.cards (seen v)) (turns.spot (t.lines + 1) i) in
          (noted, turn_step file room g.placed i t.lines t.cards (last_of t.last) (notes_of t.notes) over t.closed t.here line 100 (seen v) i' r.lines r.cards (last_of r.last) (notes_of r.notes) noted r.closed r.here turn c.ended c.spelled (omega arith) e c.next_at a.lines a.cards a.last_is (a.notes_are ∙ ap (λ b. turns.notes_after t.lines b (last_of t.last) (seen v) (notes_of t.notes)) here) refl a.closed (a.here ∙ ap (turns.spot (t.lines + 1)) here));
      low = subst (λ (o : turns.Last). o.level ≤ 100) (sym a.last_is) (cond_both v.continuation (last_of t.last) (turns.last_with v.level v.pointing (eqb t.lines 0)) (λ o. o.level ≤ 100) (λ q. low) (λ q. omega arith));
      deepest = deepest_more g.placed (turns.found_at file i line) t.deepest r.deepest v.level g.deepest deep a.deepest;
    }

-- The ends

module _ (file : List ℕ) (i : ℕ) (t : Scan) (short : Short file) (clean : Clean file) (g : Going file i t) where
  pub few : t.lines ≤ i
  few = (g.turn 0).1.short

  pub cards_few : t.cards ≤ t.lines
  cards_few = (g.turn 0).1.fewer

  pub no_line : (m : Meaning) (cards : ℕ) → NoLineAt file i → Refuses m file cards (fault 4 (t.lines + 1) i)
  no_line m cards (h, inl e) = let (over, turn) = g.turn cards in turn_spelled m file cards g.placed i t.lines t.cards (last_of t.last) (notes_of t.notes) over t.closed t.here short clean turn h e
  no_line m cards (h, inr e) = let (over, turn) = g.turn cards in turn_ended m file cards g.placed i t.lines t.cards (last_of t.last) (notes_of t.notes) over t.closed t.here short clean turn h e

  module _ (end : length file ≤ i) where
    pub bare : (m : Meaning) (cards : ℕ) → t.lines ≡ 0 → Refuses m file cards (fault 4 1 i)
    bare m cards none = let (over, turn) = g.turn cards in turn_bare m file cards g.placed i t.lines t.cards (last_of t.last) (notes_of t.notes) over t.closed t.here short clean turn end none

    some : (t.lines ≡ 0 → ⊥) → 0 < length g.placed
    some h = let n = (g.turn 0).1.numbered in go (length g.placed) n
      where
        go : (k : ℕ) → t.lines ≡ k → 0 < k
        go zero e = absurd (h e)
        go (suc k) e = omega arith

    verdict : (cards : ℕ) → (t.lines ≡ 0 → ⊥) → turns.Verdict 11 cards g.placed (turns.verdict (notes_of t.notes) t.closed t.here None)
    verdict cards h = let (over, turn) = g.turn cards in ruled_verdict 11 cards g.placed (last_of t.last) (notes_of t.notes) t.closed t.here None (some h) turn.ruled (turn.closed (some h)) (λ kept. kept)

    pub broken : (m : Meaning) (cards : ℕ) (f : Fault) → (t.lines ≡ 0 → ⊥) → turns.verdict (notes_of t.notes) t.closed t.here None ≡ Some f → Refuses m file cards f
    broken m cards f h e =
        let (over, turn) = g.turn cards in
        lined g.placed short clean (turn_lined file cards g.placed i t.lines t.cards (last_of t.last) (notes_of t.notes) over t.closed t.here turn end) (subst (turns.Verdict 11 cards g.placed) e (verdict cards h))

    pub kept : (n : Counts) → (t.lines ≡ 0 → ⊥) → turns.verdict (notes_of t.notes) t.closed t.here None ≡ None → n.lines ≡ t.lines → n.cards ≡ t.cards → n.deepest ≡ t.deepest → Counted file n
    kept n h e lines cards deepest =
        let (over, turn) = g.turn 0 in
        let ordered = kept_ordered 0 g.placed (some h) (subst (turns.Verdict 11 0 g.placed) e (verdict 0 h)) in
        let low = shallow (lines_of g.placed) ordered.levels in
        let deep = g.deepest in
        record {
          placed = g.placed;
          passes = record { short = short; clean = clean; lined = turn_lined file 0 g.placed i t.lines t.cards (last_of t.last) (notes_of t.notes) over t.closed t.here turn end; ordered = ordered };
          lines = lines ∙ turn.numbered;
          cards = cards ∙ turn.counted;
          deepest = omega arith;
        }
