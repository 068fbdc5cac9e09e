-- The entries of a dataset, each with its row, stand as its situations say. Assumes nothing.
use Rattle.std.proofs.Common.{◌≡◌, ℕ, zero, suc, ◌+◌, ◌<◌, ◌≤◌, Bool, true, false, ltb, List, [], ◌∷◌, ◌++◌, map, length, get_or, take, drop, None, Option, sym, refl, ap, ◌∙◌, subst, ap₂, append_assoc, arith}
use mathlib.Core.List.{map-append, reverse_aux, reverse_aux-append}
use Rattle.std.proofs.lemmas.Bool.{cond-true, cond-false, lt-ltb, le-ltb}
use Rattle.model.specs.declared.Context.{Context}
use Rattle.model.specs.declared.Context.TheVariants.{Top}
use Rattle.model.specs.Books.{Meaning}
use Rattle.model.specs.Datasets.{Payload, Structures, end, next, Record, Dataset, tops, entry, entries_at, entries_of}
use Rattle.model.specs.Rules.{below, typed, types_of, top_types, Situation, situation, situations_in, situations_of, situations}
use Rattle.model.specs.Positions.{Mark, mark, no_mark, type_in, within, context_behind, types_behind, types_ahead, marks_from, marks}
use Rattle.model.proofs.Parts.{Begins}

-- The marks of a tree

abbrev pub marks_in : Meaning → Context → ℕ → Structures → List Mark
marks_in m c l end = []
marks_in m c l (next tag p subs rest) = mark (entry l None tag p) (m.row c tag) ∷ marks_in m (below m c tag) (l + 1) subs ++ marks_in m c l rest

abbrev pub marks_of : Meaning → List Record → List Mark
marks_of m [] = []
marks_of m (r ∷ rs) = mark (entry 0 r.identifier r.tag r.payload) (m.row Top r.tag) ∷ marks_in m (below m Top r.tag) 1 r.subs ++ marks_of m rs

marked_in : (m : Meaning) (c : Context) (l : ℕ) (s : Structures) → map (λ x. x.entry) (marks_in m c l s) ≡ entries_at l s
marked_in m c l end = refl
marked_in m c l (next tag p subs rest) =
    ap (λ es. entry l None tag p ∷ es) (map-append (λ x. x.entry) (marks_in m (below m c tag) (l + 1) subs) (marks_in m c l rest) ∙ ap₂ ◌++◌ (marked_in m (below m c tag) (l + 1) subs) (marked_in m c l rest))

pub marked_of : (m : Meaning) (rs : List Record) → map (λ x. x.entry) (marks_of m rs) ≡ entries_of rs
marked_of m [] = refl
marked_of m (r ∷ rs) =
    ap (λ es. entry 0 r.identifier r.tag r.payload ∷ es) (map-append (λ x. x.entry) (marks_in m (below m Top r.tag) 1 r.subs) (marks_of m rs) ∙ ap₂ ◌++◌ (marked_in m (below m Top r.tag) 1 r.subs) (marked_of m rs))

-- The next mark stands at a level that …

abbrev pub LevelBelow : ℕ → List Mark → Type 0
LevelBelow l u = Begins (λ y. y.entry.level < l) u

row_starts : (m : Meaning) (c : Context) (l : ℕ) (s : Structures) (u : List Mark) → LevelBelow l u → LevelBelow (l + 1) (marks_in m c l s ++ u)
row_starts m c l end [] b = tt
row_starts m c l end (x ∷ u) b = omega arith
row_starts m c l (next tag p subs rest) u b = omega arith

records_start : (m : Meaning) (rs : List Record) → LevelBelow 1 (marks_of m rs)
records_start m [] = tt
records_start m (r ∷ rs) = omega arith

leaf_in : (m : Meaning) (c : Context) (l : ℕ) (s : Structures) (u : List Mark) → LevelBelow (l + 1) u → s ≡ end → Begins (λ y. y.entry.level ≤ l) (marks_in m c (l + 1) s ++ u)
leaf_in m c l end [] b e = tt
leaf_in m c l end (x ∷ u) b e = omega arith
leaf_in m c l (next tag p subs rest) u b e = absurd (let z : ◌≡◌ {A = ℕ} 0 1 = cc in omega arith)

bare_in : (m : Meaning) (c : Context) (l : ℕ) (s : Structures) (u : List Mark) → Begins (λ y. y.entry.level ≤ l) (marks_in m c (l + 1) s ++ u) → s ≡ end
bare_in m c l end u b = refl
bare_in m c l (next tag p subs rest) u b = absurd (omega arith)

steps_in : (m : Meaning) (c : Context) (l : ℕ) (s : Structures) (u : List Mark) → LevelBelow (l + 1) u → Begins (λ y. y.entry.level ≤ l + 1) (marks_in m c (l + 1) s ++ u)
steps_in m c l end [] b = tt
steps_in m c l end (x ∷ u) b = omega arith
steps_in m c l (next tag p subs rest) u b = omega arith

-- What stands deeper is passed over, on both sides

context_deeper : (m : Meaning) (l : ℕ) (x : Mark) (past : List Mark) → l ≤ x.entry.level → context_behind m l (x ∷ past) ≡ context_behind m l past
context_deeper m l x past h = cond-false (ltb x.entry.level l) _ _ (le-ltb x.entry.level l h)

context_past : (m : Meaning) (l n : ℕ) (c : Context) (s : Structures) (past : List Mark) → l ≤ n → context_behind m l (reverse_aux (marks_in m c n s) past) ≡ context_behind m l past
context_past m l n c end past h = refl
context_past m l n c (next tag p subs rest) past h =
    let x = mark (entry n None tag p) (m.row c tag) in
    let under = marks_in m (below m c tag) (n + 1) subs in
    ap (context_behind m l) (reverse_aux-append under (marks_in m c n rest) (x ∷ past)) ∙ context_past m l n c rest (reverse_aux under (x ∷ past)) h ∙ context_past m l (n + 1) (below m c tag) subs (x ∷ past) (omega arith) ∙ context_deeper m l x past h

types_deeper : (l : ℕ) (x : Mark) (past : List Mark) → l < x.entry.level → types_behind l (x ∷ past) ≡ types_behind l past
types_deeper l x past h = cond-false (ltb x.entry.level l) _ _ (le-ltb x.entry.level l (omega arith)) ∙ cond-true (ltb l x.entry.level) _ _ (lt-ltb l x.entry.level h)

types_past : (m : Meaning) (l n : ℕ) (c : Context) (s : Structures) (past : List Mark) → l < n → types_behind l (reverse_aux (marks_in m c n s) past) ≡ types_behind l past
types_past m l n c end past h = refl
types_past m l n c (next tag p subs rest) past h =
    let x = mark (entry n None tag p) (m.row c tag) in
    let under = marks_in m (below m c tag) (n + 1) subs in
    ap (types_behind l) (reverse_aux-append under (marks_in m c n rest) (x ∷ past)) ∙ types_past m l n c rest (reverse_aux under (x ∷ past)) h ∙ types_past m l (n + 1) (below m c tag) subs (x ∷ past) (omega arith) ∙ types_deeper l x past h

types_same : (l : ℕ) (x : Mark) (past : List Mark) → x.entry.level ≡ l → types_behind l (x ∷ past) ≡ types_behind l past ++ type_in x.row ∷ []
types_same l x past h = cond-false (ltb x.entry.level l) _ _ (le-ltb x.entry.level l (omega arith)) ∙ cond-false (ltb l x.entry.level) _ _ (le-ltb l x.entry.level (omega arith))

ahead_deeper : (l : ℕ) (x : Mark) (u : List Mark) → l < x.entry.level → types_ahead l (x ∷ u) ≡ types_ahead l u
ahead_deeper l x u h = cond-false (ltb x.entry.level l) _ _ (le-ltb x.entry.level l (omega arith)) ∙ cond-true (ltb l x.entry.level) _ _ (lt-ltb l x.entry.level h)

ahead_same : (l : ℕ) (x : Mark) (u : List Mark) → x.entry.level ≡ l → types_ahead l (x ∷ u) ≡ type_in x.row ∷ types_ahead l u
ahead_same l x u h = cond-false (ltb x.entry.level l) _ _ (le-ltb x.entry.level l (omega arith)) ∙ cond-false (ltb l x.entry.level) _ _ (le-ltb l x.entry.level (omega arith))

ahead_past : (m : Meaning) (l n : ℕ) (c : Context) (s : Structures) (u : List Mark) → l < n → types_ahead l (marks_in m c n s ++ u) ≡ types_ahead l u
ahead_past m l n c end u h = refl
ahead_past m l n c (next tag p subs rest) u h =
    let under = marks_in m (below m c tag) (n + 1) subs in
    ahead_deeper l (mark (entry n None tag p) (m.row c tag)) _ h ∙ ap (types_ahead l) (append_assoc under (marks_in m c n rest) u) ∙ ahead_past m l (n + 1) (below m c tag) subs (marks_in m c n rest ++ u) (omega arith) ∙ ahead_past m l n c rest u h

ahead_none : (l : ℕ) (u : List Mark) → LevelBelow l u → types_ahead l u ≡ []
ahead_none l [] b = refl
ahead_none l (x ∷ u) b = cond-true (ltb x.entry.level l) [] _ (lt-ltb x.entry.level l b)

ahead_row : (m : Meaning) (c : Context) (l : ℕ) (s : Structures) (u : List Mark) → LevelBelow l u → types_ahead l (marks_in m c l s ++ u) ≡ types_of m c s
ahead_row m c l end u b = ahead_none l u b
ahead_row m c l (next tag p subs rest) u b =
    let under = marks_in m (below m c tag) (l + 1) subs in
    ahead_same l (mark (entry l None tag p) (m.row c tag)) _ refl ∙ ap (λ ts. typed m c tag ∷ ts) (ap (types_ahead l) (append_assoc under (marks_in m c l rest) u) ∙ ahead_past m l (l + 1) (below m c tag) subs (marks_in m c l rest ++ u) (omega arith) ∙ ahead_row m c l rest u b)

-- the types at the top
pub ahead_top : (m : Meaning) (rs : List Record) → types_ahead 0 (marks_of m rs) ≡ top_types m rs
ahead_top m [] = refl
ahead_top m (r ∷ rs) =
    ahead_same 0 (mark (entry 0 r.identifier r.tag r.payload) (m.row Top r.tag)) (marks_in m (below m Top r.tag) 1 r.subs ++ marks_of m rs) refl ∙ ap (λ ts. typed m Top r.tag ∷ ts) (ahead_past m 0 1 (below m Top r.tag) r.subs (marks_of m rs) (omega arith) ∙ ahead_top m rs)

-- Where a mark stands

abbrev pub fresh : List Mark → Bool
fresh [] = true
fresh (x ∷ past) = false

pub fresh_onto : (xs past : List Mark) → fresh past ≡ false → fresh (reverse_aux xs past) ≡ false
fresh_onto [] past h = h
fresh_onto (x ∷ xs) past h = fresh_onto xs (x ∷ past) refl

-- the mark x between past and more is that of the structure in the situation s
pub record Here (m : Meaning) (past : List Mark) (x : Mark) (more : List Mark) (s : Situation) : Type 0 where
  pub row : s.row ≡ x.row
  pub found : x.row ≡ m.row (context_behind m x.entry.level past) x.entry.tag
  pub header : s.header ≡ fresh past
  pub before : s.before ≡ types_behind x.entry.level past
  pub payload : s.payload ≡ x.entry.payload
  pub inside : s.inside ≡ within m x.row
  pub types : types_of m s.inside s.subs ≡ types_ahead (x.entry.level + 1) more
  pub leaf : s.subs ≡ end → Begins (λ y. y.entry.level ≤ x.entry.level) more
  pub bare : Begins (λ y. y.entry.level ≤ x.entry.level) more → s.subs ≡ end
  pub steps : Begins (λ y. y.entry.level ≤ x.entry.level + 1) more

here : (m : Meaning) (past : List Mark) (l : ℕ) (i : Option (List ℕ)) (h : Bool) (c : Context) (before : List (Option ℕ)) (tag : List ℕ) (p : Payload) (subs : Structures) (v : List Mark) → context_behind m l past ≡ c → types_behind l past ≡ before → fresh past ≡ h → LevelBelow (l + 1) v → Here m past (mark (entry l i tag p) (m.row c tag)) (marks_in m (below m c tag) (l + 1) subs ++ v) (situation m h c before tag p subs)
here m past l i h c before tag p subs v ctx seen first b = record {
  row = refl;
  found = ap (λ x. m.row x tag) (sym ctx);
  header = sym first;
  before = sym seen;
  payload = refl;
  inside = refl;
  types = sym (ahead_row m (below m c tag) (l + 1) subs v b);
  leaf = leaf_in m (below m c tag) l subs v b;
  bare = bare_in m (below m c tag) l subs v;
  steps = steps_in m (below m c tag) l subs v b;
}

abbrev pub Stand : Meaning → List Mark → List Mark → List Situation → Type 0
Stand m past [] [] = Unit {0}
Stand m past [] (s ∷ ss) = ⊥
Stand m past (x ∷ ms) [] = ⊥
Stand m past (x ∷ ms) (s ∷ ss) = Here m past x ms s × Stand m (x ∷ past) ms ss

stand_in : (m : Meaning) (c : Context) (before : List (Option ℕ)) (l : ℕ) (s : Structures) (past u : List Mark) (us : List Situation) → context_behind m l past ≡ c → types_behind l past ≡ before → fresh past ≡ false → LevelBelow l u → Stand m (reverse_aux (marks_in m c l s) past) u us → Stand m past (marks_in m c l s ++ u) (situations_in m c before s ++ us)
stand_in m c before l end past u us ctx seen first b more = more
stand_in m c before l (next tag p subs rest) past u us ctx seen first b more =
    let x = mark (entry l None tag p) (m.row c tag) in
    let inside : Context = below m c tag in
    let under = marks_in m inside (l + 1) subs in
    let beside = marks_in m c l rest in
    let unders = situations_in m inside [] subs in
    let after : List (Option ℕ) = before ++ typed m c tag ∷ [] in
    let besides = situations_in m c after rest in
    let starts = row_starts m c l rest u b in
    let later = subst (λ q. Stand m q u us) (reverse_aux-append under beside (x ∷ past)) more in
    let ctx_later : context_behind m l (reverse_aux under (x ∷ past)) ≡ c = context_past m l (l + 1) inside subs (x ∷ past) (omega arith) ∙ context_deeper m l x past (omega arith) ∙ ctx in
    let seen_later : types_behind l (reverse_aux under (x ∷ past)) ≡ after = types_past m l (l + 1) inside subs (x ∷ past) (omega arith) ∙ types_same l x past refl ∙ ap (λ ts. ts ++ typed m c tag ∷ []) seen in
    let rests = stand_in m c after l rest (reverse_aux under (x ∷ past)) u us ctx_later seen_later (fresh_onto under (x ∷ past) refl) b later in
    let belows = stand_in m inside [] (l + 1) subs (x ∷ past) (beside ++ u) (besides ++ us) (cond-true (ltb l (l + 1)) _ _ (lt-ltb l (l + 1) (omega arith))) (cond-true (ltb l (l + 1)) _ _ (lt-ltb l (l + 1) (omega arith))) refl starts rests in (
      subst (λ ys. Here m past x ys (situation m false c before tag p subs)) (sym (append_assoc under beside u)) (here m past l None false c before tag p subs (beside ++ u) ctx seen first starts),
      subst (λ ys. Stand m (x ∷ past) ys ((unders ++ besides) ++ us)) (sym (append_assoc under beside u)) (subst (λ ss. Stand m (x ∷ past) (under ++ (beside ++ u)) ss) (sym (append_assoc unders besides us)) belows),
    )

stand_of : (m : Meaning) (h : Bool) (before : List (Option ℕ)) (rs : List Record) (past : List Mark) → types_behind 0 past ≡ before → context_behind m 0 past ≡ Top → fresh past ≡ h → Stand m past (marks_of m rs) (situations_of m h before rs)
stand_of m h before [] past seen ctx first = tt
stand_of m h before (r ∷ rs) past seen ctx first =
    let x = mark (entry 0 r.identifier r.tag r.payload) (m.row Top r.tag) in
    let inside : Context = below m Top r.tag in
    let under = marks_in m inside 1 r.subs in
    let after : List (Option ℕ) = before ++ typed m Top r.tag ∷ [] in
    let starts = records_start m rs in
    let ctx_later : context_behind m 0 (reverse_aux under (x ∷ past)) ≡ Top = context_past m 0 1 inside r.subs (x ∷ past) (omega arith) ∙ context_deeper m 0 x past (omega arith) ∙ ctx in
    let seen_later : types_behind 0 (reverse_aux under (x ∷ past)) ≡ after = types_past m 0 1 inside r.subs (x ∷ past) (omega arith) ∙ types_same 0 x past refl ∙ ap (λ ts. ts ++ typed m Top r.tag ∷ []) seen in
    let rests = stand_of m false after rs (reverse_aux under (x ∷ past)) seen_later ctx_later (fresh_onto under (x ∷ past) refl) in (
      here m past 0 r.identifier h Top before r.tag r.payload r.subs (marks_of m rs) ctx seen first starts,
      stand_in m inside [] 1 r.subs (x ∷ past) (marks_of m rs) (situations_of m false after rs) refl refl refl starts rests,
    )

pub stand_all : (m : Meaning) (d : Dataset) → Stand m [] (marks_of m (tops d)) (situations m d)
stand_all m d = stand_of m true [] (tops d) [] refl refl refl

-- so the marks are found from the entries
marks_follow : (m : Meaning) (past ms : List Mark) (ss : List Situation) → Stand m past ms ss → marks_from m past (map (λ x. x.entry) ms) ≡ ms
marks_follow m past [] [] h = refl
marks_follow m past (x ∷ ms) (s ∷ ss) h =
    let same : mark x.entry (m.row (context_behind m x.entry.level past) x.entry.tag) ≡ x = ap (mark x.entry) (sym h.0.found) in
    (λ i. same i ∷ marks_from m (same i ∷ past) (map (λ y. y.entry) ms)) ∙ ap (λ ys. x ∷ ys) (marks_follow m (x ∷ past) ms ss h.1)
marks_follow m past [] (s ∷ ss) h = absurd h
marks_follow m past (x ∷ ms) [] h = absurd h

pub marks_are : (m : Meaning) (d : Dataset) → marks m (entries_of (tops d)) ≡ marks_of m (tops d)
marks_are m d = ap (marks_from m []) (sym (marked_of m (tops d))) ∙ marks_follow m [] (marks_of m (tops d)) (situations m d) (stand_all m d)

-- By position

pub stand_count : (m : Meaning) (past ms : List Mark) (ss : List Situation) → Stand m past ms ss → length ms ≡ length ss
stand_count m past [] [] h = refl
stand_count m past (x ∷ ms) (s ∷ ss) h = ap suc (stand_count m (x ∷ past) ms ss h.1)
stand_count m past [] (s ∷ ss) h = absurd h
stand_count m past (x ∷ ms) [] h = absurd h

pub stand_at : (m : Meaning) (past ms : List Mark) (ss : List Situation) (i : ℕ) (z : Situation) → i < length ms → Stand m past ms ss → Here m (reverse_aux (take i ms) past) (get_or ms i no_mark) (drop (suc i) ms) (get_or ss i z)
stand_at m past [] ss i z lt h = absurd (omega arith)
stand_at m past (x ∷ ms) [] i z lt h = absurd h
stand_at m past (x ∷ ms) (s ∷ ss) zero z lt h = h.0
stand_at m past (x ∷ ms) (s ∷ ss) (suc i) z lt h = stand_at m (x ∷ past) ms ss i z (omega arith) h.1
