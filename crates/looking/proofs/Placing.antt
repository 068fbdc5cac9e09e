-- A line by its place among the others: the one behind it, and its number. Assumes nothing.
use Rattle.std.proofs.Common.{◌≡◌, ℕ, zero, suc, ◌+◌, ◌-◌, ◌<◌, ◌≤◌, cond, List, [], ◌∷◌, ◌++◌, map, length, get_or, None, sym, refl, ap, ◌∙◌, subst, inl, inr, append_assoc, arith, length-append}
use mathlib.Core.List.{map-append, head-eq_of_cons-eq, tail-eq_of_cons-eq}
use lib.ListN.{length-map}
use Rattle.std.proofs.lemmas.List.{get_or_at, length_push}
use Rattle.model.specs.Lines.{Line, nothing, line_of}
use Rattle.model.specs.Datasets.{CONT, further, continuations, entry_lines, Entry}
use Rattle.model.specs.Files.{Placed, Lined, InPlace, bytes_of, at}
use Rattle.model.specs.Cards.{StandsAt}
use Rattle.model.specs.Refusals.{lines_of, byte_at}
use Rattle.model.specs.LineTurns.{is_marked, spot, spot_of}
use Rattle.model.proofs.Parts.{not_nil}
use Rattle.model.proofs.Filing.{bytes_positive}
use Rattle.lines.specs.declared.steps.Found.{Found}
use Rattle.lines.specs.Steps.{Comes}
use Rattle.lines.specs.Iterating.{StopsAt}
use Rattle.looking.proofs.Left.{Left, Cut, left_start, left_comes, left_stops}

-- The line behind

pub cut_last : (ps : List Placed) (i : ℕ) (c : Cut ps i) → c.more ≡ [] → i + 1 < length ps → ⊥
cut_last ps i c e h = let n = c.counted in omega (arith, ap length c.are, length-append c.before (c.line ∷ c.more), ap length e)

pub cut_next : (ps : List Placed) (i : ℕ) (c : Cut ps i) (q : Placed) (rest : List Placed) → c.more ≡ q ∷ rest → (i + 1 < length ps) × (at (lines_of ps) (i + 1) ≡ q.line)
cut_next ps i c q rest e =
    let n = c.counted in
    let all : ps ≡ (c.before ++ c.line ∷ []) ++ q ∷ rest = c.are ∙ ap (λ xs. c.before ++ c.line ∷ xs) e ∙ sym (append_assoc c.before (c.line ∷ []) (q ∷ rest)) in
    let long : length (lines_of (c.before ++ c.line ∷ [])) ≡ i + 1 = omega (arith, length-map (c.before ++ c.line ∷ []) (λ p. p.line), length_push c.before c.line) in
    (omega (arith, ap length all, length-append (c.before ++ c.line ∷ []) (q ∷ rest), length_push c.before c.line), ap (λ qs. at (lines_of qs) (i + 1)) all ∙ ap (λ ls. at ls (i + 1)) (map-append (λ p. p.line) (c.before ++ c.line ∷ []) (q ∷ rest)) ∙ get_or_at (lines_of (c.before ++ c.line ∷ [])) q.line (lines_of rest) (line_of 0 None [] nothing) (i + 1) long)

-- The number of a line

-- the line i is among those from a byte on
pub record Seeking (file : List ℕ) (ps : List Placed) (i from lines : ℕ) : Type 0 where
  pub before : List Placed
  pub rest : List Placed
  pub are : ps ≡ before ++ rest
  pub left : Left file from rest
  pub placed : InPlace from rest
  pub numbered : lines ≡ length before
  pub ahead : length before ≤ i

pub seeking_start : (file : List ℕ) (ps : List Placed) (i from lines : ℕ) → Lined file ps → from ≡ cond (is_marked file) 3 0 → lines ≡ 0 → Seeking file ps i from lines
seeking_start file ps i from lines l e z =
    let s = left_start file ps from l e in
    record { before = []; rest = ps; are = refl; left = s.0; placed = s.1; numbered = z; ahead = omega arith }

pub byte_there : (before : List Placed) (p : Placed) (more : List Placed) → byte_at (before ++ p ∷ more) (length before) ≡ p.byte
byte_there before p more = ap (λ bs. get_or bs (length before) 0) (map-append (λ q. q.byte) before (p ∷ more)) ∙ get_or_at (map (λ q. q.byte) before) p.byte (map (λ q. q.byte) more) 0 (length before) (length-map before (λ q. q.byte))

pub seeking_more : (file : List ℕ) (ps : List Placed) (i byte from lines : ℕ) (f : Found) (next lines' : ℕ) → Seeking file ps i from lines → byte_at ps i ≡ byte → Comes file from lines next lines' f → (f.byte ≡ byte → ⊥) → Seeking file ps i next lines'
seeking_more file ps i byte from lines f next lines' s e c other =
    let w = left_comes file from lines next lines' f s.rest s.left c in
    let place = subst (InPlace from) w.are s.placed in
    let all : ps ≡ s.before ++ w.line ∷ w.more = s.are ∙ ap (λ qs. s.before ++ qs) w.are in
    let n = s.numbered in
    let n' = c.next_number in
    let ahead = s.ahead in
    let apart : length s.before ≡ i → ⊥ = λ q. other (c.byte ∙ sym place.0 ∙ sym (byte_there s.before w.line w.more) ∙ ap (λ qs. byte_at qs (length s.before)) (sym all) ∙ ap (byte_at ps) q ∙ e) in
    record {
      before = s.before ++ w.line ∷ [];
      rest = w.more;
      are = all ∙ sym (append_assoc s.before (w.line ∷ []) w.more);
      left = w.left;
      placed = subst (λ k. InPlace k w.more) (sym w.on) place.1;
      numbered = omega (arith, length_push s.before w.line);
      ahead = elim (Rattle.std.proofs.lemmas.Bool.cases_lt (length s.before) i) [ inl q ↦ omega (arith, length_push s.before w.line) | inr q ↦ absurd (apart (omega arith)) ];
    }

-- a line further on begins further on
later : (from : ℕ) (rest : List Placed) (j : ℕ) → InPlace from rest → j < length rest → from ≤ byte_at rest j
later from [] j h l = absurd (omega arith)
later from (p ∷ rest) zero h l = let z = h.0 in omega arith
later from (p ∷ rest) (suc j) h l = let z = later (from + length (bytes_of p)) rest j h.1 (omega arith) in omega arith

byte_past : (before rest : List Placed) (j : ℕ) → byte_at (before ++ rest) (length before + j) ≡ byte_at rest j
byte_past before rest j = ap (λ bs. get_or bs (length before + j) 0) (map-append (λ q. q.byte) before rest) ∙ ap (λ n. get_or (map (λ q. q.byte) before ++ map (λ q. q.byte) rest) (n + j) 0) (sym (length-map before (λ q. q.byte))) ∙ Rattle.std.proofs.lemmas.List.get_or-append-add (map (λ q. q.byte) before) (map (λ q. q.byte) rest) j 0

pub seeking_found : (file : List ℕ) (ps : List Placed) (i byte from lines : ℕ) (f : Found) (next lines' : ℕ) → Seeking file ps i from lines → i < length ps → byte_at ps i ≡ byte → Comes file from lines next lines' f → f.byte ≡ byte → spot f.number f.byte ≡ spot_of ps i
seeking_found file ps i byte from lines f next lines' s h e c same =
    let w = left_comes file from lines next lines' f s.rest s.left c in
    let place = subst (InPlace from) w.are s.placed in
    let n = s.numbered in
    let ahead = s.ahead in
    let all : ps ≡ s.before ++ w.line ∷ w.more = s.are ∙ ap (λ qs. s.before ++ qs) w.are in
    let here : i ≡ length s.before = elim (Rattle.std.proofs.lemmas.Bool.cases_lt (length s.before) i) [
      | inl q ↦ absurd (
          let j = i - (length s.before + 1) in
          let to : i ≡ length s.before + suc j = omega arith in
          let b : byte_at ps i ≡ byte_at w.more j = ap (λ qs. byte_at qs i) all ∙ ap (byte_at (s.before ++ w.line ∷ w.more)) to ∙ byte_past s.before (w.line ∷ w.more) (suc j) in
          let past = later (from + length (bytes_of w.line)) w.more j place.1 (omega (arith, ap length all, length-append s.before (w.line ∷ w.more))) in
          let at = c.byte in
          omega (arith, bytes_positive w.line))
      | inr q ↦ omega arith
    ] in
    let number : f.number ≡ i + 1 = c.number ∙ (let z : lines + 1 ≡ i + 1 = omega arith in z) in
    λ k. spot (number k) ((same ∙ sym e) k)

pub seeking_end : (file : List ℕ) (ps : List Placed) (i from lines : ℕ) → Seeking file ps i from lines → i < length ps → StopsAt file from → ⊥
seeking_end file ps i from lines s h end =
    let none = left_stops file from s.rest s.left end in
    let ahead = s.ahead in
    omega (arith, ap length s.are, length-append s.before s.rest, ap length none)

-- An entry that stands there

pub record Stood (ps : List Placed) (b : ℕ) (e : Entry) : Type 0 where
  pub place : ℕ
  pub within : place < length ps
  pub begins : byte_at ps place ≡ b
  pub line : at (lines_of ps) place ≡ line_of e.level e.identifier e.tag (Rattle.model.specs.Datasets.first_value e.payload)
  pub alone : further e.payload ≡ [] → (place + 1 < length ps) × ((at (lines_of ps) (place + 1)).tag ≡ CONT) → ⊥
  pub followed : (t : List ℕ) (ts : List (List ℕ)) → further e.payload ≡ t ∷ ts → (place + 1 < length ps) × ((at (lines_of ps) (place + 1)).tag ≡ CONT)

pub line_there : (before : List Placed) (p : Placed) (more : List Placed) → at (lines_of (before ++ p ∷ more)) (length before) ≡ p.line
line_there before p more = ap (λ ls. at ls (length before)) (map-append (λ q. q.line) before (p ∷ more)) ∙ get_or_at (lines_of before) p.line (lines_of more) (line_of 0 None [] nothing) (length before) (length-map before (λ q. q.line))

next_none : (ps : List Placed) (i : ℕ) (c : Cut ps i) (rest : List Placed) → c.more ≡ rest → ((p : Placed) (more : List Placed) → rest ≡ p ∷ more → p.line.tag ≡ CONT → ⊥) → (i + 1 < length ps) × ((at (lines_of ps) (i + 1)).tag ≡ CONT) → ⊥
next_none ps i c [] e h (low, tag) = cut_last ps i c e low
next_none ps i c (q ∷ rest) e h (low, tag) = h q rest refl (ap (λ (l : Line). l.tag) (sym (cut_next ps i c q rest e).1) ∙ tag)

no_lines : (qs : List Placed) → lines_of qs ≡ [] → qs ≡ []
no_lines [] e = refl
no_lines (q ∷ qs) e = absurd (not_nil q.line (lines_of qs) (sym e))

next_some : (ps : List Placed) (i : ℕ) (c : Cut ps i) (qs rest : List Placed) (level : ℕ) (t : List ℕ) (ts : List (List ℕ)) → c.more ≡ qs ++ rest → lines_of qs ≡ continuations level (t ∷ ts) → (i + 1 < length ps) × ((at (lines_of ps) (i + 1)).tag ≡ CONT)
next_some ps i c [] rest level t ts e f = absurd (not_nil _ (continuations level ts) f)
next_some ps i c (q ∷ qs) rest level t ts e f = let n = cut_next ps i c q (qs ++ rest) e in (n.0, ap (λ (l : Line). l.tag) (n.1 ∙ head-eq_of_cons-eq f))

pub stood : (ps : List Placed) (b : ℕ) (e : Entry) → StandsAt ps b e → Stood ps b e
stood ps b e s = go s.own refl
  where
    go : (own : List Placed) → s.own ≡ own → Stood ps b e
    go [] q = absurd (not_nil _ _ (ap lines_of (sym q) ∙ s.reads))
    go (p ∷ more) q =
        let all : ps ≡ s.before ++ p ∷ (more ++ s.rest) = s.are ∙ append_assoc s.before s.own s.rest ∙ ap (λ o. s.before ++ (o ++ s.rest)) q in
        let byte : byte_at ps (length s.before) ≡ p.byte = ap (λ qs. byte_at qs (length s.before)) all ∙ byte_there s.before p (more ++ s.rest) in
        let is : at (lines_of ps) (length s.before) ≡ p.line = ap (λ qs. at (lines_of qs) (length s.before)) all ∙ line_there s.before p (more ++ s.rest) in
        let lines = ap lines_of (sym q) ∙ s.reads in
        let c : Cut ps (length s.before) = record { before = s.before; line = p; more = more ++ s.rest; are = all; counted = refl; byte = byte; is = is } in
        record {
          place = length s.before;
          within = omega (arith, ap length all, length-append s.before (p ∷ (more ++ s.rest)));
          begins = byte ∙ s.begins p more q;
          line = is ∙ head-eq_of_cons-eq lines;
          alone = λ none. next_none ps (length s.before) c s.rest (ap (λ qs. qs ++ s.rest) (no_lines more (tail-eq_of_cons-eq lines ∙ ap (continuations (e.level + 1)) none))) s.whole;
          followed = λ t ts some. next_some ps (length s.before) c more s.rest (e.level + 1) t ts refl (tail-eq_of_cons-eq lines ∙ ap (continuations (e.level + 1)) some);
        }
