-- Cards beside the lines of a file, one line after the other. Assumes nothing.
use Rattle.std.proofs.Common.{◌≡◌, ℕ, zero, suc, ◌+◌, ◌-◌, ◌<◌, ◌≤◌, Bool, cond, ◌⊎◌, List, [], ◌∷◌, ◌++◌, map, length, drop, get_or, Decides, sym, refl, ap, ◌∙◌, subst, inl, inr, append_assoc, append-nil, arith, length-append}
use mathlib.Core.List.{map-append}
use mathlib.Core.List.{head-eq_of_cons-eq, tail-eq_of_cons-eq}
use lib.ListN.{length-map}
use Rattle.std.proofs.lemmas.List.{get_or-append-add, get_or_append_left, length_push}
use Rattle.std.proofs.lemmas.Bool.{cases_lt, cases_eq}
use Rattle.model.specs.declared.Card.{Card}
use Rattle.model.specs.Lines.{Line}
use Rattle.model.specs.Datasets.{CONT}
use Rattle.model.specs.Files.{Placed, Lined, InPlace, bytes_of, at}
use Rattle.model.specs.Refusals.{lines_of, byte_at}
use Rattle.model.specs.LineTurns.{is_marked}
use Rattle.model.proofs.Filing.{bytes_positive}
use Rattle.lines.specs.declared.steps.Found.{Found}
use Rattle.lines.specs.Steps.{Comes}
use Rattle.looking.proofs.Left.{Left, Came, left_start, left_comes, left_stops}
use Rattle.looking.proofs.Placing.{byte_there, line_there}
use Rattle.holding.specs.Standing.{card, OnLine, OnLines}
use Rattle.lines.specs.Iterating.{StopsAt}
use Rattle.holding.specs.Matching.{IsCardOf}

-- the card at k is that of a line which continues none
pub record Matches (cards : List Card) (k : ℕ) (f : Found) : Type 0 where
  pub within : k < length cards
  pub byte : (card cards k).byte ≡ f.byte
  pub own : f.line.tag.now ≡ CONT → ⊥

-- Bytes and places

byte_past : (before rest : List Placed) (j : ℕ) → byte_at (before ++ rest) (length before + j) ≡ byte_at rest j
byte_past before rest j = ap (λ bs. get_or bs (length before + j) 0) (map-append (λ q. q.byte) before rest) ∙ ap (λ n. get_or (map (λ q. q.byte) before ++ map (λ q. q.byte) rest) (n + j) 0) (sym (length-map before (λ q. q.byte))) ∙ get_or-append-add (map (λ q. q.byte) before) (map (λ q. q.byte) rest) j 0

byte_before : (before rest : List Placed) (j : ℕ) → j < length before → byte_at (before ++ rest) j ≡ byte_at before j
byte_before before rest j h = ap (λ bs. get_or bs j 0) (map-append (λ q. q.byte) before rest) ∙ get_or_append_left (map (λ q. q.byte) before) (map (λ q. q.byte) rest) 0 j (omega (arith, length-map before (λ q. q.byte)))

pub later : (from : ℕ) (rest : List Placed) (j : ℕ) → InPlace from rest → j < length rest → from ≤ byte_at rest j
later from [] j h l = absurd (omega arith)
later from (p ∷ rest) zero h l = let z = h.0 in omega arith
later from (p ∷ rest) (suc j) h l = let z = later (from + length (bytes_of p)) rest j h.1 (omega arith) in omega arith

-- the cards up to k are those of lines before a byte, and no later one is, if all are in order
pub record Merging (file : List ℕ) (ps : List Placed) (cards : List Card) (from k : ℕ) : Type 0 where
  pub before : List Placed
  pub rest : List Placed
  pub are : ps ≡ before ++ rest
  pub left : Left file from rest
  pub placed : InPlace from rest
  pub passed : (j : ℕ) → j < length before → byte_at before j < from
  pub lines : (j : ℕ) → j < k → OnLine ps (card cards j).byte × ((card cards j).byte < from)
  pub rising : (j : ℕ) → j + 1 < k → (card cards j).byte < (card cards (j + 1)).byte
  pub ahead : OnLines ps cards → k < length cards → from ≤ (card cards k).byte

pub merging_start : (file : List ℕ) (ps : List Placed) (cards : List Card) (from : ℕ) → Lined file ps → from ≡ cond (is_marked file) 3 0 → Merging file ps cards from 0
merging_start file ps cards from l e =
    let s = left_start file ps from l e in
    record {
      before = [];
      rest = ps;
      are = refl;
      left = s.0;
      placed = s.1;
      passed = λ j h. absurd (omega arith);
      lines = λ j h. absurd (omega arith);
      rising = λ j h. absurd (omega arith);
      ahead = λ on h. let (i, low, is, _) = on.lines 0 h in subst (λ b. from ≤ b) is (later from ps i s.1 low);
    }

-- One line more

module _ (file : List ℕ) (ps : List Placed) (cards : List Card) (from k n next n' : ℕ) (f : Found) (m : Merging file ps cards from k) (c : Comes file from n next n' f) where
  w : Came file from next f m.rest
  w = left_comes file from n next n' f m.rest m.left c

  place : (w.line.byte ≡ from) × InPlace (from + length (bytes_of w.line)) w.more
  place = subst (InPlace from) w.are m.placed

  all : ps ≡ m.before ++ w.line ∷ w.more
  all = m.are ∙ ap (λ qs. m.before ++ qs) w.are

  on : from < next
  on = let e = w.on in omega (arith, bytes_positive w.line)

  placed_next : InPlace next w.more
  placed_next = subst (λ b. InPlace b w.more) (sym w.on) place.1

  long : length ps ≡ length m.before + suc (length w.more)
  long = ap length all ∙ length-append m.before (w.line ∷ w.more)

  byte_here : byte_at ps (length m.before) ≡ from
  byte_here = ap (λ qs. byte_at qs (length m.before)) all ∙ byte_there m.before w.line w.more ∙ place.0

  line_here : at (lines_of ps) (length m.before) ≡ w.line.line
  line_here = ap (λ qs. at (lines_of qs) (length m.before)) all ∙ line_there m.before w.line w.more

  -- a line begins before, here, or from the next on
  where_byte : (i : ℕ) → i < length ps → (byte_at ps i < from) ⊎ ((i ≡ length m.before) ⊎ (next ≤ byte_at ps i))
  where_byte i h = elim (cases_lt i (length m.before)) [
    | inl q ↦ inl (let e = ap (λ qs. byte_at qs i) m.are ∙ byte_before m.before m.rest i q in let z = m.passed i q in omega arith)
    | inr q ↦ elim (cases_eq i (length m.before)) [
      | inl e ↦ inr (inl e)
      | inr e ↦ inr (inr (
          let j = i - (length m.before + 1) in
          let to : i ≡ length m.before + suc j = omega arith in
          let b : byte_at ps i ≡ byte_at w.more j = ap (λ qs. byte_at qs i) all ∙ ap (byte_at (m.before ++ w.line ∷ w.more)) to ∙ byte_past m.before (w.line ∷ w.more) (suc j) in
          let z = later next w.more j placed_next (omega (arith, long)) in
          omega arith))
    ]
  ]

  jump : (b : ℕ) → OnLine ps b → from < b → next ≤ b
  jump b (i, h, e, tag) up = elim (where_byte i h) [
    | inl q ↦ absurd (omega arith)
    | inr (inl q) ↦ absurd (let z = ap (byte_at ps) q ∙ byte_here in omega arith)
    | inr (inr q) ↦ omega arith
  ]

  own_here : (b : ℕ) → OnLine ps b → b ≡ from → f.line.tag.now ≡ CONT → ⊥
  own_here b (i, h, e, tag) is cont = elim (where_byte i h) [
    | inl q ↦ omega arith
    | inr (inl q) ↦ tag (ap (λ n. (at (lines_of ps) n).tag) q ∙ ap (λ (l : Line). l.tag) line_here ∙ sym w.shows.tag ∙ cont)
    | inr (inr q) ↦ let z = on in omega arith
  ]

  passed_next : (j : ℕ) → j < length (m.before ++ w.line ∷ []) → byte_at (m.before ++ w.line ∷ []) j < next
  passed_next j h = elim (cases_lt j (length m.before)) [
    | inl q ↦ let e = byte_before m.before (w.line ∷ []) j q in let z = m.passed j q in let u = on in omega arith
    | inr q ↦ let same : j ≡ length m.before = omega (arith, length_push m.before w.line) in let e = ap (byte_at (m.before ++ w.line ∷ [])) same ∙ byte_there m.before w.line [] ∙ place.0 in let u = on in omega arith
  ]

  are_next : ps ≡ (m.before ++ w.line ∷ []) ++ w.more
  are_next = all ∙ sym (append_assoc m.before (w.line ∷ []) w.more)

  pub merging_match : Matches cards k f → Merging file ps cards next (k + 1)
  merging_match t =
      let here : (card cards k).byte ≡ from = t.byte ∙ c.byte in
      record {
        before = m.before ++ w.line ∷ [];
        rest = w.more;
        are = are_next;
        left = w.left;
        placed = placed_next;
        passed = passed_next;
        lines = λ j h. elim (cases_lt j k) [
          | inl q ↦ let (o, low) = m.lines j q in (o, (let u = on in omega arith))
          | inr q ↦ let same : k ≡ j = omega arith in subst (λ j. OnLine ps (card cards j).byte × ((card cards j).byte < next)) same ((length m.before, (omega (arith, long)), byte_here ∙ sym here, (λ cont. t.own (w.shows.tag ∙ sym (ap (λ (l : Line). l.tag) line_here) ∙ cont))), (let u = on in omega arith))
        ];
        rising = λ j h. elim (cases_lt (j + 1) k) [
          | inl q ↦ m.rising j q
          | inr q ↦ let same : k ≡ j + 1 = omega arith in let (o, low) = m.lines j (omega arith) in subst (λ n. (card cards j).byte < (card cards n).byte) same (omega arith)
        ];
        ahead = λ ons h. jump (card cards (k + 1)).byte (ons.lines (k + 1) h) (let up = ons.rising k h in omega arith);
      }

  pub merging_pass : (Matches cards k f → ⊥) → Merging file ps cards next k
  merging_pass t = record {
    before = m.before ++ w.line ∷ [];
    rest = w.more;
    are = are_next;
    left = w.left;
    placed = placed_next;
    passed = passed_next;
    lines = λ j h. let (o, low) = m.lines j h in (o, (let u = on in omega arith));
    rising = m.rising;
    ahead = λ ons h.
        let low = m.ahead ons h in
        let line = ons.lines k h in
        elim (cases_eq (card cards k).byte from) [
          | inl q ↦ absurd (t (record { within = h; byte = q ∙ sym c.byte; own = own_here (card cards k).byte line q }))
          | inr q ↦ jump (card cards k).byte line (omega arith)
        ];
  }

-- The end

pub merging_end : (file : List ℕ) (ps : List Placed) (cards : List Card) (from k : ℕ) (b : Bool) → Merging file ps cards from k → StopsAt file from → k ≤ length cards → Decides b (k ≡ length cards) → Decides b (OnLines ps cards)
merging_end file ps cards from k b m end few d = (
  (λ t. let same = d.0 t in record { lines = λ j h. (m.lines j (omega arith)).0; rising = λ j h. m.rising j (omega arith) }),
  (λ ons. d.1 (elim (cases_lt k (length cards)) [
    | inl q ↦ absurd (
        let none = left_stops file from m.rest m.left end in
        let all : ps ≡ m.before = m.are ∙ ap (λ qs. m.before ++ qs) none ∙ append-nil m.before in
        let low = m.ahead ons q in
        let (i, h, e, tag) = ons.lines k q in
        let z = m.passed i (omega (arith, ap length all)) in
        omega (arith, ap (λ qs. byte_at qs i) all))
    | inr q ↦ omega arith
  ])),
)

-- The cards that are left

-- which are those from k on
abbrev pub Behind : List Card → List Card → Type 0
Behind cards rest = (length rest ≤ length cards) × (rest ≡ drop (length cards - length rest) cards)

pub behind_all : (cards : List Card) → Behind cards cards
behind_all cards = (omega arith, sym (ap (λ k. drop k cards) (let z : length cards - length cards ≡ 0 = omega arith in z)))

dropped : (cards : List Card) (k : ℕ) (c : Card) (more : List Card) → c ∷ more ≡ drop k cards → (k < length cards) × (card cards k ≡ c) × (more ≡ drop (k + 1) cards)
dropped [] zero c more e = absurd (let z = ap length e in omega arith)
dropped [] (suc k) c more e = absurd (let z = ap length e in omega arith)
dropped (x ∷ xs) zero c more e = (omega arith, sym (head-eq_of_cons-eq e), tail-eq_of_cons-eq e)
dropped (x ∷ xs) (suc k) c more e = let (h, is, rest) = dropped xs k c more e in (omega arith, is, rest ∙ ap (λ n. drop n (x ∷ xs)) (let z : suc (k + 1) ≡ suc k + 1 = omega arith in z))

module _ (cards rest : List Card) (c : Card) (more : List Card) (b : Behind cards rest) (is : rest ≡ c ∷ more) where
  abbrev k : ℕ
  k = length cards - length rest

  parts : (k < length cards) × (card cards k ≡ c) × (more ≡ drop (k + 1) cards)
  parts = dropped cards k c more (sym is ∙ b.1)

  pub next_place : length cards - length more ≡ k + 1
  next_place = let low = parts.0 in let long = ap length is in omega arith

  pub behind_more : Behind cards more
  behind_more = (let low = parts.0 in let long = ap length is in omega arith, parts.2 ∙ ap (λ n. drop n cards) (sym next_place))

  pub matched : (f : Found) → IsCardOf c f → Matches cards k f
  matched f m = record { within = parts.0; byte = ap (λ (x : Card). x.byte) parts.1 ∙ m.byte; own = m.own }

  pub unmatched : (f : Found) → (IsCardOf c f → ⊥) → Matches cards k f → ⊥
  unmatched f n m = n (record { byte = ap (λ (x : Card). x.byte) (sym parts.1) ∙ m.byte; own = m.own })

pub none_matched : (cards rest : List Card) (f : Found) → length rest ≡ 0 → Matches cards (length cards - length rest) f → ⊥
none_matched cards rest f is m = let low = m.within in omega arith
