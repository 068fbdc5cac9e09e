-- One turn of the loop over the lines of a file, with all that it knows, and its ends. Assumes nothing.
use Rattle.std.proofs.Common.{◌≡◌, ℕ, ◌+◌, ◌<◌, ◌≤◌, min, Bool, true, false, cond, not, ltb, List, [], ◌∷◌, ◌++◌, length, get_or, drop, Some, None, Option, sym, refl, ap, ◌∙◌, subst, inl, inr, append-nil, arith, length-append}
use mathlib.Core.Path.{transport}
use lib.ListN.{length-map}
use Rattle.std.proofs.lemmas.List.{get_or_append_left, get_or_push, map_push, length_push}
use Rattle.std.proofs.lemmas.Bool.{cases_Bool, cases_lt, cond-true, cond-false, cond_both, not-true, not-false, and_parts, and_cases, ltb-true, ltb-false}
use Rattle.std.proofs.lemmas.Bool.Decides.{not_from_Decides}
use Rattle.model.specs.declared.Card.{Card}
use Rattle.model.specs.Characters.{Clean}
use Rattle.model.specs.Lines.{Line}
use Rattle.model.specs.Scan.{front, parse, in_line}
use Rattle.model.specs.Datasets.{CONT}
use Rattle.model.specs.Books.{Meaning}
use Rattle.model.specs.Files.{Placed, Lined}
use Rattle.model.specs.Refusals.{fault, Short, lines_of, others_from, others, Keeps11, room, Refuses, lined}
use Rattle.model.specs.declared.Fault.{Fault}
use Rattle.model.specs.LineTurns.{note, Noted, has_tag, Seen, seen_of, closes, is_marked, Last, last_after, Notes, notes_with, notes_after, line_end, next_line, found_at, Scanned, told, verdict, RulesKept, Verdict, breaks11, count_after, Turn, spot}
use Rattle.model.specs.declared.Place.{Place}
use Rattle.model.proofs.Answering.{others_within}
use Rattle.model.proofs.Noting.{noted_more, ruled_more, ruled_start, ruled_verdict, closed_more, long_push, told_next}
use Rattle.model.proofs.Reading.{card_of, filed}
use Rattle.model.proofs.LineTurns.{next_line_past, marked_decides, scanned_start, scanned_marked, scanned_more, scanned_lined, refused_spelled, refused_ended, refused_bare}

-- The lines that are no continuation

others_from_push : (k : ℕ) (ls : List Line) (l : Line) → others_from k (ls ++ l ∷ []) ≡ others_from k ls ++ cond (has_tag CONT l) [] ((k + length ls) ∷ [])
others_from_push k [] l = ap (λ n. cond (has_tag CONT l) [] (n ∷ [])) (let z : k ≡ k + 0 = omega arith in z)
others_from_push k (x ∷ ls) l =
    let more = others_from_push (k + 1) ls l ∙ ap (λ n. others_from (k + 1) ls ++ cond (has_tag CONT l) [] (n ∷ [])) (let z : k + 1 + length ls ≡ k + length (x ∷ ls) = omega arith in z) in
    pick (has_tag CONT x) k (others_from (k + 1) (ls ++ l ∷ [])) (others_from (k + 1) ls) (cond (has_tag CONT l) [] ((k + length (x ∷ ls)) ∷ [])) more
  where
    pick : (b : Bool) (k : ℕ) (xs ys zs : List ℕ) → xs ≡ ys ++ zs → cond b xs (k ∷ xs) ≡ cond b ys (k ∷ ys) ++ zs
    pick true k xs ys zs e = e
    pick false k xs ys zs e = ap (λ r. k ∷ r) e

pub others_push : (ps : List Placed) (p : Placed) → others (ps ++ p ∷ []) ≡ others ps ++ cond (has_tag CONT p.line) [] (length ps ∷ [])
others_push ps p = ap (others_from 0) (map_push (λ q. q.line) ps p) ∙ others_from_push 0 (lines_of ps) p.line ∙ ap (λ n. others ps ++ cond (has_tag CONT p.line) [] (n ∷ [])) (let z : 0 + length (lines_of ps) ≡ length ps = omega (arith, length-map ps (λ q. q.line)) in z)

pub others_more : (ps : List Placed) (p : Placed) → has_tag CONT p.line ≡ true → others (ps ++ p ∷ []) ≡ others ps
others_more ps p e = others_push ps p ∙ ap (λ b. others ps ++ cond b [] (length ps ∷ [])) e ∙ append-nil (others ps)

pub others_new : (ps : List Placed) (p : Placed) → has_tag CONT p.line ≡ false → others (ps ++ p ∷ []) ≡ others ps ++ length ps ∷ []
others_new ps p e = others_push ps p ∙ ap (λ b. others ps ++ cond b [] (length ps ∷ [])) e

-- and their cards
pub filed_push : (ps : List Placed) (p : Placed) → filed (ps ++ p ∷ []) ≡ filed ps ++ cond (has_tag CONT p.line) [] (card_of p.byte ∷ [])
filed_push [] p = refl
filed_push (q ∷ ps) p = pick (has_tag CONT q.line) (card_of q.byte) (filed (ps ++ p ∷ [])) (filed ps) (cond (has_tag CONT p.line) [] (card_of p.byte ∷ [])) (filed_push ps p)
  where
    pick : (b : Bool) (k : Card) (xs ys zs : List Card) → xs ≡ ys ++ zs → cond b xs (k ∷ xs) ≡ cond b ys (k ∷ ys) ++ zs
    pick true k xs ys zs e = e
    pick false k xs ys zs e = ap (λ r. k ∷ r) e

pub counted_more : (ps : List Placed) (p : Placed) (count : ℕ) → count ≡ length (others ps) → count_after count (seen_of 0 p.line) ≡ length (others (ps ++ p ∷ []))
counted_more ps p count e = elim (cases_Bool (has_tag CONT p.line)) [
  | inl b ↦ cond-true (has_tag CONT p.line) count (count + 1) b ∙ e ∙ ap length (sym (others_more ps p b))
  | inr b ↦ cond-false (has_tag CONT p.line) count (count + 1) b ∙ ap (λ n. n + 1) e ∙ sym (length_push (others ps) (length ps)) ∙ ap length (sym (others_new ps p b))
]

-- Rule 11

module _ (cards : ℕ) (ps : List Placed) (p : Placed) where
  room_old : (i : ℕ) → i < length ps → Keeps11 cards ps i → Keeps11 cards (ps ++ p ∷ []) i
  room_old i h k n l e = elim (cases_Bool (has_tag CONT p.line)) [
    | inl b ↦ subst (λ os. (m : ℕ) → m < length os → get_or os m 0 ≡ i → m < min cards 65535) (sym (others_more ps p b)) k n l e
    | inr b ↦ subst (λ os. (m : ℕ) → m < length os → get_or os m 0 ≡ i → m < min cards 65535) (sym (others_new ps p b)) (λ m q f. elim (cases_lt m (length (others ps))) [
      | inl r ↦ k m r (sym (get_or_append_left (others ps) (length ps ∷ []) 0 m r) ∙ f)
      | inr r ↦ absurd (omega (arith, get_or_push (others ps) (length ps) 0 m (let z : length (others ps) ≡ m = omega (arith, length_push (others ps) (length ps)) in z)))
    ]) n l e
  ]

  room_back : (i : ℕ) → i < length ps → Keeps11 cards (ps ++ p ∷ []) i → Keeps11 cards ps i
  room_back i h k n l e = k n (omega (arith, ap length (others_push ps p), length-append (others ps) (cond (has_tag CONT p.line) [] (length ps ∷ [])))) (ap (λ os. get_or os n 0) (others_push ps p) ∙ get_or_append_left (others ps) (cond (has_tag CONT p.line) [] (length ps ∷ [])) 0 n l ∙ e)

  room_full : (count : ℕ) → count ≡ length (others ps) → breaks11 cards count (seen_of 0 p.line) ≡ true → Keeps11 cards (ps ++ p ∷ []) (length ps) → ⊥
  room_full count e b k =
      let h = and_parts (not (has_tag CONT p.line)) (not (ltb count (min cards 65535))) b in
      let new = others_new ps p (not-true (has_tag CONT p.line) h.0) in
      let full = ltb-false count (min cards 65535) (not-true (ltb count (min cards 65535)) h.1) in
      let low = k count (omega (arith, ap length new, length_push (others ps) (length ps))) (ap (λ os. get_or os count 0) new ∙ get_or_push (others ps) (length ps) 0 count (sym e)) in
      omega arith

  room_left : (count : ℕ) → count ≡ length (others ps) → breaks11 cards count (seen_of 0 p.line) ≡ false → Keeps11 cards (ps ++ p ∷ []) (length ps)
  room_left count e b n l f = elim (cases_Bool (has_tag CONT p.line)) [
    | inl c ↦
        let r : n < length (others ps) = omega (arith, ap length (others_more ps p c)) in
        absurd (omega (arith, others_within ps n r, ap (λ os. get_or os n 0) (sym (others_more ps p c)) ∙ f))
    | inr c ↦ elim (and_cases (not (has_tag CONT p.line)) (not (ltb count (min cards 65535))) b) [
      | inl q ↦ absurd (Rattle.std.proofs.lemmas.Bool.both_ways (has_tag CONT p.line) c (not-false (has_tag CONT p.line) q))
      | inr q ↦ omega (arith, ltb-true count (min cards 65535) (not-false (ltb count (min cards 65535)) q), ap length (others_new ps p c), length_push (others ps) (length ps))
    ]
  ]

  pub room_more : (count : ℕ) (o : Option Place) → count ≡ length (others ps) → Noted (Keeps11 cards ps) ps o → Noted (Keeps11 cards (ps ++ p ∷ [])) (ps ++ p ∷ []) (note o (breaks11 cards count (seen_of 0 p.line)) (spot (length ps + 1) p.byte))
  room_more count o e h = noted_more (Keeps11 cards ps) (Keeps11 cards (ps ++ p ∷ [])) ps p o (breaks11 cards count (seen_of 0 p.line)) room_old room_back (room_full count e, room_left count e) h

-- The loop

turn_begin : (file : List ℕ) (cards i : ℕ) (o : Last) (exact : Bool) (here : Place) → Scanned file [] i → Turn file cards [] i 0 0 o (notes_with None None None None None None) None exact here
turn_begin file cards i o exact here s = record { scanned = s; numbered = refl; counted = refl; short = omega arith; fewer = omega arith; ruled = ruled_start o; room = λ i h. absurd (omega arith); closed = λ h. absurd (omega arith) }

pub turn_start : (file : List ℕ) (cards i : ℕ) (o : Last) (exact : Bool) (here : Place) (b : Bool) → Clean file → b ≡ is_marked file → i ≡ cond b 3 0 → Turn file cards [] i 0 0 o (notes_with None None None None None None) None exact here
turn_start file cards i o exact here true k e h = turn_begin file cards i o exact here (subst (Scanned file []) (sym h) (scanned_marked file k ((marked_decides file).0 (sym e))))
turn_start file cards i o exact here false k e h = turn_begin file cards i o exact here (subst (Scanned file []) (sym h) (scanned_start file k (not_from_Decides (is_marked file) (marked_decides file) (sym e))))

turn_moved : (file : List ℕ) (cards : ℕ) (ps : List Placed) (i lines count : ℕ) (o : Last) (s : Notes) (over : Option Place) (exact : Bool) (here : Place) (l : Line) (cap level : ℕ) → Turn file cards ps i lines count o s over exact here → line_end file i < length file → parse (front in_line (drop i file)) ≡ Some l → 64 ≤ cap → level ≡ min cap l.level → Turn file cards (ps ++ found_at file i l ∷ []) (next_line file (line_end file i)) (length ps + 1) (count_after count (seen_of level l)) (last_after (length ps) o (seen_of level l)) (notes_after (length ps) i o (seen_of level l) s) (note over (breaks11 cards count (seen_of level l)) (spot (length ps + 1) i)) (closes (seen_of level l)) (spot (length ps + 1) i)
turn_moved file cards ps i lines count o s over exact here l cap level t h is c e =
    let p : Placed = found_at file i l in
    record {
      scanned = scanned_more file ps i l t.scanned h is;
      numbered = sym (long_push ps p);
      counted = counted_more ps p count t.counted;
      short = let a = t.short in let b = t.numbered in omega (arith, next_line_past file i);
      fewer = let a = t.fewer in let b = t.numbered in cond_both (has_tag CONT l) count (count + 1) (λ n. n ≤ length ps + 1) (λ q. omega arith) (λ q. omega arith);
      ruled = ruled_more ps p cap level o s c e t.ruled;
      room = room_more cards ps p count over t.counted t.room;
      closed = λ q. closed_more cap level ps p (omega arith) e;
    }

-- one line more, of which v was seen
pub turn_more : (file : List ℕ) (cards : ℕ) (ps : List Placed) (i lines count : ℕ) (o : Last) (s : Notes) (over : Option Place) (exact : Bool) (here : Place) (l : Line) (cap : ℕ) (v : Seen) → Turn file cards ps i lines count o s over exact here → line_end file i < length file → parse (front in_line (drop i file)) ≡ Some l → 64 ≤ cap → v ≡ seen_of (min cap l.level) l → Turn file cards (ps ++ found_at file i l ∷ []) (next_line file (line_end file i)) (lines + 1) (count_after count v) (last_after lines o v) (notes_after lines i o v s) (note over (breaks11 cards count v) (spot (lines + 1) i)) (closes v) (spot (lines + 1) i)
turn_more file cards ps i lines count o s over exact here l cap v t h is c e =
    let moved = turn_moved file cards ps i lines count o s over exact here l cap (min cap l.level) t h is c refl in
    subst (λ x. Turn file cards (ps ++ found_at file i l ∷ []) (next_line file (line_end file i)) (lines + 1) (count_after count x) (last_after lines o x) (notes_after lines i o x s) (note over (breaks11 cards count x) (spot (lines + 1) i)) (closes x) (spot (lines + 1) i)) (sym e)
    (subst (λ n. Turn file cards (ps ++ found_at file i l ∷ []) (next_line file (line_end file i)) (n + 1) (count_after count (seen_of (min cap l.level) l)) (last_after n o (seen_of (min cap l.level) l)) (notes_after n i o (seen_of (min cap l.level) l) s) (note over (breaks11 cards count (seen_of (min cap l.level) l)) (spot (n + 1) i)) (closes (seen_of (min cap l.level) l)) (spot (n + 1) i)) (sym t.numbered) moved)

-- the same, by what the code has found
pub turn_step : (file : List ℕ) (cards : ℕ) (ps : List Placed) (i lines count : ℕ) (o : Last) (s : Notes) (over : Option Place) (exact : Bool) (here : Place) (l : Line) (cap : ℕ) (v : Seen) (i' lines' count' : ℕ) (o' : Last) (s' : Notes) (over' : Option Place) (exact' : Bool) (here' : Place) → Turn file cards ps i lines count o s over exact here → line_end file i < length file → parse (front in_line (drop i file)) ≡ Some l → 64 ≤ cap → v ≡ seen_of (min cap l.level) l → i' ≡ next_line file (line_end file i) → lines' ≡ lines + 1 → count' ≡ count_after count v → o' ≡ last_after lines o v → s' ≡ notes_after lines i o v s → over' ≡ note over (breaks11 cards count v) (spot (lines + 1) i) → exact' ≡ closes v → here' ≡ (spot (lines + 1) i) → Turn file cards (ps ++ found_at file i l ∷ []) i' lines' count' o' s' over' exact' here'
turn_step file cards ps i lines count o s over exact here l cap v i' lines' count' o' s' over' exact' here' t h is c e ei el ec eo es ev ex eh =
    transport (λ k. Turn file cards (ps ++ found_at file i l ∷ []) (sym ei k) (sym el k) (sym ec k) (sym eo k) (sym es k) (sym ev k) (sym ex k) (sym eh k)) (turn_more file cards ps i lines count o s over exact here l cap v t h is c e)

-- rule 4
pub turn_spelled : (m : Meaning) (file : List ℕ) (cards : ℕ) (ps : List Placed) (i lines count : ℕ) (o : Last) (s : Notes) (over : Option Place) (exact : Bool) (here : Place) → Short file → Clean file → Turn file cards ps i lines count o s over exact here → i < length file → parse (front in_line (drop i file)) ≡ None → Refuses m file cards (fault 4 (lines + 1) i)
turn_spelled m file cards ps i lines count o s over exact here short k t h e = subst (λ n. Refuses m file cards (fault 4 (n + 1) i)) (sym t.numbered) (refused_spelled m file cards ps i short k t.scanned h e)

pub turn_ended : (m : Meaning) (file : List ℕ) (cards : ℕ) (ps : List Placed) (i lines count : ℕ) (o : Last) (s : Notes) (over : Option Place) (exact : Bool) (here : Place) → Short file → Clean file → Turn file cards ps i lines count o s over exact here → i < length file → length file ≤ line_end file i → Refuses m file cards (fault 4 (lines + 1) i)
turn_ended m file cards ps i lines count o s over exact here short k t h e = subst (λ n. Refuses m file cards (fault 4 (n + 1) i)) (sym t.numbered) (refused_ended m file cards ps i short k t.scanned h e)

pub turn_bare : (m : Meaning) (file : List ℕ) (cards : ℕ) (ps : List Placed) (i lines count : ℕ) (o : Last) (s : Notes) (over : Option Place) (exact : Bool) (here : Place) → Short file → Clean file → Turn file cards ps i lines count o s over exact here → length file ≤ i → lines ≡ 0 → Refuses m file cards (fault 4 1 i)
turn_bare m file cards ps i lines count o s over exact here short k t h z =
    let none : ps ≡ [] = Rattle.std.proofs.lemmas.List.nil_from_length ps (sym t.numbered ∙ z) in
    refused_bare m file cards i short k (subst (λ qs. Scanned file qs i) none t.scanned) h

-- the rules 5 to 11
pub turn_lined : (file : List ℕ) (cards : ℕ) (ps : List Placed) (i lines count : ℕ) (o : Last) (s : Notes) (over : Option Place) (exact : Bool) (here : Place) → Turn file cards ps i lines count o s over exact here → length file ≤ i → Lined file ps
turn_lined file cards ps i lines count o s over exact here t h = scanned_lined file ps i t.scanned h

pub turn_verdict : (file : List ℕ) (cards : ℕ) (ps : List Placed) (i lines count : ℕ) (o : Last) (s : Notes) (over : Option Place) (exact : Bool) (here : Place) → Turn file cards ps i lines count o s over exact here → 0 < lines → Verdict 12 cards ps (verdict s exact here (told 11 over None))
turn_verdict file cards ps i lines count o s over exact here t h =
    let some : 0 < length ps = omega (arith, t.numbered) in
    ruled_verdict 12 cards ps o s exact here (told 11 over None) some t.ruled (t.closed some) (λ k. told_next 11 12 room cards ps over None refl k t.room (λ e kept. kept))

pub turn_refused : (m : Meaning) (file : List ℕ) (cards : ℕ) (ps : List Placed) (i lines count : ℕ) (o : Last) (s : Notes) (over : Option Place) (exact : Bool) (here : Place) (f : Fault) → Short file → Clean file → Turn file cards ps i lines count o s over exact here → length file ≤ i → 0 < lines → verdict s exact here (told 11 over None) ≡ Some f → Refuses m file cards f
turn_refused m file cards ps i lines count o s over exact here f short k t h some e = lined ps short k (turn_lined file cards ps i lines count o s over exact here t h) (subst (Verdict 12 cards ps) e (turn_verdict file cards ps i lines count o s over exact here t some))

pub turn_kept : (file : List ℕ) (cards : ℕ) (ps : List Placed) (i lines count : ℕ) (o : Last) (s : Notes) (over : Option Place) (exact : Bool) (here : Place) → Turn file cards ps i lines count o s over exact here → 0 < lines → verdict s exact here (told 11 over None) ≡ None → RulesKept 12 cards ps
turn_kept file cards ps i lines count o s over exact here t some e = subst (Verdict 12 cards ps) e (turn_verdict file cards ps i lines count o s over exact here t some)
