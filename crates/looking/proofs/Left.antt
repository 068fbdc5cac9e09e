-- The lines from a place of a file on, as a cursor comes to them. Assumes nothing.
use Rattle.std.proofs.Common.{◌≡◌, ℕ, zero, suc, ◌+◌, ◌-◌, ◌<◌, ◌≤◌, true, false, cond, ◌⊎◌, List, [], ◌∷◌, ◌++◌, length, get_or, take, drop, Some, None, Option, sym, refl, ap, ◌∙◌, subst, inl, inr, append-nil, arith, length-append, length-drop, length-take}
use Rattle.std.specs.List.{AllByRecursion, prefix_len}
use Rattle.std.proofs.lemmas.List.{drop-drop, drop_at, get_or-drop, take_rest}
use Rattle.std.proofs.lemmas.List.Sums.{prefix_len-le-length}
use Rattle.std.proofs.lemmas.Bool.{cond-true, cond-false, cases_Bool}
use Rattle.std.proofs.lemmas.Bool.Decides.{nat_tests}
use Rattle.model.specs.Datasets.{MARK}
use Rattle.model.specs.Lines.{spell}
use Rattle.model.specs.Scan.{front, after, in_line, parse}
use Rattle.model.specs.Files.{LineEnd, Placed, GoodPlaced, bytes_of, all_bytes, InPlace, Lined, at}
use Rattle.model.specs.Refusals.{Starts, lines_of, byte_at}
use Rattle.model.specs.LineTurns.{is_marked, line_end, is_pair, next_line}
use Rattle.model.proofs.Parts.{Begins}
use Rattle.model.proofs.Options.{never, some_same}
use Rattle.model.proofs.Lining.{Low, lines_start_low}
use Rattle.model.proofs.Cutting.{front_spelled, after_spelled}
use Rattle.model.proofs.Scanning.{parse_complete}
use Rattle.model.proofs.LineTurns.{marked_decides}
use Rattle.model.proofs.Refusing.{Front, lined_front}
use Rattle.lines.specs.declared.steps.Found.{Found}
use Rattle.lines.specs.Shown.{Shows}
use Rattle.lines.specs.Steps.{bytes_at, Comes, NoLineAt}
use Rattle.lines.specs.declared.cursor.Cursor.{Cursor}
use Rattle.lines.specs.Iterating.{StopsAt, GivesNext}
use Rattle.looking.specs.Looking.{LinesFrom}

-- these lines, each good and with its end, are what stands from a byte on
pub record Left (file : List ℕ) (from : ℕ) (rest : List Placed) : Type 0 where
  pub are : drop from file ≡ all_bytes rest
  pub good : AllByRecursion GoodPlaced rest

low_not : (xs : List ℕ) → Begins Low xs → get_or xs 0 0 ≡ 10 → ⊥
low_not [] l e = let z : ◌≡◌ {A = ℕ} 0 10 = e in omega arith
low_not (x ∷ xs) l e = let low = l in omega arith

-- One line

module _ (file : List ℕ) (from : ℕ) (p : Placed) (rest : List Placed) (l : Left file from (p ∷ rest)) where
  begins : drop from file ≡ bytes_of p ++ all_bytes rest
  begins = l.are

  pub left_parse : parse (front in_line (drop from file)) ≡ Some p.line
  left_parse = ap (λ bs. parse (front in_line bs)) begins ∙ ap parse (front_spelled p (all_bytes rest) l.good.0) ∙ parse_complete p.line l.good.0.good

  ends_at : line_end file from ≡ from + length (spell p.line)
  ends_at =
      let bs = drop from file in
      let cut : length (front in_line bs) ≡ length (spell p.line) = ap (λ bs. length (front in_line bs)) begins ∙ ap length (front_spelled p (all_bytes rest) l.good.0) in
      omega (arith, length-take (prefix_len in_line bs) bs, prefix_len-le-length in_line bs)

  behind : drop (line_end file from) file ≡ p.ended ++ all_bytes rest
  behind = sym (drop-drop (prefix_len in_line (drop from file)) from file) ∙ ap (after in_line) begins ∙ after_spelled p (all_bytes rest) l.good.0

  first : (e bs : List ℕ) → drop (line_end file from) file ≡ bs → get_or file (line_end file from) 0 ≡ get_or bs 0 0
  first e bs is = ap (λ n. get_or file n 0) (let z : line_end file from ≡ line_end file from + 0 = omega arith in z) ∙ sym (get_or-drop (line_end file from) file 0 0) ∙ ap (λ xs. get_or xs 0 0) is

  second : (bs : List ℕ) → drop (line_end file from) file ≡ bs → get_or file (line_end file from + 1) 0 ≡ get_or bs 1 0
  second bs is = sym (get_or-drop (line_end file from) file 1 0) ∙ ap (λ xs. get_or xs 1 0) is

  long : length (bytes_of p) ≡ length (spell p.line) + length p.ended
  long = length-append (spell p.line) p.ended

  next_by : LineEnd p.ended → next_line file (line_end file from) ≡ from + length (bytes_of p)
  next_by (inl q) =
      let is : drop (line_end file from) file ≡ 13 ∷ 10 ∷ all_bytes rest = behind ∙ ap (λ e. e ++ all_bytes rest) q in
      let a = first [] (13 ∷ 10 ∷ all_bytes rest) is in
      let b = second (13 ∷ 10 ∷ all_bytes rest) is in
      let two : is_pair file (line_end file from) ≡ true = grind (arith, nat_tests) in
      cond-true (is_pair file (line_end file from)) (line_end file from + 2) (line_end file from + 1) two ∙ omega (arith, ends_at, long, ap length q)
  next_by (inr (inl q)) =
      let is : drop (line_end file from) file ≡ 13 ∷ all_bytes rest = behind ∙ ap (λ e. e ++ all_bytes rest) q in
      let b : get_or file (line_end file from + 1) 0 ≡ get_or (all_bytes rest) 0 0 = second (13 ∷ all_bytes rest) is in
      let apart : get_or file (line_end file from + 1) 0 ≡ 10 → ⊥ = λ e. low_not (all_bytes rest) (lines_start_low rest) (sym b ∙ e) in
      let one : is_pair file (line_end file from) ≡ false = grind (arith, nat_tests) in
      cond-false (is_pair file (line_end file from)) (line_end file from + 2) (line_end file from + 1) one ∙ omega (arith, ends_at, long, ap length q)
  next_by (inr (inr q)) =
      let is : drop (line_end file from) file ≡ 10 ∷ all_bytes rest = behind ∙ ap (λ e. e ++ all_bytes rest) q in
      let a = first [] (10 ∷ all_bytes rest) is in
      let one : is_pair file (line_end file from) ≡ false = grind (arith, nat_tests) in
      cond-false (is_pair file (line_end file from)) (line_end file from + 2) (line_end file from + 1) one ∙ omega (arith, ends_at, long, ap length q)

  pub left_next : next_line file (line_end file from) ≡ from + length (bytes_of p)
  left_next = next_by l.good.0.ends

  some_end : LineEnd p.ended → 0 < length p.ended
  some_end (inl q) = omega (arith, ap length q)
  some_end (inr (inl q)) = omega (arith, ap length q)
  some_end (inr (inr q)) = omega (arith, ap length q)

  pub left_ended : line_end file from < length file
  left_ended = omega (arith, length-drop (line_end file from) file, ap length behind, length-append p.ended (all_bytes rest), some_end l.good.0.ends)

  pub left_rest : Left file (from + length (bytes_of p)) rest
  left_rest = record { are = sym (drop-drop (length (bytes_of p)) from file) ∙ ap (drop (length (bytes_of p))) begins ∙ drop_at (bytes_of p) (all_bytes rest) (length (bytes_of p)) refl; good = l.good.1 }

pub left_none : (file : List ℕ) (from : ℕ) → Left file from [] → length file ≤ from
left_none file from l = omega (arith, length-drop from file, ap length l.are)

pub left_end : (file : List ℕ) (from : ℕ) (rest : List Placed) → Left file from rest → length file ≤ from → rest ≡ []
left_end file from [] l h = refl
left_end file from (p ∷ rest) l h = absurd (omega (arith, left_ended file from p rest l))

-- A cursor there

pub record Came (file : List ℕ) (from next : ℕ) (f : Found) (rest : List Placed) : Type 0 where
  pub line : Placed
  pub more : List Placed
  pub are : rest ≡ line ∷ more
  pub shows : Shows f.line line.line
  pub on : next ≡ from + length (bytes_of line)
  pub left : Left file next more

pub left_comes : (file : List ℕ) (from n next n' : ℕ) (f : Found) (rest : List Placed) → Left file from rest → Comes file from n next n' f → Came file from next f rest
left_comes file from n next n' f [] l c = absurd (let e = c.ended in omega (arith, left_none file from l))
left_comes file from n next n' f (p ∷ rest) l c =
    let same : c.line ≡ p.line = some_same c.line p.line (sym c.spelled ∙ left_parse file from p rest l) in
    let on : next ≡ from + length (bytes_of p) = c.next_at ∙ left_next file from p rest l in
    record {
      line = p;
      more = rest;
      are = refl;
      shows = subst (Shows f.line) same c.shows;
      on = on;
      left = subst (λ k. Left file k rest) (sym on) (left_rest file from p rest l);
    }

pub left_shows : (file : List ℕ) (from n next n' : ℕ) (f : Found) (p : Placed) (rest : List Placed) → Left file from (p ∷ rest) → Comes file from n next n' f → Shows f.line p.line
left_shows file from n next n' f p rest l c = subst (Shows f.line) (some_same c.line p.line (sym c.spelled ∙ left_parse file from p rest l)) c.shows

-- its bytes are its spelling
pub left_bytes : (file : List ℕ) (from : ℕ) (f : Found) (p : Placed) (rest : List Placed) → Left file from (p ∷ rest) → f.bytes.now ≡ bytes_at file from → f.bytes.now ≡ spell p.line
left_bytes file from f p rest l b = b ∙ ap (front in_line) l.are ∙ front_spelled p (all_bytes rest) l.good.0

pub left_goes : (file : List ℕ) (from n next n' : ℕ) (f : Found) (p : Placed) (rest : List Placed) → Left file from (p ∷ rest) → Comes file from n next n' f → Left file next rest
left_goes file from n next n' f p rest l c = subst (λ k. Left file k rest) (sym (c.next_at ∙ left_next file from p rest l)) (left_rest file from p rest l)

pub left_stuck : (file : List ℕ) (from : ℕ) (rest : List Placed) → Left file from rest → NoLineAt file from → ⊥
left_stuck file from [] l (h, q) = omega (arith, left_none file from l)
left_stuck file from (p ∷ rest) l (h, inl q) = never p.line (sym q ∙ left_parse file from p rest l)
left_stuck file from (p ∷ rest) l (h, inr q) = omega (arith, left_ended file from p rest l)

-- where the lines stop, none is left
pub left_stops : (file : List ℕ) (from : ℕ) (rest : List Placed) → Left file from rest → StopsAt file from → rest ≡ []
left_stops file from rest l (inl h) = left_end file from rest l h
left_stops file from rest l (inr n) = absurd (left_stuck file from rest l n)

pub left_more : (file : List ℕ) (from : ℕ) (p : Placed) (rest : List Placed) → Left file from (p ∷ rest) → StopsAt file from → ⊥
left_more file from p rest l (inl h) = let past = left_ended file from p rest l in omega arith
left_more file from p rest l (inr n) = left_stuck file from (p ∷ rest) l n

-- a cursor before a line comes to one, and is then behind it
pub given_some : (s t : Cursor) (r : Option Found) (p : Placed) (rest : List Placed) → Left s.file.now s.at (p ∷ rest) → GivesNext s r t → r ≡ None → ⊥
given_some s t None p rest l (file, stops, stays) e = left_more s.file.now s.at p rest l stops
given_some s t (Some f) p rest l y e = never f (sym e)

pub given_goes : (s t : Cursor) (r : Option Found) (p : Placed) (rest : List Placed) → Left s.file.now s.at (p ∷ rest) → GivesNext s r t → Left t.file.now t.at rest
given_goes s t None p rest l (file, stops, stays) = absurd (left_more s.file.now s.at p rest l stops)
given_goes s t (Some f) p rest l y = subst (λ file. Left file t.at rest) (sym y.file) (left_goes s.file.now s.at s.lines t.at t.lines f p rest l y.comes)

-- The start, and any line

pub left_start : (file : List ℕ) (ps : List Placed) (from : ℕ) → Lined file ps → from ≡ cond (is_marked file) 3 0 → Left file from ps × InPlace from ps
left_start file ps from l e = go f.marked
  where
    f : Front file ps []
    f = lined_front file ps l

    bare : file ≡ f.mark ++ all_bytes ps
    bare = f.are ∙ ap (λ bs. f.mark ++ bs) (append-nil (all_bytes ps))

    go : (f.mark ≡ MARK) ⊎ ((f.mark ≡ []) × (Starts file MARK → ⊥)) → Left file from ps × InPlace from ps
    go (inl q) =
        let is : file ≡ MARK ++ all_bytes ps = bare ∙ ap (λ m. m ++ all_bytes ps) q in
        let three : from ≡ 3 = e ∙ cond-true (is_marked file) 3 0 ((marked_decides file).1 (all_bytes ps, is)) in
        (record { are = ap (λ k. drop k file) three ∙ ap (drop 3) is; good = f.good }, subst (λ k. InPlace k ps) (ap length q ∙ sym three) f.placed)
    go (inr (q, n)) =
        let is : file ≡ all_bytes ps = bare ∙ ap (λ m. m ++ all_bytes ps) q in
        elim (cases_Bool (is_marked file)) [
          | inl t ↦ absurd (n ((marked_decides file).0 t))
          | inr t ↦ let none : from ≡ 0 = e ∙ cond-false (is_marked file) 3 0 t in (record { are = ap (λ k. drop k file) none ∙ is; good = f.good }, subst (λ k. InPlace k ps) (ap length q ∙ sym none) f.placed)
        ]

-- the line number i, with those before and behind it
pub record Cut (ps : List Placed) (i : ℕ) : Type 0 where
  pub before : List Placed
  pub line : Placed
  pub more : List Placed
  pub are : ps ≡ before ++ line ∷ more
  pub counted : length before ≡ i
  pub byte : byte_at ps i ≡ line.byte
  pub is : at (lines_of ps) i ≡ line.line

pub cut : (ps : List Placed) (i : ℕ) → i < length ps → Cut ps i
cut [] i h = absurd (omega arith)
cut (p ∷ ps) zero h = record { before = []; line = p; more = ps; are = refl; counted = refl; byte = refl; is = refl }
cut (p ∷ ps) (suc i) h =
    let c = cut ps i (omega arith) in
    record { before = p ∷ c.before; line = c.line; more = c.more; are = ap (λ qs. p ∷ qs) c.are; counted = ap suc c.counted; byte = c.byte; is = c.is }

left_past : (file : List ℕ) (from : ℕ) (before : List Placed) (p : Placed) (more : List Placed) → Left file from (before ++ p ∷ more) → InPlace from (before ++ p ∷ more) → Left file p.byte (p ∷ more)
left_past file from [] p more l h = subst (λ k. Left file k (p ∷ more)) (sym h.0) l
left_past file from (q ∷ before) p more l h = left_past file (from + length (bytes_of q)) before p more (left_rest file from q (before ++ p ∷ more) l) h.1

pub left_at : (file : List ℕ) (ps : List Placed) (i : ℕ) → Lined file ps → (c : Cut ps i) → Left file c.line.byte (c.line ∷ c.more)
left_at file ps i l c =
    let from = cond (is_marked file) 3 0 in
    let s = left_start file ps from l refl in
    left_past file from c.before c.line c.more (subst (Left file from) c.are s.0) (subst (InPlace from) c.are s.1)

pub cut_within : (ps : List Placed) (i : ℕ) → Cut ps i → i < length ps
cut_within ps i c = let n = c.counted in omega (arith, ap length c.are, length-append c.before (c.line ∷ c.more))

-- the lines from the line number i on
cut_rest : (ps : List Placed) (i : ℕ) (c : Cut ps i) → drop i ps ≡ c.line ∷ c.more
cut_rest ps i c = ap (drop i) c.are ∙ drop_at c.before (c.line ∷ c.more) i c.counted

pub cut_from : (file : List ℕ) (from : ℕ) (ps : List Placed) (i : ℕ) (c : Cut ps i) → Left file from (c.line ∷ c.more) → LinesFrom file from (drop i ps)
cut_from file from ps i c l = subst (LinesFrom file from) (sym (cut_rest ps i c)) (l.are, l.good)

pub cut_left : (file : List ℕ) (from : ℕ) (ps : List Placed) (i : ℕ) (c : Cut ps i) → LinesFrom file from (drop i ps) → Left file from (c.line ∷ c.more)
cut_left file from ps i c h = let (are, good) = subst (LinesFrom file from) (cut_rest ps i c) h in record { are = are; good = good }

-- The rest of a file as a file

pub left_drop : (file : List ℕ) (from : ℕ) (rest : List Placed) → Left file from rest → Left (drop from file) 0 rest
left_drop file from rest l = record { are = l.are; good = l.good }

low_unmarked : (xs : List ℕ) → Begins Low xs → is_marked xs ≡ false
low_unmarked [] l = refl
low_unmarked (x ∷ xs) l = let low = l in grind (arith, nat_tests)

pub left_unmarked : (file : List ℕ) (rest : List Placed) → Left file 0 rest → is_marked file ≡ false
left_unmarked file rest l = ap is_marked l.are ∙ low_unmarked (all_bytes rest) (lines_start_low rest)

-- where a cursor over the file from a line on starts
pub left_here : (file : List ℕ) (ps : List Placed) (i byte : ℕ) (part : List ℕ) (from : ℕ) → Lined file ps → (c : Cut ps i) → byte_at ps i ≡ byte → part ≡ take (length file - byte) (drop byte file) → from ≡ cond (is_marked (take (length file - byte) (drop byte file))) 3 0 → Left part from (c.line ∷ c.more)
left_here file ps i byte part from l c e is start =
    let here : c.line.byte ≡ byte = sym c.byte ∙ e in
    let whole : part ≡ drop byte file = is ∙ take_rest file byte in
    let left : Left part 0 (c.line ∷ c.more) = subst (λ x. Left x 0 (c.line ∷ c.more)) (sym whole) (left_drop file byte (c.line ∷ c.more) (subst (λ k. Left file k (c.line ∷ c.more)) here (left_at file ps i l c))) in
    subst (λ k. Left part k (c.line ∷ c.more)) (sym (start ∙ ap (λ x. cond (is_marked x) 3 0) (sym is) ∙ cond-false (is_marked part) 3 0 (left_unmarked part (c.line ∷ c.more) left))) left

-- by what the cursor's file is
pub other_comes : (file other : List ℕ) (from n next n' : ℕ) (f : Found) → other ≡ file → Comes other from n next n' f → Comes file from n next n' f
other_comes file other from n next n' f e c = subst (λ x. Comes x from n next n' f) e c
