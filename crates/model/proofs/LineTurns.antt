-- One turn of the loop that scans a file's lines, its start and its ends. Assumes nothing.
use Rattle.std.proofs.Common.{◌≡◌, ℕ, ◌+◌, ◌-◌, ◌<◌, ◌≤◌, Bool, true, false, cond, ◌&&◌, eqb, ◌⊎◌, List, [], ◌∷◌, ◌++◌, length, get_or, take, drop, Some, None, IsUtf8, Decides, sym, refl, ap, ◌∙◌, subst, inl, inr, append_assoc, append-nil, arith, length-append, length-drop}
use lib.Utf8.{encode}
use Rattle.std.specs.List.{prefix_len}
use Rattle.std.proofs.ByRecursion.{All-push}
use Rattle.std.proofs.lemmas.List.{drop_all, drop-drop, drop_more, get_or_past}
use Rattle.std.proofs.lemmas.List.Sums.{prefix_len-drop_yes, prefix_len-drop_no, prefix_len-drop_all}
use Rattle.std.proofs.lemmas.Bool.{and_parts, and_cases, cases_Bool, cases_lt, cond_both, eqb-true, eqb-false}
use Rattle.std.proofs.lemmas.Str.{IsUtf8-past_char, IsUtf8-encode}
use Rattle.std.proofs.lemmas.Bool.Decides.{Decides-and, Decides-eqb, Decides-like}
use Rattle.model.specs.Characters.{Clean}
use Rattle.model.specs.Lines.{Line, GoodLine, spell}
use Rattle.model.specs.Scan.{front, after, parse, in_line}
use Rattle.model.specs.Datasets.{MARK}
use Rattle.model.specs.Books.{Meaning}
use Rattle.model.specs.Files.{LineEnd, Mark, Placed, GoodPlaced, bytes_of, all_bytes, InPlace, Lined}
use Rattle.model.specs.Refusals.{fault, Short, Starts, NoLine, EndsWhole, Unlined, Refuses, unlined}
use Rattle.model.specs.LineTurns.{Marked, is_marked, line_end, is_pair, next_line, placed_at, found_at, Scanned}
use Rattle.model.proofs.Spelling.{End}
use Rattle.model.proofs.Lining.{not_line}
use Rattle.model.proofs.Scanning.{clean_tail}
use Rattle.model.proofs.Cutting.{clean_parts, line_found, no_line_spelled, no_line_ended}
use Rattle.model.proofs.Clearing.{clean_utf8}

-- One line more behind the others

pub all_bytes_push : (ps : List Placed) (p : Placed) → all_bytes (ps ++ p ∷ []) ≡ all_bytes ps ++ bytes_of p
all_bytes_push [] p = append-nil (bytes_of p)
all_bytes_push (q ∷ ps) p = ap (λ bs. bytes_of q ++ bs) (all_bytes_push ps p) ∙ sym (append_assoc (bytes_of q) (all_bytes ps) (bytes_of p))

pub all_bytes_then : (ps : List Placed) (p : Placed) (rest : List ℕ) → all_bytes (ps ++ p ∷ []) ++ rest ≡ all_bytes ps ++ (bytes_of p ++ rest)
all_bytes_then ps p rest = ap (λ bs. bs ++ rest) (all_bytes_push ps p) ∙ append_assoc (all_bytes ps) (bytes_of p) rest

pub placed_push : (at : ℕ) (ps : List Placed) (p : Placed) → InPlace at ps → p.byte ≡ at + length (all_bytes ps) → InPlace at (ps ++ p ∷ [])
placed_push at [] p h e = (omega arith, tt)
placed_push at (q ∷ ps) p h e = (h.0, placed_push (at + length (bytes_of q)) ps p h.1 (omega (arith, length-append (bytes_of q) (all_bytes ps))))

abbrev CutEnd : List ℕ → List ℕ → Type 0
CutEnd e x = e ≡ 13 ∷ [] → Starts x (10 ∷ []) → ⊥

whole_push : (file : List ℕ) (ps : List Placed) (p : Placed) (rest : List ℕ) → EndsWhole file ps (bytes_of p ++ rest) → CutEnd p.ended rest → EndsWhole file (ps ++ p ∷ []) rest
whole_push file [] p rest w c = (c, tt)
whole_push file (q ∷ ps) p rest w c = (λ e s. w.0 e (s.0, sym (all_bytes_then ps p rest) ∙ s.1), whole_push file ps p rest w.1 c)

-- The start

start : (file mark : List ℕ) → Marked file mark → file ≡ mark ++ drop (length mark) file → length mark ≤ length file → Clean (drop (length mark) file) → Scanned file [] (length mark)
start file mark m e h k = record { mark = mark; marked = m; within = h; are = e; here = omega arith; good = tt; placed = tt; whole = tt; clean = k }

pub scanned_start : (file : List ℕ) → Clean file → (Starts file MARK → ⊥) → Scanned file [] 0
scanned_start file k h = start file [] (inr (refl, h)) refl (omega arith) k

mark_char : MARK ≡ encode 65279
unfolding encode
mark_char = refl

mark_clean : (rest : List ℕ) → Clean (MARK ++ rest) → Clean rest
mark_clean rest k =
    let u : IsUtf8 (MARK ++ rest) = clean_utf8 (MARK ++ rest) k in
    (clean_parts MARK rest k (subst IsUtf8 (sym mark_char) (IsUtf8-encode 65279 refl)) (IsUtf8-past_char (MARK ++ rest) rest 65279 u (ap (λ m. m ++ rest) mark_char))).1

pub scanned_marked : (file : List ℕ) → Clean file → Starts file MARK → Scanned file [] 3
scanned_marked file k s =
    let there : drop 3 file ≡ s.0 = ap (drop 3) s.1 in
    start file MARK (inl refl) (s.1 ∙ ap (λ r. MARK ++ r) (sym there)) (omega (arith, ap length s.1)) (subst Clean (sym there) (mark_clean s.0 (subst Clean s.1 k)))

-- whether one begins it
starts_marked : (file : List ℕ) → get_or file 0 0 ≡ 0xEF → get_or file 1 0 ≡ 0xBB → get_or file 2 0 ≡ 0xBF → Starts file MARK
starts_marked [] a b c = absurd (let z : ◌≡◌ {A = ℕ} 0 0xEF = a in omega arith)
starts_marked (x ∷ []) a b c = absurd (let z : ◌≡◌ {A = ℕ} 0 0xBB = b in omega arith)
starts_marked (x ∷ y ∷ []) a b c = absurd (let z : ◌≡◌ {A = ℕ} 0 0xBF = c in omega arith)
starts_marked (x ∷ y ∷ z ∷ rest) a b c = (rest, λ i. a i ∷ b i ∷ c i ∷ rest)

pub marked_decides : (file : List ℕ) → Decides (is_marked file) (Starts file MARK)
marked_decides file = Decides-like (is_marked file)
    (λ h. starts_marked file h.0 h.1.0 h.1.1)
    (λ s. (ap (λ f. get_or f 0 0) s.1, (ap (λ f. get_or f 1 0) s.1, ap (λ f. get_or f 2 0) s.1)))
    (Decides-and (eqb (get_or file 0 0) 0xEF) (eqb (get_or file 1 0) 0xBB && eqb (get_or file 2 0) 0xBF) (Decides-eqb (get_or file 0 0) 0xEF) (Decides-and (eqb (get_or file 1 0) 0xBB) (eqb (get_or file 2 0) 0xBF) (Decides-eqb (get_or file 1 0) 0xBB) (Decides-eqb (get_or file 2 0) 0xBF)))

-- The search for a line's end

pub line_end_more : (file : List ℕ) (k : ℕ) → k < length file → in_line (get_or file k 0) ≡ true → line_end file k ≡ line_end file (k + 1)
line_end_more file k h e = omega (arith, prefix_len-drop_yes in_line file k 0 h e)

pub line_end_here : (file : List ℕ) (k : ℕ) → k < length file → in_line (get_or file k 0) ≡ false → line_end file k ≡ k
line_end_here file k h e = omega (arith, prefix_len-drop_no in_line file k 0 h e)

pub line_end_past : (file : List ℕ) (k : ℕ) → length file ≤ k → line_end file k ≡ k
line_end_past file k h = omega (arith, prefix_len-drop_all in_line file k h)

pub line_bytes : (file : List ℕ) (i : ℕ) → front in_line (drop i file) ≡ take (line_end file i - i) (drop i file)
line_bytes file i = ap (λ n. take n (drop i file)) (let e : prefix_len in_line (drop i file) ≡ line_end file i - i = omega arith in e)

-- the loop over the lines goes on
pub next_line_past : (file : List ℕ) (i : ℕ) → i < next_line file (line_end file i)
next_line_past file i = cond_both (is_pair file (line_end file i)) (line_end file i + 2) (line_end file i + 1) (λ n. i < n) (λ e. omega arith) (λ e. omega arith)

-- One more line

next : (file : List ℕ) (ps : List Placed) (i : ℕ) (p : Placed) (j : ℕ) → Scanned file ps i → GoodPlaced p → p.byte ≡ i → drop i file ≡ bytes_of p ++ drop j file → CutEnd p.ended (drop j file) → Clean (drop j file) → j ≤ length file → j ≡ i + length (bytes_of p) → Scanned file (ps ++ p ∷ []) j
next file ps i p j s g at e c k within here = record {
  mark = s.mark;
  marked = s.marked;
  within = within;
  are = s.are ∙ ap (λ r. s.mark ++ r) (ap (λ r. all_bytes ps ++ r) e ∙ sym (all_bytes_then ps p (drop j file)));
  here = let was = s.here in omega (arith, ap length (all_bytes_push ps p), length-append (all_bytes ps) (bytes_of p));
  good = All-push GoodPlaced ps p s.good g;
  placed = placed_push (length s.mark) ps p s.placed (at ∙ s.here);
  whole = whole_push file ps p (drop j file) (subst (EndsWhole file ps) e s.whole) c;
  clean = k;
}

single_end : (c : ℕ) → End c → LineEnd (c ∷ [])
single_end c (inl e) = inr (inr (λ i. e i ∷ []))
single_end c (inr e) = inr (inl (λ i. e i ∷ []))

single_cut : (c : ℕ) (x : List ℕ) → (c ≡ 13 → get_or x 0 0 ≡ 10 → ⊥) → CutEnd (c ∷ []) x
single_cut c x h e s = h (ap (λ l. get_or l 0 0) e) (ap (λ l. get_or l 0 0) s.1)

end_after : (file : List ℕ) (i : ℕ) → line_end file i < length file → after in_line (drop i file) ≡ get_or file (line_end file i) 0 ∷ drop (line_end file i + 1) file
end_after file i h = drop-drop (prefix_len in_line (drop i file)) i file ∙ drop_more file (line_end file i) 0 h

getD_first : (file : List ℕ) (e : ℕ) → e + 1 < length file → get_or (drop (e + 1) file) 0 0 ≡ get_or file (e + 1) 0
getD_first file e h = ap (λ l. get_or l 0 0) (drop_more file (e + 1) 0 h)

drop_first : (file : List ℕ) (e : ℕ) → get_or (drop (e + 1) file) 0 0 ≡ 10 → get_or file (e + 1) 0 ≡ 10
drop_first file e h = elim (cases_lt (e + 1) (length file)) [
  | inl l ↦ sym (getD_first file e l) ∙ h
  | inr l ↦ absurd (let z : ◌≡◌ {A = ℕ} 0 10 = ap (λ x. get_or x 0 0) (sym (drop_all (e + 1) file l)) ∙ h in omega arith)
]

not_past : (file : List ℕ) (k c : ℕ) → 0 < c → get_or file k 0 ≡ c → k < length file
not_past file k c h e = elim (cases_lt k (length file)) [
  | inl l ↦ l
  | inr l ↦ absurd (omega (arith, get_or_past file k 0 l))
]

spelled_length : (file : List ℕ) (i : ℕ) (l : Line) (c : ℕ) → i ≤ length file → line_end file i < length file → spell l ++ c ∷ drop (line_end file i + 1) file ≡ drop i file → i + length (spell l) ≡ line_end file i
spelled_length file i l c w h e =
    omega (arith, ap length e, length-append (spell l) (c ∷ drop (line_end file i + 1) file), length-drop (line_end file i + 1) file, length-drop i file)

abbrev Ends : List ℕ → List Placed → ℕ → Line → Bool → Type 0
Ends file ps i l b = Scanned file (ps ++ placed_at i l (cond b (13 ∷ 10 ∷ []) (get_or file (line_end file i) 0 ∷ [])) ∷ []) (cond b (line_end file i + 2) (line_end file i + 1))

-- the line up to the next line end is one, and its end is taken whole
pub scanned_more : (file : List ℕ) (ps : List Placed) (i : ℕ) (l : Line) → Scanned file ps i → line_end file i < length file → parse (front in_line (drop i file)) ≡ Some l → Scanned file (ps ++ found_at file i l ∷ []) (next_line file (line_end file i))
scanned_more file ps i l s h is = elim (cases_Bool (is_pair file e)) [
  | inl b ↦ subst (Ends file ps i l) (sym b) (pair b)
  | inr b ↦ subst (Ends file ps i l) (sym b) (lone b)
]
  where
    e : ℕ
    e = line_end file i

    c : ℕ
    c = get_or file e 0

    f : (spell l ++ c ∷ drop (e + 1) file ≡ drop i file) × GoodLine l × End c × Clean (drop (e + 1) file)
    f = line_found (drop i file) c (drop (e + 1) file) l s.clean (end_after file i h) is

    long : i + length (spell l) ≡ e
    long = spelled_length file i l c s.within h f.0

    pair : is_pair file e ≡ true → Ends file ps i l true
    pair b =
        let t = and_parts (eqb c 13) (eqb (get_or file (e + 1) 0) 10) b in
        let cr : c ≡ 13 = eqb-true c 13 t.0 in
        let lf : get_or file (e + 1) 0 ≡ 10 = eqb-true (get_or file (e + 1) 0) 10 t.1 in
        let more : e + 1 < length file = not_past file (e + 1) 10 (omega arith) lf in
        let on : e + 1 + 1 ≡ e + 2 = omega arith in
        let two : drop (e + 1) file ≡ 10 ∷ drop (e + 2) file = drop_more file (e + 1) 0 more ∙ (λ k. lf k ∷ drop (on k) file) in
        next file ps i (placed_at i l (13 ∷ 10 ∷ [])) (e + 2) s (record { good = f.1; ends = inl refl }) refl (sym f.0 ∙ (λ k. spell l ++ cr k ∷ two k) ∙ sym (append_assoc (spell l) (13 ∷ 10 ∷ []) (drop (e + 2) file))) (λ q t. omega (arith, ap length q)) (clean_tail 10 (drop (e + 2) file) (omega arith) (subst Clean two f.3)) (omega arith) (omega (arith, long, length-append (spell l) (13 ∷ 10 ∷ [])))

    lone : is_pair file e ≡ false → Ends file ps i l false
    lone b =
        let apart : c ≡ 13 → get_or (drop (e + 1) file) 0 0 ≡ 10 → ⊥ = λ x y. elim (and_cases (eqb c 13) (eqb (get_or file (e + 1) 0) 10) b) [
          | inl q ↦ eqb-false c 13 q x
          | inr q ↦ eqb-false (get_or file (e + 1) 0) 10 q (drop_first file e y)
        ] in
        next file ps i (placed_at i l (c ∷ [])) (e + 1) s (record { good = f.1; ends = single_end c f.2 }) refl (sym f.0 ∙ sym (append_assoc (spell l) (c ∷ []) (drop (e + 1) file))) (single_cut c (drop (e + 1) file) apart) f.3 (omega arith) (omega (arith, long, length-append (spell l) (c ∷ [])))

-- The ends

-- no byte is left
pub scanned_lined : (file : List ℕ) (ps : List Placed) (i : ℕ) → Scanned file ps i → length file ≤ i → Lined file ps
scanned_lined file ps i s h =
    let m : Mark s.mark = elim s.marked [ inl e ↦ inr e | inr e ↦ inl e.0 ] in
    record { mark = s.mark; marked = m; are = s.are ∙ ap (λ r. s.mark ++ r) (ap (λ r. all_bytes ps ++ r) (drop_all i file h) ∙ append-nil (all_bytes ps)); good = s.good; placed = s.placed }

pub scanned_unlined : (file : List ℕ) (ps : List Placed) (i : ℕ) → Scanned file ps i → NoLine (drop i file) → (i < length file) ⊎ (length ps ≡ 0) → Unlined file ps
scanned_unlined file ps i s n w =
    let wrong : (0 < length (drop i file)) ⊎ (length ps ≡ 0) = elim w [ inl h ↦ inl (omega (arith, length-drop i file)) | inr h ↦ inr h ] in
    record { mark = s.mark; marked = s.marked; rest = drop i file; are = s.are ∙ sym (append_assoc s.mark (all_bytes ps) (drop i file)); good = s.good; placed = s.placed; whole = s.whole; ends = n; wrong = wrong }

refused : (m : Meaning) (file : List ℕ) (cards : ℕ) (ps : List Placed) (i : ℕ) → Short file → Clean file → Scanned file ps i → NoLine (drop i file) → (i < length file) ⊎ (length ps ≡ 0) → Refuses m file cards (fault 4 (length ps + 1) i)
unfolding scanned_unlined
refused m file cards ps i short k s n w = unlined ps short k (scanned_unlined file ps i s n w) (ap (fault 4 (length ps + 1)) s.here)

-- what is left up to the next line end spells no line
pub refused_spelled : (m : Meaning) (file : List ℕ) (cards : ℕ) (ps : List Placed) (i : ℕ) → Short file → Clean file → Scanned file ps i → i < length file → parse (front in_line (drop i file)) ≡ None → Refuses m file cards (fault 4 (length ps + 1) i)
refused_spelled m file cards ps i short k s h e = refused m file cards ps i short k s (no_line_spelled (drop i file) e) (inl h)

-- no line end is left
pub refused_ended : (m : Meaning) (file : List ℕ) (cards : ℕ) (ps : List Placed) (i : ℕ) → Short file → Clean file → Scanned file ps i → i < length file → length file ≤ line_end file i → Refuses m file cards (fault 4 (length ps + 1) i)
refused_ended m file cards ps i short k s h e = refused m file cards ps i short k s (no_line_ended (drop i file) (drop-drop (prefix_len in_line (drop i file)) i file ∙ drop_all (line_end file i) file e)) (inl h)

-- there is nothing but a mark
pub refused_bare : (m : Meaning) (file : List ℕ) (cards : ℕ) (i : ℕ) → Short file → Clean file → Scanned file [] i → length file ≤ i → Refuses m file cards (fault 4 1 i)
refused_bare m file cards i short k s h = refused m file cards [] i short k s (record { none = λ p g t. not_line p t.0 (sym (drop_all i file h) ∙ t.1) }) (inr refl)
