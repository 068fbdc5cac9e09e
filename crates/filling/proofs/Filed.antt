-- Cards for the lines of a file, one line after the other. Assumes nothing.
use Rattle.std.proofs.Common.{◌≡◌, ℕ, zero, suc, replicate, length-drop, ◌+◌, ◌-◌, ◌<◌, ◌≤◌, min, Bool, true, false, cond, List, [], ◌∷◌, ◌++◌, map, length, get_or, take, drop, set, Some, None, sym, refl, ap, ◌∙◌, subst, inl, inr, append_assoc, append-nil, arith, length-append}
use mathlib.Core.List.{map-append}
use lib.ListN.{length-map}
use Rattle.std.specs.Str.{bytes_eq}
use Rattle.std.proofs.lemmas.Slice.Eq.{bytes_eq-Decides}
use Rattle.std.proofs.lemmas.List.{take_min, take_all, drop_all, drop_more, set_at, get_or_at, length_push}
use Rattle.std.proofs.lemmas.Bool.{cases_lt, cases_Bool, cond-false}
use Rattle.model.specs.declared.Card.{Card}
use Rattle.model.specs.declared.Place.{Place}
use Rattle.model.specs.Lines.{Line}
use Rattle.model.specs.Datasets.{CONT}
use Rattle.model.specs.Files.{Placed, Lined, InPlace}
use Rattle.model.specs.Cards.{blank, Blanks}
use Rattle.model.specs.Refusals.{First, lines_of, byte_at, others_from, others, Keeps11}
use Rattle.model.specs.LineTurns.{Noted, is_marked, has_tag, spot}
use Rattle.model.proofs.Index.{places_rise}
use Rattle.model.proofs.Reading.{filed, filed_others, length_filed, card_of}
use Rattle.model.proofs.Scans.{filed_push}
use Rattle.lines.specs.declared.steps.Found.{Found}
use Rattle.lines.specs.Steps.{Comes}
use Rattle.filling.specs.Filling.{card_at, BlankFrom, Filled, Puts}
use Rattle.lines.specs.Iterating.{StopsAt}
use Rattle.looking.proofs.Left.{Left, left_start, left_comes, left_stops}

-- Blanks

so_many : (n : ℕ) → Blanks (replicate n blank)
so_many zero = tt
so_many (suc n) = (refl, so_many n)

-- the cards from `from` on made blank, where there are so many
pub blanked : (from at n : ℕ) (cards new : List Card) → at ≡ min from (length cards) → new ≡ replicate n blank → BlankFrom from cards (take at cards ++ (new ++ drop (length cards - at) (drop at cards)))
blanked from at n cards new e is = record {
  blanks = new;
  are =
      ap (λ k. take k cards ++ (new ++ drop (length cards - at) (drop at cards))) e ∙ ap (λ xs. xs ++ (new ++ drop (length cards - at) (drop at cards))) (take_min from cards)
      ∙ ap (λ xs. take from cards ++ xs) (ap (λ xs. new ++ xs) (drop_all (length cards - at) (drop at cards) (omega (arith, length-drop at cards))) ∙ append-nil new);
  rest_blank = subst Blanks (sym is) (so_many n);
}

pub all_blank : (cards out : List Card) → BlankFrom 0 cards out → Blanks out
all_blank cards out b = subst Blanks (sym b.are) b.rest_blank

-- The loop over the lines

pub record Filling (file : List ℕ) (ps : List Placed) (cards : List Card) (from lines count : ℕ) (out : List Card) : Type 0 where
  pub before : List Placed
  pub rest : List Placed
  pub are : ps ≡ before ++ rest
  pub left : Left file from rest
  pub placed : InPlace from rest
  pub numbered : lines ≡ length before
  pub counted : count ≡ length (filed before)
  pub filled : out ≡ filed before ++ drop count cards
  pub low : count ≤ min (length cards) 65535

pub filling_start : (file : List ℕ) (ps : List Placed) (cards : List Card) (from lines : ℕ) → Lined file ps → from ≡ cond (is_marked file) 3 0 → lines ≡ 0 → Filling file ps cards from lines 0 cards
filling_start file ps cards from lines l e z =
    let s = left_start file ps from l e in
    record { before = []; rest = ps; are = refl; left = s.0; placed = s.1; numbered = z; counted = refl; filled = refl; low = omega arith }

continues : (p : Placed) → p.line.tag ≡ CONT → has_tag CONT p.line ≡ true
continues p e = (bytes_eq-Decides p.line.tag CONT).1 e

other : (p : Placed) → (p.line.tag ≡ CONT → ⊥) → has_tag CONT p.line ≡ false
other p h = elim (cases_Bool (has_tag CONT p.line)) [ inl e ↦ absurd (h ((bytes_eq-Decides p.line.tag CONT).0 e)) | inr e ↦ e ]

pub filed_passed : (before : List Placed) (p : Placed) → p.line.tag ≡ CONT → filed (before ++ p ∷ []) ≡ filed before
filed_passed before p e = filed_push before p ∙ ap (λ b. filed before ++ cond b [] (card_of p.byte ∷ [])) (continues p e) ∙ append-nil (filed before)

pub filed_put : (before : List Placed) (p : Placed) → (p.line.tag ≡ CONT → ⊥) → filed (before ++ p ∷ []) ≡ filed before ++ card_of p.byte ∷ []
filed_put before p h = filed_push before p ∙ ap (λ b. filed before ++ cond b [] (card_of p.byte ∷ [])) (other p h)

pub filling_more : (file : List ℕ) (ps : List Placed) (cards : List Card) (from lines count : ℕ) (out : List Card) (f : Found) (next lines' count' : ℕ) (out' : List Card) → length out ≡ length cards → Filling file ps cards from lines count out → Comes file from lines next lines' f → Puts f count out (Some count') out' → Filling file ps cards next lines' count' out'
filling_more file ps cards from lines count out f next lines' count' out' same g c (inl (tag, n, o)) =
    let w = left_comes file from lines next lines' f g.rest g.left c in
    let cont : w.line.line.tag ≡ CONT = sym w.shows.tag ∙ tag in
    let place = subst (InPlace from) w.are g.placed in
    let kept = filed_passed g.before w.line cont in
    let num = g.numbered in
    let now = c.next_number in
    let low = g.low in
    record {
      before = g.before ++ w.line ∷ [];
      rest = w.more;
      are = g.are ∙ ap (λ qs. g.before ++ qs) w.are ∙ sym (append_assoc g.before (w.line ∷ []) w.more);
      left = w.left;
      placed = subst (λ k. InPlace k w.more) (sym w.on) place.1;
      numbered = omega (arith, length_push g.before w.line);
      counted = n ∙ g.counted ∙ ap length (sym kept);
      filled = o ∙ g.filled ∙ (λ i. sym kept i ++ drop (sym n i) cards);
      low = omega arith;
    }
filling_more file ps cards from lines count out f next lines' count' out' same g c (inr (tag, room, n, o)) =
    let w = left_comes file from lines next lines' f g.rest g.left c in
    let apart : w.line.line.tag ≡ CONT → ⊥ = λ e. tag (w.shows.tag ∙ e) in
    let place = subst (InPlace from) w.are g.placed in
    let put = filed_put g.before w.line apart in
    let num = g.numbered in
    let now = c.next_number in
    let count_is = g.counted in
    let byte : f.byte ≡ w.line.byte = c.byte ∙ sym place.0 in
    let fit : count < length cards = omega arith in
    record {
      before = g.before ++ w.line ∷ [];
      rest = w.more;
      are = g.are ∙ ap (λ qs. g.before ++ qs) w.are ∙ sym (append_assoc g.before (w.line ∷ []) w.more);
      left = w.left;
      placed = subst (λ k. InPlace k w.more) (sym w.on) place.1;
      numbered = omega (arith, length_push g.before w.line);
      counted = omega (arith, ap length put, length_push (filed g.before) (card_of w.line.byte));
      filled = o ∙ ap (λ xs. set xs count (card_at f.byte)) (g.filled ∙ ap (λ xs. filed g.before ++ xs) (drop_more cards count blank fit)) ∙ set_at (filed g.before) (get_or cards count blank) (drop (count + 1) cards) (card_at f.byte) count (sym count_is) ∙ (λ i. filed g.before ++ card_of (byte i) ∷ drop (sym n i) cards) ∙ sym (append_assoc (filed g.before) (card_of w.line.byte ∷ []) (drop count' cards)) ∙ ap (λ xs. xs ++ drop count' cards) (sym put);
      low = omega arith;
    }

-- the end

pub filling_done : (file : List ℕ) (ps : List Placed) (cards : List Card) (from lines count : ℕ) (out last : List Card) → StopsAt file from → Filling file ps cards from lines count out → BlankFrom count out last → Filled (length cards) count last ps
filling_done file ps cards from lines count out last end g b =
    let none = left_stops file from g.rest g.left end in
    let all : ps ≡ g.before = g.are ∙ ap (λ qs. g.before ++ qs) none ∙ append-nil g.before in
    let filed_is : filed ps ≡ filed g.before = ap filed all in
    let count_is = g.counted in
    let low = g.low in
    let many : count ≡ length (others ps) = g.counted ∙ sym (ap length filed_is) ∙ length_filed ps in
    let front : take count out ≡ filed g.before = ap (take count) g.filled ∙ Rattle.std.proofs.lemmas.List.take_at (filed g.before) (drop count cards) count (sym count_is) in
    record {
      kept = λ i h k kl e. omega arith;
      counted = many;
      blanks = b.blanks;
      are = b.are ∙ ap (λ xs. xs ++ b.blanks) (front ∙ sym filed_is ∙ sym (filed_others ps));
      rest_blank = b.rest_blank;
    }

-- no card left

others_append : (n : ℕ) (ls ms : List Line) → others_from n (ls ++ ms) ≡ others_from n ls ++ others_from (n + length ls) ms
others_append n [] ms = ap (λ k. others_from k ms) (let z : n ≡ n + 0 = omega arith in z)
others_append n (l ∷ ls) ms =
    let more = others_append (n + 1) ls ms ∙ ap (λ k. others_from (n + 1) ls ++ others_from k ms) (let z : n + 1 + length ls ≡ n + length (l ∷ ls) = omega arith in z) in
    pick (bytes_eq l.tag CONT) n (others_from (n + 1) (ls ++ ms)) (others_from (n + 1) ls) (others_from (n + length (l ∷ ls)) ms) more
  where
    pick : (b : Bool) (k : ℕ) (xs ys zs : List ℕ) → xs ≡ ys ++ zs → cond b xs (k ∷ xs) ≡ cond b ys (k ∷ ys) ++ zs
    pick true k xs ys zs e = e
    pick false k xs ys zs e = ap (λ r. k ∷ r) e

-- the card of a line behind others
pub others_at : (before : List Placed) (p : Placed) (more : List Placed) → (p.line.tag ≡ CONT → ⊥) → (tail : List ℕ) × (others (before ++ p ∷ more) ≡ others before ++ length before ∷ tail)
others_at before p more h =
    let n = length before in
    let long : 0 + length (lines_of before) ≡ n = omega (arith, length-map before (λ q. q.line)) in
    (others_from (n + 1) (lines_of more), ap (others_from 0) (map-append (λ q. q.line) before (p ∷ more)) ∙ others_append 0 (lines_of before) (lines_of (p ∷ more)) ∙ ap (λ k. others before ++ others_from k (lines_of (p ∷ more))) long ∙ ap (λ xs. others before ++ xs) (cond-false (bytes_eq p.line.tag CONT) (others_from (n + 1) (lines_of more)) (n ∷ others_from (n + 1) (lines_of more)) (other p h)))

full : (room : ℕ) (before : List Placed) (p : Placed) (more : List Placed) → (p.line.tag ≡ CONT → ⊥) → min room 65535 ≤ length (others before) → length (others before) ≤ min room 65535 → First (Keeps11 room (before ++ p ∷ more)) (length (before ++ p ∷ more)) (length before)
full room before p more h over under =
    let ps = before ++ p ∷ more in
    let s = others_at before p more h in
    let k = length (others before) in
    let there : k < length (others ps) = omega (arith, ap length s.1, length-append (others before) (length before ∷ s.0)) in
    let here : get_or (others ps) k 0 ≡ length before = ap (λ os. get_or os k 0) s.1 ∙ get_or_at (others before) (length before) s.0 0 k refl in
    record {
      within = omega (arith, length-append before (p ∷ more));
      breaks = λ keeps. let low = keeps k there here in omega arith;
      before = λ j lt m ml e. elim (cases_lt m k) [
        | inl q ↦ omega arith
        | inr q ↦ absurd (elim (cases_lt k m) [
          | inl r ↦ omega (arith, places_rise ps k m r ml)
          | inr r ↦ let same : m ≡ k = omega arith in omega (arith, ap (λ i. get_or (others ps) i 0) same)
        ])
      ];
    }

pub filling_full : (file : List ℕ) (ps : List Placed) (cards : List Card) (from lines count : ℕ) (out : List Card) (f : Found) (next lines' : ℕ) (out' : List Card) (place : Place) → length out ≡ length cards → Filling file ps cards from lines count out → Comes file from lines next lines' f → Puts f count out None out' → place ≡ spot f.number f.byte → Noted (Keeps11 (length cards) ps) ps (Some place)
filling_full file ps cards from lines count out f next lines' out' place same g c (tag, room) e =
    let w = left_comes file from lines next lines' f g.rest g.left c in
    let apart : w.line.line.tag ≡ CONT → ⊥ = λ e. tag (w.shows.tag ∙ e) in
    let all : ps ≡ g.before ++ w.line ∷ w.more = g.are ∙ ap (λ qs. g.before ++ qs) w.are in
    let pos = subst (InPlace from) w.are g.placed in
    let count_is : count ≡ length (others g.before) = g.counted ∙ length_filed g.before in
    let low = g.low in
    let number : f.number ≡ length g.before + 1 = c.number ∙ ap (λ n. n + 1) g.numbered in
    let byte : f.byte ≡ byte_at ps (length g.before) = c.byte ∙ sym pos.0 ∙ sym (ap (λ qs. byte_at qs (length g.before)) all ∙ ap (λ bs. get_or bs (length g.before) 0) (map-append (λ q. q.byte) g.before (w.line ∷ w.more)) ∙ get_or_at (map (λ q. q.byte) g.before) w.line.byte (map (λ q. q.byte) w.more) 0 (length g.before) (length-map g.before (λ q. q.byte))) in
    (length g.before, subst (λ qs. First (Keeps11 (length cards) qs) (length qs) (length g.before)) (sym all) (full (length cards) g.before w.line w.more apart (omega arith) (omega arith)), e ∙ (λ i. spot (number i) (byte i)))
