-- The cards of a reading file the entries of the dataset. Assumes nothing.
use Rattle.std.proofs.Common.{◌≡◌, ℕ, zero, suc, ◌+◌, ◌<◌, ◌≤◌, Bool, true, false, cond, ◌⊎◌, List, [], ◌∷◌, ◌++◌, map, length, get_or, sym, refl, ap, ◌∙◌, subst, ap₂, inl, inr, append_assoc, arith, length-append}
use mathlib.Core.List.{map-append, head-eq_of_cons-eq, tail-eq_of_cons-eq}
use lib.ListN.{length-map}
use Rattle.std.specs.List.{AllByRecursion}
use Rattle.std.proofs.ByRecursion.{All-append, All-weaker}
use Rattle.std.proofs.lemmas.List.{get_or_at}
use Rattle.std.proofs.lemmas.Bool.{cond-true, cond-false, cond_both, cases_Bool}
use Rattle.std.specs.Str.{bytes_eq}
use Rattle.std.proofs.lemmas.Slice.Eq.{bytes_eq-Decides}
use Rattle.model.specs.declared.Card.{Card}
use Rattle.model.specs.declared.State.TheVariants.{Filed}
use Rattle.model.specs.Lines.{Line, nothing, line_of}
use Rattle.model.specs.Datasets.{Dataset, CONT, Entry, entry, entries, further, continuations, entry_lines, all_lines, lines, OwnTag, IsDataset}
use Rattle.model.specs.Files.{Placed, bytes_of, InPlace, Passes, at}
use Rattle.model.specs.Cards.{blank, Blanks, StandsAt, FilesAll, Rising, Holds}
use Rattle.model.specs.Removal.{card_count}
use Rattle.model.specs.Refusals.{lines_of, byte_at, others_from, others}
use Rattle.model.proofs.Parts.{not_nil}
use Rattle.model.proofs.Filing.{bytes_positive}
use Rattle.model.proofs.Ordering.{own_line}

other_tag : (t : List ℕ) → (t ≡ CONT → ⊥) → bytes_eq t CONT ≡ false
other_tag t h = elim (cases_Bool (bytes_eq t CONT)) [
  | inl e ↦ absurd (h ((bytes_eq-Decides t CONT).0 e))
  | inr e ↦ e
]

-- The places of the other lines are those of the entries

abbrev pub places : ℕ → List Entry → List ℕ
places i [] = []
places i (e ∷ es) = i ∷ places (i + 1 + length (further e.payload)) es

pub length_places : (i : ℕ) (es : List Entry) → length (places i es) ≡ length es
length_places i [] = refl
length_places i (e ∷ es) = ap suc (length_places (i + 1 + length (further e.payload)) es)

others_past : (i level : ℕ) (ts : List (List ℕ)) (u : List Line) → others_from i (continuations level ts ++ u) ≡ others_from (i + length ts) u
others_past i level [] u = ap (λ k. others_from k u) (let k : i ≡ i + 0 = omega arith in k)
others_past i level (t ∷ ts) u = others_past (i + 1) level ts u ∙ ap (λ k. others_from k u) (let k : i + 1 + length ts ≡ i + suc (length ts) = omega arith in k)

pub others_entries : (i : ℕ) (es : List Entry) → AllByRecursion OwnTag es → others_from i (all_lines es) ≡ places i es
others_entries i [] t = refl
others_entries i (e ∷ es) t =
    let after = others_past (i + 1) (e.level + 1) (further e.payload) (all_lines es) in
    cond-false (bytes_eq e.tag CONT) (others_from (i + 1) (continuations (e.level + 1) (further e.payload) ++ all_lines es)) (i ∷ others_from (i + 1) (continuations (e.level + 1) (further e.payload) ++ all_lines es)) (other_tag e.tag t.0.no_continuation) ∙ ap (λ is. i ∷ is) (after ∙ others_entries (i + 1 + length (further e.payload)) es t.1)

pub others_places : (ps : List Placed) (d : Dataset) → IsDataset d → lines_of ps ≡ lines d → others ps ≡ places 0 (entries d)
others_places ps d is e = ap (others_from 0) e ∙ others_entries 0 (entries d) is.tagged

pub others_count : (ps : List Placed) (d : Dataset) → IsDataset d → lines_of ps ≡ lines d → length (others ps) ≡ card_count d
others_count ps d is e = ap length (others_places ps d is e) ∙ length_places 0 (entries d)

length_continuations : (level : ℕ) (ts : List (List ℕ)) → length (continuations level ts) ≡ length ts
length_continuations level [] = refl
length_continuations level (t ∷ ts) = ap suc (length_continuations level ts)

places_line : (before : List Line) (n : ℕ) (es : List Entry) (k : ℕ) (x : Entry) → length before ≡ n → k < length es → at (before ++ all_lines es) (get_or (places n es) k 0) ≡ own_line (get_or es k x)
places_line before n [] k x b h = absurd (omega arith)
places_line before n (e ∷ es) zero x b h = get_or_at before (own_line e) (continuations (e.level + 1) (further e.payload) ++ all_lines es) (line_of 0 Rattle.std.specs.declared.option.Option.TheVariants.None [] nothing) n b
places_line before n (e ∷ es) (suc k) x b h =
    let long : length (before ++ entry_lines e) ≡ n + 1 + length (further e.payload) = omega (arith, length-append before (entry_lines e), length_continuations (e.level + 1) (further e.payload)) in
    ap (λ ls. at ls (get_or (places (n + 1 + length (further e.payload)) es) k 0)) (sym (append_assoc before (entry_lines e) (all_lines es))) ∙ places_line (before ++ entry_lines e) (n + 1 + length (further e.payload)) es k x long (omega arith)

-- place number k of the other lines is that of the line of entry k
pub others_line : (ps : List Placed) (d : Dataset) → IsDataset d → lines_of ps ≡ lines d → (k : ℕ) (x : Entry) → k < card_count d → at (lines_of ps) (get_or (others ps) k 0) ≡ own_line (get_or (entries d) k x)
others_line ps d is e k x h = ap₂ (λ ls is. at ls (get_or is k 0)) e (others_places ps d is e) ∙ places_line [] 0 (entries d) k x refl h

-- The cards

abbrev pub card_of : ℕ → Card
card_of b = record { byte = b; state = Filed }

-- a card for each other line, from its byte
abbrev pub filed : List Placed → List Card
filed [] = []
filed (p ∷ ps) = cond (bytes_eq p.line.tag CONT) (filed ps) (card_of p.byte ∷ filed ps)

chosen : (f : ℕ → Card) (b : Bool) (n : ℕ) (is : List ℕ) (cs : List Card) (c : Card) → f n ≡ c → map f is ≡ cs → map f (cond b is (n ∷ is)) ≡ cond b cs (c ∷ cs)
chosen f true n is cs c h k = k
chosen f false n is cs c h k = λ i. h i ∷ k i

filed_from : (all : List Placed) (n : ℕ) (before rest : List Placed) → all ≡ before ++ rest → length before ≡ n → map (λ i. card_of (byte_at all i)) (others_from n (lines_of rest)) ≡ filed rest
filed_from all n before [] e b = refl
filed_from all n before (p ∷ rest) e b =
    let here : byte_at all n ≡ p.byte = ap (λ qs. byte_at qs n) e ∙ ap (λ bs. get_or bs n 0) (map-append (λ q. q.byte) before (p ∷ rest)) ∙ get_or_at (map (λ q. q.byte) before) p.byte (map (λ q. q.byte) rest) 0 n (length-map before (λ q. q.byte) ∙ b) in
    let later = filed_from all (n + 1) (before ++ p ∷ []) rest (e ∙ sym (append_assoc before (p ∷ []) rest)) (omega (arith, length-append before (p ∷ []))) in
    chosen (λ i. card_of (byte_at all i)) (bytes_eq p.line.tag CONT) n (others_from (n + 1) (lines_of rest)) (filed rest) (card_of p.byte) (ap card_of here) later

-- the same, by the places of the other lines
pub filed_others : (ps : List Placed) → map (λ i. card_of (byte_at ps i)) (others ps) ≡ filed ps
filed_others ps = filed_from ps 0 [] ps refl refl

pub length_filed : (ps : List Placed) → length (filed ps) ≡ length (others ps)
length_filed ps = ap length (sym (filed_others ps)) ∙ length-map (others ps) (λ i. card_of (byte_at ps i))

pub filed_as_filed : (ps : List Placed) → AllByRecursion (λ c. c.state ≡ Filed) (filed ps)
filed_as_filed [] = tt
filed_as_filed (p ∷ ps) = cond_both (bytes_eq p.line.tag CONT) (filed ps) (card_of p.byte ∷ filed ps) (AllByRecursion (λ c. c.state ≡ Filed)) (λ e. filed_as_filed ps) (λ e. (refl, filed_as_filed ps))

-- They rise

abbrev RisingFrom : ℕ → List Card → Type 0
RisingFrom b [] = Unit {0}
RisingFrom b (c ∷ cs) = (b ≤ c.byte) × RisingFrom (suc c.byte) cs

rises : (b : ℕ) (cs : List Card) → RisingFrom b cs → Rising cs
rises b [] r = tt
rises b (c ∷ []) r = tt
rises b (c ∷ d ∷ cs) r = (r.1.0, rises (suc c.byte) (d ∷ cs) r.1)

filed_rises : (b at : ℕ) (ps : List Placed) → b ≤ at → InPlace at ps → RisingFrom b (filed ps)
filed_rises b at [] h i = tt
filed_rises b at (p ∷ ps) h i = cond_both (bytes_eq p.line.tag CONT) (filed ps) (card_of p.byte ∷ filed ps) (RisingFrom b) (λ e. filed_rises b (at + length (bytes_of p)) ps (omega arith) i.1) (λ e. (omega arith, filed_rises (suc p.byte) (at + length (bytes_of p)) ps (omega (arith, bytes_positive p)) i.1))

pub filed_rising : (at : ℕ) (ps : List Placed) → InPlace at ps → Rising (filed ps)
filed_rising at ps i = rises 0 (filed ps) (filed_rises 0 at ps (omega arith) i)

-- They file the entries

parted : (ps : List Placed) (ls ms : List Line) → lines_of ps ≡ ls ++ ms → (qs rs : List Placed) × (ps ≡ qs ++ rs) × (lines_of qs ≡ ls) × (lines_of rs ≡ ms)
parted ps [] ms e = ([], ps, refl, refl, e)
parted [] (l ∷ ls) ms e = absurd (not_nil l (ls ++ ms) e)
parted (p ∷ ps) (l ∷ ls) ms e =
    let r = parted ps ls ms (tail-eq_of_cons-eq e) in
    (p ∷ r.0, r.1, ap (λ qs. p ∷ qs) r.2, λ i. head-eq_of_cons-eq e i ∷ r.3 i, r.4)

filed_past : (qs rs : List Placed) → AllByRecursion (λ q. q.line.tag ≡ CONT) qs → filed (qs ++ rs) ≡ filed rs
filed_past [] rs h = refl
filed_past (q ∷ qs) rs h = cond-true (bytes_eq q.line.tag CONT) (filed (qs ++ rs)) (card_of q.byte ∷ filed (qs ++ rs)) ((bytes_eq-Decides q.line.tag CONT).1 h.0) ∙ filed_past qs rs h.1

all_continue : (qs : List Placed) (level : ℕ) (ts : List (List ℕ)) → lines_of qs ≡ continuations level ts → AllByRecursion (λ q. q.line.tag ≡ CONT) qs
all_continue [] level ts e = tt
all_continue (q ∷ qs) level [] e = absurd (not_nil q.line (lines_of qs) (sym e))
all_continue (q ∷ qs) level (t ∷ ts) e = (ap (λ (k : Line). k.tag) (head-eq_of_cons-eq e), all_continue qs level ts (tail-eq_of_cons-eq e))

pub no_more_follow : (es : List Entry) → AllByRecursion OwnTag es → (rs : List Placed) → lines_of rs ≡ all_lines es → (p : Placed) (more : List Placed) → rs ≡ p ∷ more → p.line.tag ≡ CONT → ⊥
no_more_follow [] t rs e p more are tag = not_nil p.line (lines_of more) (sym (ap lines_of (sym are) ∙ e))
no_more_follow (f ∷ es) t rs e p more are tag = t.0.no_continuation (ap (λ (k : Line). k.tag) (sym (head-eq_of_cons-eq (ap lines_of (sym are) ∙ e))) ∙ tag)

pub files_from : (ps before rest : List Placed) (es : List Entry) → ps ≡ before ++ rest → lines_of rest ≡ all_lines es → AllByRecursion OwnTag es → FilesAll ps (filed rest) es
files_from ps before [] [] are e t = tt
files_from ps before [] (f ∷ es) are e t = absurd (not_nil (own_line f) _ e)
files_from ps before (p ∷ rest) [] are e t = absurd (not_nil p.line (lines_of rest) (sym e))
files_from ps before (p ∷ rest) (f ∷ es) are e t =
    let first : p.line ≡ own_line f = head-eq_of_cons-eq e in
    let r = parted rest (continuations (f.level + 1) (further f.payload)) (all_lines es) (tail-eq_of_cons-eq e) in
    let whole : ps ≡ before ++ (p ∷ r.0) ++ r.1 = are ∙ ap (λ qs. before ++ (p ∷ qs)) r.2 ∙ sym (append_assoc before (p ∷ r.0) r.1) in
    let mine : filed (p ∷ rest) ≡ card_of p.byte ∷ filed r.1 = cond-false (bytes_eq p.line.tag CONT) (filed rest) (card_of p.byte ∷ filed rest) (other_tag p.line.tag (λ h. t.0.no_continuation (ap (λ (k : Line). k.tag) (sym first) ∙ h))) ∙ ap (λ cs. card_of p.byte ∷ cs) (ap filed r.2 ∙ filed_past r.0 r.1 (all_continue r.0 (f.level + 1) (further f.payload) r.3)) in
    let stands : StandsAt ps p.byte (entry f.level f.identifier f.tag f.payload) = record {
      before = before;
      own = p ∷ r.0;
      rest = r.1;
      are = whole;
      reads = λ i. first i ∷ r.3 i;
      begins = λ q more h. ap (λ (k : Placed). k.byte) (sym (head-eq_of_cons-eq h));
      whole = no_more_follow es t.1 r.1 r.4;
      no_continuation = t.0.no_continuation;
    } in
    subst (λ cs. FilesAll ps cs (f ∷ es)) (sym mine) (record { filed = f.payload; stands = stands; allowed = tt; shows = refl }, files_from ps (before ++ (p ∷ r.0)) r.1 es whole r.4 t.1)

pub reading_holds : (file : List ℕ) (ps : List Placed) (d : Dataset) (cards blanks : List Card) → Passes file ps → IsDataset d → lines_of ps ≡ lines d → cards ≡ filed ps ++ blanks → Blanks blanks → length (others ps) ≤ 65535 → Holds file cards d
reading_holds file ps d cards blanks passes is e are b few = record {
  placed = ps;
  passes = passes;
  named = filed ps;
  blanks = blanks;
  are = are;
  few = omega (arith, length_filed ps);
  rest_blank = b;
  rising = filed_rising (length passes.lined.mark) ps passes.lined.placed;
  files = files_from ps [] ps (entries d) refl e is.tagged;
  is = is;
}

pub reading_as_filed : (ps : List Placed) (cards blanks : List Card) → cards ≡ filed ps ++ blanks → Blanks blanks → AllByRecursion (λ c. (c.state ≡ Filed) ⊎ (c ≡ blank)) cards
reading_as_filed ps cards blanks are b = subst (AllByRecursion (λ c. (c.state ≡ Filed) ⊎ (c ≡ blank))) (sym are) (All-append (λ c. (c.state ≡ Filed) ⊎ (c ≡ blank)) (filed ps) blanks (All-weaker (λ c. c.state ≡ Filed) (λ c. (c.state ≡ Filed) ⊎ (c ≡ blank)) (λ c h. inl h) (filed ps) (filed_as_filed ps)) (All-weaker (λ c. c ≡ blank) (λ c. (c.state ≡ Filed) ⊎ (c ≡ blank)) (λ c h. inr h) blanks b))
