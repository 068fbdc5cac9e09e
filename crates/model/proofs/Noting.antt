-- One turn of the notes on the rules 5 to 10, and what they say at the end. Assumes nothing.
use Rattle.std.proofs.Common.{◌≡◌, ℕ, suc, ◌+◌, ◌-◌, ◌<◌, ◌≤◌, min, Bool, true, false, cond, not, ◌&&◌, eqb, ltb, ◌⊎◌, List, [], ◌∷◌, ◌++◌, map, length, get_or, Some, None, Decides, Option, sym, refl, ap, ◌∙◌, subst, inl, inr, arith}
use lib.ListN.{length-map}
use Rattle.std.proofs.lemmas.List.{get_or_append_left, get_or_push, map_push, length_push}
use Rattle.std.proofs.lemmas.Bool.{cases_Bool, cases_lt, cond_both, both_ways, not-true, not-false, and_parts, and_cases, or_cases, or_parts, ltb-true, ltb-false, eqb-true, eqb-false}
use Rattle.std.proofs.lemmas.Bool.Decides.{Decides-and, Decides-eqb, Decides-like, Decides-not, nat_tests}
use Rattle.std.proofs.lemmas.Slice.Eq.{bytes_eq-Decides}
use Rattle.model.specs.Lines.{Line, Value, nothing, void, pointer, text, line_of}
use Rattle.model.specs.Datasets.{HEAD, TRLR, CONT, CONC}
use Rattle.model.specs.Files.{Placed, at, LastOther, IsPointer, Continues, Keeps5, Keeps6, Keeps7, Keeps8, Keeps9, Keeps10, Ordered}
use Rattle.model.specs.Refusals.{fault, lines_of, byte_at, LineRule, levels, first, last, steps, named, continued, room, apart, aimed, line_rule_number, LineKeeps, LinesKeep, LineRefusal}
use Rattle.model.specs.declared.Fault.{Fault}
use Rattle.model.specs.LineTurns.{spot_of, note, Noted, is_pointer, is_nothing, has_identifier, has_tag, seen_of, is_trailer, closes, Last, last_with, breaks5, breaks6, breaks8, breaks9, continues, breaks10, last_after, NoTrailer, LastIs, Notes, notes_with, notes_after, RuledIn, Ruled, Closed, closing, told, verdict, RulesKept, Verdict, spot}
use Rattle.model.specs.declared.Place.{Place}
use Rattle.model.proofs.Options.{never}
use Rattle.model.proofs.Walking.{HEAD_line, TRLR_line, head_not_cont, head_not_conc, last_once, last_kept, last_new}

abbrev pub top_tag : List ℕ → ℕ → Line → Bool
top_tag tag level l = eqb level 0 && has_tag tag l

abbrev pub bare_top : List ℕ → ℕ → Line → Bool
bare_top tag level l = top_tag tag level l && (not (has_identifier l) && is_nothing l.value)

-- One place more

-- a test that says whether a line breaks a rule
abbrev Tells : Bool → Type 0 → Type 0
Tells b K = (b ≡ true → K → ⊥) × (b ≡ false → K)

abbrev blank_line : Line
blank_line = line_of 0 None [] nothing

pub long_push : (ps : List Placed) (p : Placed) → length (ps ++ p ∷ []) ≡ length ps + 1
long_push ps p = length_push ps p

pub at_old : (ps : List Placed) (p : Placed) (i : ℕ) → i < length ps → at (lines_of ps) i ≡ at (lines_of (ps ++ p ∷ [])) i
at_old ps p i h = sym (ap (λ ls. at ls i) (map_push (λ q. q.line) ps p) ∙ get_or_append_left (lines_of ps) (p.line ∷ []) blank_line i (omega (arith, length-map ps (λ q. q.line))))

pub at_new : (ps : List Placed) (p : Placed) → at (lines_of (ps ++ p ∷ [])) (length ps) ≡ p.line
at_new ps p = ap (λ ls. at ls (length ps)) (map_push (λ q. q.line) ps p) ∙ get_or_push (lines_of ps) p.line blank_line (length ps) (length-map ps (λ q. q.line))

pub byte_old : (ps : List Placed) (p : Placed) (i : ℕ) → i < length ps → byte_at ps i ≡ byte_at (ps ++ p ∷ []) i
byte_old ps p i h = sym (ap (λ bs. get_or bs i 0) (map_push (λ q. q.byte) ps p) ∙ get_or_append_left (map (λ q. q.byte) ps) (p.byte ∷ []) 0 i (omega (arith, length-map ps (λ q. q.byte))))

pub byte_new : (ps : List Placed) (p : Placed) → byte_at (ps ++ p ∷ []) (length ps) ≡ p.byte
byte_new ps p = ap (λ bs. get_or bs (length ps) 0) (map_push (λ q. q.byte) ps p) ∙ get_or_push (map (λ q. q.byte) ps) p.byte 0 (length ps) (length-map ps (λ q. q.byte))

-- a rule that a further line leaves as it was at the places before
pub noted_more : (P Q : ℕ → Type 0) (ps : List Placed) (p : Placed) (o : Option Place) (b : Bool) → ((i : ℕ) → i < length ps → P i → Q i) → ((i : ℕ) → i < length ps → Q i → P i) → Tells b (Q (length ps)) → Noted P ps o → Noted Q (ps ++ p ∷ []) (note o b (spot (length ps + 1) p.byte))
noted_more P Q ps p None b to from t h = elim (cases_Bool b) [
  | inl e ↦ subst (λ c. Noted Q (ps ++ p ∷ []) (note None c (spot (length ps + 1) p.byte))) (sym e) (length ps, record { within = omega (arith, long_push ps p); breaks = t.0 e; before = λ j l. to j l (h j l) }, λ i. (spot (length ps + 1) (sym (byte_new ps p) i)))
  | inr e ↦ subst (λ c. Noted Q (ps ++ p ∷ []) (note None c (spot (length ps + 1) p.byte))) (sym e) (λ i l. elim (cases_lt i (length ps)) [
    | inl k ↦ to i k (h i k)
    | inr k ↦ subst Q (let e : length ps ≡ i = omega (arith, long_push ps p) in e) (t.1 e)
  ])
]
noted_more P Q ps p (Some s) b to from t h =
    let f = h.1 in
    let l = f.within in
    (h.0, record { within = omega (arith, long_push ps p); breaks = λ q. f.breaks (from h.0 l q); before = λ j k. to j (omega arith) (f.before j k) }, h.2 ∙ (λ i. (spot (h.0 + 1) (byte_old ps p h.0 l i))))

pub note_none : (o : Option Place) (b : Bool) (s : Place) → note o b s ≡ None → (o ≡ None) × (b ≡ false)
note_none None true s e = absurd (never s (sym e))
note_none None false s e = (refl, refl)
note_none (Some t) b s e = absurd (never t (sym e))

-- Lists of lines that agree up to a place

abbrev Same : List Line → List Line → ℕ → Type 0
Same ls ms n = (i : ℕ) → i < n → at ls i ≡ at ms i

same_back : (ls ms : List Line) (n : ℕ) → Same ls ms n → Same ms ls n
same_back ls ms n s i h = sym (s i h)

last_same : (ls ms : List Line) (n i j : ℕ) → Same ls ms n → i ≤ n → LastOther ls i j → LastOther ms i j
last_same ls ms n i j s h l = record {
  before = l.before;
  other = λ e. l.other (ap (λ (k : Line). k.tag) (s j (let b = l.before in omega arith)) ∙ e);
  since = λ k a b. ap (λ (k : Line). k.tag) (sym (s k (omega arith))) ∙ l.since k a b;
}

keeps8_same : (ls ms : List Line) (n i : ℕ) → Same ls ms n → i < n → Keeps8 ls i → Keeps8 ms i
keeps8_same ls ms n i s h k other j was =
    let b = was.before in
    let here : (at ls i).level ≡ (at ms i).level = ap (λ (k : Line). k.level) (s i h) in
    let there : (at ls j).level ≡ (at ms j).level = ap (λ (k : Line). k.level) (s j (omega arith)) in
    let low = k (λ e. other (ap (λ (k : Line). k.tag) (sym (s i h)) ∙ e)) j (last_same ms ls n i j (same_back ls ms n s) (omega arith) was) in
    omega arith

continues_same : (ls ms : List Line) (n i j : ℕ) → Same ls ms n → i < n → j < n → Continues ls i j → Continues ms i j
continues_same ls ms n i j s h l c = record {
  deeper = ap (λ (k : Line). k.level) (sym (s i h)) ∙ c.deeper ∙ ap (λ (k : Line). k.level + 1) (s j l);
  not_first = c.not_first;
  text_before = λ p. c.text_before (subst (λ (k : Line). IsPointer k.value) (sym (s j l)) p);
  text_here = λ p. c.text_here (subst (λ (k : Line). IsPointer k.value) (sym (s i h)) p);
}

keeps10_same : (ls ms : List Line) (n i : ℕ) → Same ls ms n → i < n → Keeps10 ls i → Keeps10 ms i
keeps10_same ls ms n i s h k = (
  λ e. k.0 (ap (λ (k : Line). k.tag) (s i h) ∙ e),
  λ e. let c = k.1 (ap (λ (k : Line). k.tag) (s i h) ∙ e) in
      let b = c.1.before in
      (c.0, last_same ls ms n i c.0 s (omega arith) c.1, continues_same ls ms n i c.0 s h (omega arith) c.2),
)

-- What the tests say

pub pointer_decides : (v : Value) → Decides (is_pointer v) (IsPointer v)
pointer_decides nothing = (λ e. both_ways false refl e, λ h. absurd h)
pointer_decides void = (λ e. tt, λ h. refl)
pointer_decides (pointer i) = (λ e. tt, λ h. refl)
pointer_decides (text t) = (λ e. both_ways false refl e, λ h. absurd h)

pub nothing_decides : (v : Value) → Decides (is_nothing v) (v ≡ nothing)
nothing_decides nothing = (λ e. refl, λ h. refl)
nothing_decides void = (λ e. absurd (both_ways false refl e), λ h. ap is_nothing h)
nothing_decides (pointer i) = (λ e. absurd (both_ways false refl e), λ h. ap is_nothing h)
nothing_decides (text t) = (λ e. absurd (both_ways false refl e), λ h. ap is_nothing h)

abbrev given : Option (List ℕ) → Bool
given i = elim i as (λ _. Bool) [ None ↦ false | Some x ↦ true ]

given_decides : (i : Option (List ℕ)) → Decides (not (given i)) (i ≡ None)
given_decides None = (λ e. refl, λ h. refl)
given_decides (Some x) = (λ e. absurd (both_ways false refl e), λ h. ap (λ i. not (given i)) h)

pub identifier_decides : (l : Line) → Decides (not (has_identifier l)) (l.identifier ≡ None)
identifier_decides l = given_decides l.identifier

pub tag_decides : (tag : List ℕ) (l : Line) → Decides (has_tag tag l) (l.tag ≡ tag)
tag_decides tag l = bytes_eq-Decides l.tag tag

pub top_decides : (tag : List ℕ) (l : Line) → Decides (top_tag tag l.level l) ((l.level ≡ 0) × (l.tag ≡ tag))
top_decides tag l = Decides-and (eqb l.level 0) (has_tag tag l) (Decides-eqb l.level 0) (tag_decides tag l)

pub bare_decides : (tag : List ℕ) (l : Line) → Decides (bare_top tag l.level l) (l ≡ line_of 0 None tag nothing)
bare_decides tag l = Decides-like (bare_top tag l.level l)
    (λ h. λ i. record { level = h.0.0 i; identifier = h.1.0 i; tag = h.0.1 i; value = h.1.1 i })
    (λ e. ((ap (λ (k : Line). k.level) e, ap (λ (k : Line). k.tag) e), (ap (λ (k : Line). k.identifier) e, ap (λ (k : Line). k.value) e)))
    (Decides-and (top_tag tag l.level l) (not (has_identifier l) && is_nothing l.value) (top_decides tag l) (Decides-and (not (has_identifier l)) (is_nothing l.value) (identifier_decides l) (nothing_decides l.value)))

tells_not : (b : Bool) {K : Type 0} → Decides b K → Tells (not b) K
tells_not true d = (λ e k. both_ways false refl e, λ e. d.0 refl)
tells_not false d = (λ e k. both_ways false refl (d.1 k), λ e. absurd (both_ways false refl (sym e)))

abbrev At6 : ℕ → Line → Type 0
At6 n l = (n ≡ 0 → l ≡ line_of 0 None HEAD nothing) × (0 < n → l.level ≡ 0 → l.tag ≡ HEAD → ⊥)

tells6 : (n : ℕ) (l : Line) → Tells (breaks6 n (seen_of l.level l)) (At6 n l)
tells6 n l = cond_both (eqb n 0) (not (bare_top HEAD l.level l)) (top_tag HEAD l.level l) (λ b. Tells b (At6 n l))
    (λ e. let z = eqb-true n 0 e in let t = tells_not (bare_top HEAD l.level l) (bare_decides HEAD l) in (λ b k. t.0 b (k.0 z), λ b. (λ q. t.1 b, λ q. absurd (omega arith))))
    (λ e. let z = eqb-false n 0 e in let d = top_decides HEAD l in (λ b k. let h = d.0 b in k.1 (elim (cases_lt 0 n) [ inl q ↦ q | inr q ↦ absurd (z (omega arith)) ]) h.0 h.1, λ b. (λ q. absurd (z q), λ q x y. both_ways (top_tag HEAD l.level l) b (d.1 (x, y)))))

tells_trailer : (l : Line) → Tells (top_tag TRLR l.level l) (l.level ≡ 0 → l.tag ≡ TRLR → ⊥)
tells_trailer l = let d = top_decides TRLR l in (λ b k. let h = d.0 b in k h.0 h.1, λ b x y. both_ways (top_tag TRLR l.level l) b (d.1 (x, y)))

tells9 : (l : Line) → Tells (breaks9 (seen_of l.level l)) (0 < l.level → l.identifier ≡ None)
tells9 l =
    let d = identifier_decides l in (
      λ b k. let h = and_parts (ltb 0 l.level) (has_identifier l) b in both_ways (has_identifier l) (not-true (has_identifier l) (d.1 (k (ltb-true 0 l.level h.0)))) h.1,
      λ b q. elim (and_cases (ltb 0 l.level) (has_identifier l) b) [
        | inl h ↦ absurd (omega (arith, ltb-false 0 l.level h))
        | inr h ↦ d.0 (ap not h)
      ],
    )

continues_decides : (ms : List Line) (n j : ℕ) (o : Last) → o.level ≡ (at ms j).level → Decides o.pointing (IsPointer (at ms j).value) → Decides o.first (j ≡ 0) → Decides (continues o (seen_of (at ms n).level (at ms n))) (Continues ms n j)
continues_decides ms n j o level pointing zeroth = Decides-like (continues o (seen_of (at ms n).level (at ms n)))
    (λ h. record { deeper = h.0 ∙ ap (λ k. k + 1) level; not_first = elim (cases_lt 0 j) [ inl q ↦ q | inr q ↦ absurd (h.1.0 (omega arith)) ]; text_before = h.1.1.0; text_here = h.1.1.1 })
    (λ c. (c.deeper ∙ ap (λ k. k + 1) (sym level), ((λ z. omega (arith, c.not_first)), (c.text_before, c.text_here))))
    (Decides-and (eqb (at ms n).level (o.level + 1)) (not o.first && (not o.pointing && not (is_pointer (at ms n).value))) (Decides-eqb (at ms n).level (o.level + 1)) (Decides-and (not o.first) (not o.pointing && not (is_pointer (at ms n).value)) (Decides-not o.first zeroth) (Decides-and (not o.pointing) (not (is_pointer (at ms n).value)) (Decides-not o.pointing pointing) (Decides-not (is_pointer (at ms n).value) (pointer_decides (at ms n).value)))))

-- the last other line before n, in the longer list
record Before (ms : List Line) (n : ℕ) (o : Last) : Type 0 where
  place : ℕ
  is : LastOther ms n place
  level : o.level ≡ (at ms place).level
  pointing : Decides o.pointing (IsPointer (at ms place).value)
  zeroth : Decides o.first (place ≡ 0)

before_of : (ls ms : List Line) (n : ℕ) (o : Last) → Same ls ms n → length ls ≡ n → LastIs ls o → Before ms n o
before_of ls ms n o s e l =
    let was : LastOther ls n l.place = subst (λ k. LastOther ls k l.place) e l.last in
    let there = s l.place was.before in
    record {
      place = l.place;
      is = last_same ls ms n n l.place s (omega arith) was;
      level = l.level ∙ ap (λ (k : Line). k.level) there;
      pointing = subst (λ (k : Line). Decides o.pointing (IsPointer k.value)) there l.pointing;
      zeroth = l.first;
    }

-- at the place n: behind a line, or the first one and the header
abbrev Here : List Line → ℕ → Last → Type 0
Here ms n o = ((n ≡ 0) × (at ms n ≡ HEAD_line)) ⊎ Before ms n o

tells8 : (ms : List Line) (n : ℕ) (o : Last) → Here ms n o → Tells (breaks8 o (seen_of (at ms n).level (at ms n))) (Keeps8 ms n)
tells8 ms n o (inl h) = (
  λ e k. omega (arith, ltb-true (o.level + 1) (at ms n).level (and_parts (not (has_tag CONT (at ms n))) (ltb (o.level + 1) (at ms n).level) e).1, ap (λ (k : Line). k.level) h.1),
  λ e x j was. absurd (let q = was.before in omega (arith, h.0)),
)
tells8 ms n o (inr b) =
    let d = tag_decides CONT (at ms n) in (
      λ e k. let h = and_parts (not (has_tag CONT (at ms n))) (ltb (o.level + 1) (at ms n).level) e in
          let low = k (λ c. both_ways (has_tag CONT (at ms n)) (not-true (has_tag CONT (at ms n)) h.0) (d.1 c)) b.place b.is in
          omega (arith, ltb-true (o.level + 1) (at ms n).level h.1, b.level),
      λ e x j was. elim (and_cases (not (has_tag CONT (at ms n))) (ltb (o.level + 1) (at ms n).level) e) [
        | inl h ↦ absurd (x (d.0 (not-false (has_tag CONT (at ms n)) h)))
        | inr h ↦ subst (λ k. (at ms n).level ≤ (at ms k).level + 1) (last_once ms n b.place j b.is was) (omega (arith, ltb-false (o.level + 1) (at ms n).level h, b.level))
      ],
    )

tells10 : (ms : List Line) (n : ℕ) (o : Last) → Here ms n o → Tells (breaks10 o (seen_of (at ms n).level (at ms n))) (Keeps10 ms n)
tells10 ms n o (inl h) =
    let tag : (at ms n).tag ≡ HEAD = ap (λ (k : Line). k.tag) h.1 in (
      λ e k. elim (or_cases (has_tag CONC (at ms n)) (has_tag CONT (at ms n) && not (continues o (seen_of (at ms n).level (at ms n)))) e) [
        | inl q ↦ k.0 ((tag_decides CONC (at ms n)).0 q)
        | inr q ↦ head_not_cont (sym tag ∙ (tag_decides CONT (at ms n)).0 (and_parts (has_tag CONT (at ms n)) (not (continues o (seen_of (at ms n).level (at ms n)))) q).0)
      ],
      λ e. (λ c. head_not_conc (sym tag ∙ c), λ c. absurd (head_not_cont (sym tag ∙ c))),
    )
tells10 ms n o (inr b) =
    let d = continues_decides ms n b.place o b.level b.pointing b.zeroth in
    let does : Bool = continues o (seen_of (at ms n).level (at ms n)) in (
      λ e k. elim (or_cases (has_tag CONC (at ms n)) (has_tag CONT (at ms n) && not does) e) [
        | inl q ↦ k.0 ((tag_decides CONC (at ms n)).0 q)
        | inr q ↦
            let h = and_parts (has_tag CONT (at ms n)) (not does) q in
            let c = k.1 ((tag_decides CONT (at ms n)).0 h.0) in
            both_ways does (not-true does h.1) (d.1 (subst (Continues ms n) (last_once ms n c.0 b.place c.1 b.is) c.2))
      ],
      λ e. let h = or_parts (has_tag CONC (at ms n)) (has_tag CONT (at ms n) && not does) e in (
        λ c. both_ways (has_tag CONC (at ms n)) h.0 ((tag_decides CONC (at ms n)).1 c),
        λ c. (
          b.place,
          b.is,
          elim (and_cases (has_tag CONT (at ms n)) (not does) h.1) [
            | inl q ↦ absurd (both_ways (has_tag CONT (at ms n)) q ((tag_decides CONT (at ms n)).1 c))
            | inr q ↦ d.0 (not-false does q)
          ],
        ),
      ),
    )

-- the last other line of the longer list
last_more : (ms : List Line) (n : ℕ) (o : Last) → length ms ≡ n + 1 → Here ms n o → LastIs ms (last_after n o (seen_of (at ms n).level (at ms n)))
last_more ms n o long h = cond_both (has_tag CONT (at ms n)) o (last_with (at ms n).level (is_pointer (at ms n).value) (eqb n 0)) (LastIs ms) (λ e. kept ((tag_decides CONT (at ms n)).0 e) h) (λ e. record {
  place = n;
  last = subst (λ k. LastOther ms k n) to (last_new ms n (λ c. both_ways (has_tag CONT (at ms n)) e ((tag_decides CONT (at ms n)).1 c)));
  level = refl;
  pointing = pointer_decides (at ms n).value;
  first = Decides-eqb n 0;
})
  where
    to : suc n ≡ length ms
    to = omega arith

    kept : (at ms n).tag ≡ CONT → Here ms n o → LastIs ms o
    kept c (inl q) = absurd (head_not_cont (ap (λ (k : Line). k.tag) (sym q.1) ∙ c))
    kept c (inr b) = record { place = b.place; last = subst (λ k. LastOther ms k b.place) to (last_kept ms n b.place b.is c); level = b.level; pointing = b.pointing; first = b.zeroth }

-- One turn

line_levels : (cap level real : ℕ) → 64 ≤ cap → level ≡ min cap real → breaks5 level ≡ false → level ≡ real
line_levels cap level real c e b = omega (arith, ltb-false 63 level b)

module _ (ps : List Placed) (p : Placed) where
  to_new : (P : Line → Type 0) → P p.line → P (at (lines_of (ps ++ p ∷ [])) (length ps))
  to_new P = subst P (sym (at_new ps p))

  from_new : (P : Line → Type 0) → P (at (lines_of (ps ++ p ∷ [])) (length ps)) → P p.line
  from_new P = subst P (at_new ps p)

  old : Same (lines_of ps) (lines_of (ps ++ p ∷ [])) (length ps)
  old i h = at_old ps p i h

  by_line : (K : Line → ℕ → Type 0) (o : Option Place) (b : Bool) → Tells b (K p.line (length ps)) → Noted (λ i. K (at (lines_of ps) i) i) ps o → Noted (λ i. K (at (lines_of (ps ++ p ∷ [])) i) i) (ps ++ p ∷ []) (note o b (spot (length ps + 1) p.byte))
  by_line K o b t h = noted_more (λ i. K (at (lines_of ps) i) i) (λ i. K (at (lines_of (ps ++ p ∷ [])) i) i) ps p o b (λ i l k. subst (λ x. K x i) (at_old ps p i l) k) (λ i l k. subst (λ x. K x i) (sym (at_old ps p i l)) k) (to_new (λ x. Tells b (K x (length ps))) t) h

  levels_more : (cap level : ℕ) (o : Option Place) → 64 ≤ cap → level ≡ min cap p.line.level → Noted (Keeps5 (lines_of ps)) ps o → Noted (Keeps5 (lines_of (ps ++ p ∷ []))) (ps ++ p ∷ []) (note o (breaks5 level) (spot (length ps + 1) p.byte))
  levels_more cap level o c e h = by_line (λ x i. x.level ≤ 63) o (breaks5 level) (λ b k. omega (arith, ltb-true 63 level b), λ b. omega (arith, ltb-false 63 level b)) h

  first_more : (level : ℕ) (o : Option Place) → level ≡ p.line.level → Noted (Keeps6 (lines_of ps)) ps o → Noted (Keeps6 (lines_of (ps ++ p ∷ []))) (ps ++ p ∷ []) (note o (breaks6 (length ps) (seen_of level p.line)) (spot (length ps + 1) p.byte))
  first_more level o e h = by_line (λ x i. At6 i x) o (breaks6 (length ps) (seen_of level p.line)) (subst (λ v. Tells (breaks6 (length ps) (seen_of v p.line)) (At6 (length ps) p.line)) (sym e) (tells6 (length ps) p.line)) h

  trailer_more : (level : ℕ) (o : Option Place) → level ≡ p.line.level → Noted (NoTrailer (lines_of ps)) ps o → Noted (NoTrailer (lines_of (ps ++ p ∷ []))) (ps ++ p ∷ []) (note o (is_trailer (seen_of level p.line)) (spot (length ps + 1) p.byte))
  trailer_more level o e h = by_line (λ x i. x.level ≡ 0 → x.tag ≡ TRLR → ⊥) o (is_trailer (seen_of level p.line)) (subst (λ v. Tells (is_trailer (seen_of v p.line)) (p.line.level ≡ 0 → p.line.tag ≡ TRLR → ⊥)) (sym e) (tells_trailer p.line)) h

  named_more : (level : ℕ) (o : Option Place) → level ≡ p.line.level → Noted (Keeps9 (lines_of ps)) ps o → Noted (Keeps9 (lines_of (ps ++ p ∷ []))) (ps ++ p ∷ []) (note o (breaks9 (seen_of level p.line)) (spot (length ps + 1) p.byte))
  named_more level o e h = by_line (λ x i. 0 < x.level → x.identifier ≡ None) o (breaks9 (seen_of level p.line)) (subst (λ v. Tells (breaks9 (seen_of v p.line)) (0 < p.line.level → p.line.identifier ≡ None)) (sym e) (tells9 p.line)) h

  steps_more : (level : ℕ) (l : Last) (o : Option Place) → level ≡ p.line.level → Here (lines_of (ps ++ p ∷ [])) (length ps) l → Noted (Keeps8 (lines_of ps)) ps o → Noted (Keeps8 (lines_of (ps ++ p ∷ []))) (ps ++ p ∷ []) (note o (breaks8 l (seen_of level p.line)) (spot (length ps + 1) p.byte))
  steps_more level l o e here h =
      let t = from_new (λ x. Tells (breaks8 l (seen_of x.level x)) (Keeps8 (lines_of (ps ++ p ∷ [])) (length ps))) (tells8 (lines_of (ps ++ p ∷ [])) (length ps) l here) in
      noted_more (Keeps8 (lines_of ps)) (Keeps8 (lines_of (ps ++ p ∷ []))) ps p o (breaks8 l (seen_of level p.line)) (λ i q. keeps8_same (lines_of ps) (lines_of (ps ++ p ∷ [])) (length ps) i old q) (λ i q. keeps8_same (lines_of (ps ++ p ∷ [])) (lines_of ps) (length ps) i (same_back (lines_of ps) (lines_of (ps ++ p ∷ [])) (length ps) old) q) (subst (λ v. Tells (breaks8 l (seen_of v p.line)) (Keeps8 (lines_of (ps ++ p ∷ [])) (length ps))) (sym e) t) h

  continued_more : (level : ℕ) (l : Last) (o : Option Place) → level ≡ p.line.level → Here (lines_of (ps ++ p ∷ [])) (length ps) l → Noted (Keeps10 (lines_of ps)) ps o → Noted (Keeps10 (lines_of (ps ++ p ∷ []))) (ps ++ p ∷ []) (note o (breaks10 l (seen_of level p.line)) (spot (length ps + 1) p.byte))
  continued_more level l o e here h =
      let t = from_new (λ x. Tells (breaks10 l (seen_of x.level x)) (Keeps10 (lines_of (ps ++ p ∷ [])) (length ps))) (tells10 (lines_of (ps ++ p ∷ [])) (length ps) l here) in
      noted_more (Keeps10 (lines_of ps)) (Keeps10 (lines_of (ps ++ p ∷ []))) ps p o (breaks10 l (seen_of level p.line)) (λ i q. keeps10_same (lines_of ps) (lines_of (ps ++ p ∷ [])) (length ps) i old q) (λ i q. keeps10_same (lines_of (ps ++ p ∷ [])) (lines_of ps) (length ps) i (same_back (lines_of ps) (lines_of (ps ++ p ∷ [])) (length ps) old) q) (subst (λ v. Tells (breaks10 l (seen_of v p.line)) (Keeps10 (lines_of (ps ++ p ∷ [])) (length ps))) (sym e) t) h

  here_more : (l : Last) → (0 < length ps → LastIs (lines_of ps) l) → Keeps6 (lines_of (ps ++ p ∷ [])) (length ps) → Here (lines_of (ps ++ p ∷ [])) (length ps) l
  here_more l was k = elim (cases_lt 0 (length ps)) [
    | inl q ↦ inr (before_of (lines_of ps) (lines_of (ps ++ p ∷ [])) (length ps) l old (length-map ps (λ q. q.line)) (was q))
    | inr q ↦ let z : length ps ≡ 0 = omega arith in inl (z, k.0 z)
  ]

  last_is_more : (level : ℕ) (l : Last) → level ≡ p.line.level → Here (lines_of (ps ++ p ∷ [])) (length ps) l → LastIs (lines_of (ps ++ p ∷ [])) (last_after (length ps) l (seen_of level p.line))
  last_is_more level l e here =
      let long : length (lines_of (ps ++ p ∷ [])) ≡ length ps + 1 = length-map (ps ++ p ∷ []) (λ q. q.line) ∙ long_push ps p in
      let t = from_new (λ x. LastIs (lines_of (ps ++ p ∷ [])) (last_after (length ps) l (seen_of x.level x))) (last_more (lines_of (ps ++ p ∷ [])) (length ps) l long here) in
      subst (λ v. LastIs (lines_of (ps ++ p ∷ [])) (last_after (length ps) l (seen_of v p.line))) (sym e) t

  inner_more : (level : ℕ) (o : Last) (s : Notes) → level ≡ p.line.level → Keeps6 (lines_of (ps ++ p ∷ [])) (length ps) → RuledIn ps o s → RuledIn (ps ++ p ∷ []) (last_after (length ps) o (seen_of level p.line)) (notes_after (length ps) p.byte o (seen_of level p.line) s)
  inner_more level o s e k r =
      let here = here_more o r.last k in
      record {
        last = λ q. last_is_more level o e here;
        trailer = trailer_more level s.trailer e r.trailer;
        steps = steps_more level o s.steps e here r.steps;
        named = named_more level s.named e r.named;
        continued = continued_more level o s.continued e here r.continued;
      }

  first_kept : (level : ℕ) (o : Option Place) → level ≡ p.line.level → Noted (Keeps6 (lines_of ps)) ps o → note o (breaks6 (length ps) (seen_of level p.line)) (spot (length ps + 1) p.byte) ≡ None → Keeps6 (lines_of (ps ++ p ∷ [])) (length ps)
  first_kept level o e h n = subst (Noted (Keeps6 (lines_of (ps ++ p ∷ []))) (ps ++ p ∷ [])) n (first_more level o e h) (length ps) (omega (arith, long_push ps p))

  pub ruled_more : (cap level : ℕ) (o : Last) (s : Notes) → 64 ≤ cap → level ≡ min cap p.line.level → Ruled ps o s → Ruled (ps ++ p ∷ []) (last_after (length ps) o (seen_of level p.line)) (notes_after (length ps) p.byte o (seen_of level p.line) s)
  ruled_more cap level o s c e r = record {
    levels = levels_more cap level s.levels c e r.levels;
    first = λ n. let (a, b) = note_none s.levels (breaks5 level) (spot (length ps + 1) p.byte) n in first_more level s.first (line_levels cap level p.line.level c e b) (r.first a);
    inner = λ n m.
        let (a, b) = note_none s.levels (breaks5 level) (spot (length ps + 1) p.byte) n in
        let exact = line_levels cap level p.line.level c e b in
        inner_more level o s exact (first_kept level s.first exact (r.first a) m) (r.inner a (note_none s.first (breaks6 (length ps) (seen_of level p.line)) (spot (length ps + 1) p.byte) m).0);
  }

-- no line so far
pub ruled_start : (o : Last) → Ruled [] o (notes_with None None None None None None)
ruled_start o = record {
  levels = λ i h. absurd (omega arith);
  first = λ n i h. absurd (omega arith);
  inner = λ n m. record { last = λ h. absurd (omega arith); trailer = λ i h. absurd (omega arith); steps = λ i h. absurd (omega arith); named = λ i h. absurd (omega arith); continued = λ i h. absurd (omega arith) };
}

-- The last line

pub closed_more : (cap level : ℕ) (ps : List Placed) (p : Placed) → 1 ≤ cap → level ≡ min cap p.line.level → Closed (ps ++ p ∷ []) (closes (seen_of level p.line)) (spot (length ps + 1) p.byte)
closed_more cap level ps p c e =
    let n : length (ps ++ p ∷ []) - 1 ≡ length ps = omega (arith, long_push ps p) in
    let zeroth : eqb level 0 ≡ eqb p.line.level 0 = grind (arith, nat_tests) in
    let same : closes (seen_of level p.line) ≡ bare_top TRLR p.line.level p.line = ap (λ b. (b && has_tag TRLR p.line) && (not (has_identifier p.line) && is_nothing p.line.value)) zeroth in
    let there : at (lines_of (ps ++ p ∷ [])) (length (ps ++ p ∷ []) - 1) ≡ p.line = ap (at (lines_of (ps ++ p ∷ []))) n ∙ at_new ps p in
    let d = bare_decides TRLR p.line in
    record {
      is = λ t. there ∙ d.0 (sym same ∙ t);
      only = λ h. same ∙ d.1 (sym there ∙ h);
      there = (λ i. (spot (length ps + 1) (sym (byte_new ps p) i))) ∙ ap (spot_of (ps ++ p ∷ [])) (sym n);
    }

keeps7_before : (ls : List Line) (i : ℕ) → i + 1 < length ls → NoTrailer ls i → Keeps7 ls i
keeps7_before ls i h k = (λ e. absurd (omega arith), λ l. k)

pub closing_noted : (ps : List Placed) (exact : Bool) (here : Place) (o : Option Place) → 0 < length ps → Closed ps exact here → Noted (NoTrailer (lines_of ps)) ps o → Noted (Keeps7 (lines_of ps)) ps (closing o exact here)
closing_noted ps exact here None some c h =
    let long = length-map ps (λ q. q.line) in
    let n : ℕ = length ps - 1 in (
      n,
      record {
        within = omega arith;
        breaks = λ k. let e = k.0 (omega arith) in h n (omega arith) (ap (λ (l : Line). l.level) e) (ap (λ (l : Line). l.tag) e);
        before = λ j l. keeps7_before (lines_of ps) j (omega arith) (h j (omega arith));
      },
      c.there,
    )
closing_noted ps exact here (Some s) some c h =
    let long = length-map ps (λ q. q.line) in
    let n : ℕ = length ps - 1 in
    let i : ℕ = h.0 in
    let f = h.1 in
    let w = f.within in
    let line : s.line ≡ i + 1 = ap (λ (q : Place). q.line) h.2 in
    let end : here.line ≡ n + 1 = ap (λ (q : Place). q.line) c.there in
    cond_both (ltb s.line here.line) (Some s) (cond exact None (Some here)) (Noted (Keeps7 (lines_of ps)) ps)
    (λ e. let less = ltb-true s.line here.line e in (i, record { within = w; breaks = λ k. f.breaks (k.1 (omega arith)); before = λ j l. keeps7_before (lines_of ps) j (omega arith) (f.before j l) }, h.2))
    (λ e. let least = ltb-false s.line here.line e in let up : i ≡ n = omega arith in cond_both exact None (Some here) (Noted (Keeps7 (lines_of ps)) ps)
    (λ t j l. elim (cases_lt j n) [
      | inl q ↦ keeps7_before (lines_of ps) j (omega arith) (f.before j (omega arith))
      | inr q ↦ (λ a. subst (λ k. at (lines_of ps) k ≡ TRLR_line) (let z : n ≡ j = omega arith in z) (c.is t), λ a. absurd (omega arith))
    ])
    (λ t. (n, record { within = omega arith; breaks = λ k. both_ways exact t (c.only (k.0 (omega arith))); before = λ j l. keeps7_before (lines_of ps) j (omega arith) (f.before j (omega arith)) }, c.there)))

-- The end

pub refusal : (r : LineRule) (cards : ℕ) (ps : List Placed) (s : Place) → Noted (LineKeeps r cards ps) ps (Some s) → ((q : LineRule) → line_rule_number q < line_rule_number r → LinesKeep q cards ps) → LineRefusal cards ps (fault (line_rule_number r) s.line s.byte)
refusal r cards ps s h k = record { rule = r; earlier = k; breaks = record { place = h.0; first = h.1; told = ap (λ (q : Place). fault (line_rule_number r) q.line q.byte) h.2 } }

rule_of : ℕ → LineRule
rule_of n = cond (eqb n 5) levels (cond (eqb n 6) first (cond (eqb n 7) last (cond (eqb n 8) steps (cond (eqb n 9) named (cond (eqb n 10) continued (cond (eqb n 11) room (cond (eqb n 12) apart aimed)))))))

rule_of_number : (r : LineRule) → rule_of (line_rule_number r) ≡ r
unfolding rule_of
rule_of_number levels = refl
rule_of_number first = refl
rule_of_number last = refl
rule_of_number steps = refl
rule_of_number named = refl
rule_of_number continued = refl
rule_of_number room = refl
rule_of_number apart = refl
rule_of_number aimed = refl

lowest : (r : LineRule) → 5 ≤ line_rule_number r
lowest levels = omega arith
lowest first = omega arith
lowest last = omega arith
lowest steps = omega arith
lowest named = omega arith
lowest continued = omega arith
lowest room = omega arith
lowest apart = omega arith
lowest aimed = omega arith

highest : (r : LineRule) → line_rule_number r < 14
highest levels = omega arith
highest first = omega arith
highest last = omega arith
highest steps = omega arith
highest named = omega arith
highest continued = omega arith
highest room = omega arith
highest apart = omega arith
highest aimed = omega arith

-- one rule after the other
pub kept_start : (cards : ℕ) (ps : List Placed) → RulesKept 5 cards ps
kept_start cards ps r h = absurd (omega (arith, lowest r))

pub kept_next : (k : ℕ) (rule : LineRule) (cards : ℕ) (ps : List Placed) → line_rule_number rule ≡ k → RulesKept k cards ps → LinesKeep rule cards ps → RulesKept (k + 1) cards ps
kept_next k rule cards ps e kept one r h = elim (cases_lt (line_rule_number r) k) [
  | inl l ↦ kept r l
  | inr l ↦ subst (λ q. LinesKeep q cards ps) (sym (rule_of_number rule) ∙ ap rule_of (let z : line_rule_number rule ≡ line_rule_number r = omega arith in z) ∙ rule_of_number r) one
]

pub kept_all : (cards : ℕ) (ps : List Placed) → RulesKept 14 cards ps → (r : LineRule) → LinesKeep r cards ps
kept_all cards ps k r = k r (highest r)

-- one rule more is asked of lines that keep those before it
pub told_next : (k m : ℕ) (rule : LineRule) (cards : ℕ) (ps : List Placed) (o : Option Place) (rest : Option Fault) → line_rule_number rule ≡ k → RulesKept k cards ps → Noted (LineKeeps rule cards ps) ps o → (o ≡ None → RulesKept (k + 1) cards ps → Verdict m cards ps rest) → Verdict m cards ps (told k o rest)
told_next k m rule cards ps None rest e kept h more = more refl (kept_next k rule cards ps e kept h)
told_next k m rule cards ps (Some s) rest e kept h more = subst (λ n. LineRefusal cards ps (fault n s.line s.byte)) e (refusal rule cards ps s h (subst (λ n. RulesKept n cards ps) (sym e) kept))

-- the lines keep the rules 5 to 10, and more is asked of them; or the lowest that they do not is told, with the first line that breaks it
pub ruled_verdict : (m cards : ℕ) (ps : List Placed) (o : Last) (s : Notes) (exact : Bool) (here : Place) (rest : Option Fault) → 0 < length ps → Ruled ps o s → Closed ps exact here → (RulesKept 11 cards ps → Verdict m cards ps rest) → Verdict m cards ps (verdict s exact here rest)
ruled_verdict m cards ps o s exact here rest some r c more =
    told_next 5 m levels cards ps s.levels (told 6 s.first (told 7 (closing s.trailer exact here) (told 8 s.steps (told 9 s.named (told 10 s.continued rest))))) refl (kept_start cards ps) r.levels (λ e5 k6.
    told_next 6 m first cards ps s.first (told 7 (closing s.trailer exact here) (told 8 s.steps (told 9 s.named (told 10 s.continued rest)))) refl k6 (r.first e5) (λ e6 k7.
    let t = r.inner e5 e6 in
    told_next 7 m last cards ps (closing s.trailer exact here) (told 8 s.steps (told 9 s.named (told 10 s.continued rest))) refl k7 (closing_noted ps exact here s.trailer some c t.trailer) (λ e7 k8.
    told_next 8 m steps cards ps s.steps (told 9 s.named (told 10 s.continued rest)) refl k8 t.steps (λ e8 k9.
    told_next 9 m named cards ps s.named (told 10 s.continued rest) refl k9 t.named (λ e9 k10.
    told_next 10 m continued cards ps s.continued rest refl k10 t.continued (λ e10 k11. more k11))))))

pub kept_ordered : (cards : ℕ) (ps : List Placed) → 0 < length ps → RulesKept 11 cards ps → Ordered (lines_of ps)
kept_ordered cards ps h k =
    let long = length-map ps (λ p. p.line) in
    record {
      some = omega arith;
      levels = λ i l. k levels (omega arith) i (omega arith);
      first = λ i l. k first (omega arith) i (omega arith);
      last = λ i l. k last (omega arith) i (omega arith);
      steps = λ i l. k steps (omega arith) i (omega arith);
      named = λ i l. k named (omega arith) i (omega arith);
      continued = λ i l. k continued (omega arith) i (omega arith);
    }
