-- The rules that lines keep by their places, as a walk along them. Assumes nothing.
use Rattle.std.proofs.Common.{◌≡◌, ℕ, zero, suc, ◌+◌, ◌<◌, ◌≤◌, ◌⊎◌, List, [], ◌∷◌, ◌++◌, length, get_or, None, sym, refl, ap, ◌∙◌, subst, inl, inr, arith, length-append}
use Rattle.std.specs.List.{AllByRecursion}
use Rattle.std.proofs.ByRecursion.{All-append, All-get_or, All-from_get_or}
use Rattle.std.proofs.lemmas.Slice.Eq.{bytes_eq-Decides}
use Rattle.std.proofs.lemmas.List.{get_or_at, get_or_append_left}
use Rattle.std.proofs.lemmas.Bool.{cases_order, cases_Bool, both_ways}
use Rattle.std.specs.Str.{bytes_eq}
use Rattle.model.specs.Lines.{Line, nothing, line_of}
use Rattle.model.specs.Datasets.{HEAD, TRLR, CONT, CONC}
use Rattle.model.specs.Files.{at, LastOther, IsPointer, Continues, Keeps6, Keeps7, Keeps8, Keeps10, Throughout, Ordered}

pub tag_cases : (t u : List ℕ) → (t ≡ u) ⊎ (t ≡ u → ⊥)
tag_cases t u = elim (cases_Bool (bytes_eq t u)) [
  | inl e ↦ inl ((bytes_eq-Decides t u).0 e)
  | inr e ↦ inr (λ h. both_ways (bytes_eq t u) e ((bytes_eq-Decides t u).1 h))
]

abbrev pub HEAD_line : Line
HEAD_line = line_of 0 None HEAD nothing

abbrev pub TRLR_line : Line
TRLR_line = line_of 0 None TRLR nothing

pub head_not_trlr : HEAD ≡ TRLR → ⊥
head_not_trlr e = omega (arith, ap (λ cs. get_or cs 0 0) e)

pub head_not_cont : HEAD ≡ CONT → ⊥
head_not_cont e = omega (arith, ap (λ cs. get_or cs 0 0) e)

pub head_not_conc : HEAD ≡ CONC → ⊥
head_not_conc e = omega (arith, ap (λ cs. get_or cs 0 0) e)

pub trlr_not_cont : TRLR ≡ CONT → ⊥
trlr_not_cont e = omega (arith, ap (λ cs. get_or cs 0 0) e)

pub trlr_not_conc : TRLR ≡ CONC → ⊥
trlr_not_conc e = omega (arith, ap (λ cs. get_or cs 0 0) e)

pub cont_not_conc : CONT ≡ CONC → ⊥
cont_not_conc e = omega (arith, ap (λ cs. get_or cs 3 0) e)

-- The walk

-- lines from the place n on, where the last other line before them is o, at the place j
pub data Follows : ℕ → Line → ℕ → List Line → Type 0 where
  done : {j : ℕ} {o : Line} {n : ℕ} → Follows j o n []
  more : {j : ℕ} {o : Line} {n : ℕ} {l : Line} {ls : List Line} → l.tag ≡ CONT → l.level ≡ o.level + 1 → 0 < j → (IsPointer o.value → ⊥) → (IsPointer l.value → ⊥) → Follows j o (suc n) ls → Follows j o n (l ∷ ls)
  other : {j : ℕ} {o : Line} {n : ℕ} {l : Line} {ls : List Line} → (l.tag ≡ CONT → ⊥) → (l.tag ≡ CONC → ⊥) → l.level ≤ o.level + 1 → Follows n l (suc n) ls → Follows j o n (l ∷ ls)

pub follows_front : (j : ℕ) (o : Line) (n : ℕ) (ls ms : List Line) → Follows j o n (ls ++ ms) → Follows j o n ls
follows_front j o n [] ms w = done
follows_front j o n (l ∷ ls) ms (more a b c d e w) = more a b c d e (follows_front j o (suc n) ls ms w)
follows_front j o n (l ∷ ls) ms (other a b c w) = other a b c (follows_front n l (suc n) ls ms w)

pub follows_trailer : (j : ℕ) (o : Line) (n : ℕ) (ls : List Line) → Follows j o n ls → Follows j o n (ls ++ TRLR_line ∷ [])
follows_trailer j o n [] done = other trlr_not_cont trlr_not_conc (omega arith) done
follows_trailer j o n (l ∷ ls) (more a b c d e w) = more a b c d e (follows_trailer j o (suc n) ls w)
follows_trailer j o n (l ∷ ls) (other a b c w) = other a b c (follows_trailer n l (suc n) ls w)

-- Places

abbrev Reads : List Line → ℕ → List Line → Type 0
Reads all n [] = n ≡ length all
Reads all n (l ∷ ls) = (at all n ≡ l) × Reads all (suc n) ls

reads_later : (x : Line) (all : List Line) (n : ℕ) (rest : List Line) → Reads all n rest → Reads (x ∷ all) (suc n) rest
reads_later x all n [] r = ap suc r
reads_later x all n (l ∷ ls) r = (r.0, reads_later x all (suc n) ls r.1)

reads_all : (all : List Line) → Reads all 0 all
reads_all [] = refl
reads_all (x ∷ all) = (refl, reads_later x all 0 all (reads_all all))

reads_length : (all : List Line) (n : ℕ) (rest : List Line) → Reads all n rest → n + length rest ≡ length all
reads_length all n [] r = omega arith
reads_length all n (l ∷ ls) r = omega (arith, reads_length all (suc n) ls r.1)

pub last_once : (all : List Line) (i j k : ℕ) → LastOther all i j → LastOther all i k → j ≡ k
last_once all i j k a b = elim (cases_order j k) [
  | inl e ↦ e
  | inr (inl l) ↦ absurd (b.other (a.since k l b.before))
  | inr (inr l) ↦ absurd (a.other (b.since j l a.before))
]

pub last_kept : (all : List Line) (n j : ℕ) → LastOther all n j → (at all n).tag ≡ CONT → LastOther all (suc n) j
last_kept all n j a e = record {
  before = omega (arith, a.before);
  other = a.other;
  since = λ k l h. elim (cases_order k n) [
    | inl q ↦ subst (λ m. (at all m).tag ≡ CONT) (sym q) e
    | inr (inl q) ↦ a.since k l q
    | inr (inr q) ↦ absurd (omega arith)
  ];
}

pub last_new : (all : List Line) (n : ℕ) → ((at all n).tag ≡ CONT → ⊥) → LastOther all (suc n) n
last_new all n h = record { before = omega arith; other = h; since = λ k l m. absurd (omega arith) }

walk_in : (all : List Line) → Throughout Keeps8 all → Throughout Keeps10 all → (j n : ℕ) (rest : List Line) → Reads all n rest → LastOther all n j → Follows j (at all j) n rest
walk_in all k8 k10 j n [] r last = done
walk_in all k8 k10 j n (l ∷ ls) r last =
    let within : n < length all = omega (arith, reads_length all (suc n) ls r.1) in
    let kept = k10 n within in
    subst (λ k. Follows j (at all j) n (k ∷ ls)) r.0 (elim (tag_cases (at all n).tag CONT) [
      | inl e ↦
          let c = kept.1 e in
          let here : j ≡ c.0 = last_once all n j c.0 last c.1 in
          let cs : Continues all n j = subst (Continues all n) (sym here) c.2 in
          more e cs.deeper cs.not_first cs.text_before cs.text_here (walk_in all k8 k10 j (suc n) ls r.1 (last_kept all n j last e))
      | inr e ↦ other e kept.0 (k8 n within e j last) (walk_in all k8 k10 n (suc n) ls r.1 (last_new all n e))
    ])

abbrev Both : List Line → ℕ → Type 0
Both all i = Keeps8 all i × Keeps10 all i

here_or_later : (all : List Line) (n i : ℕ) → n ≤ i → Both all n → (suc n ≤ i → Both all i) → Both all i
here_or_later all n i l now later = elim (cases_order n i) [
  | inl e ↦ subst (Both all) e now
  | inr (inl q) ↦ later (omega arith)
  | inr (inr q) ↦ absurd (omega arith)
]

walk_out : (all : List Line) (j n : ℕ) (o : Line) (rest : List Line) → Reads all n rest → at all j ≡ o → LastOther all n j → Follows j o n rest → (i : ℕ) → n ≤ i → i < length all → Both all i
walk_out all j n o [] r e last done i low high = absurd (omega arith)
walk_out all j n o (l ∷ ls) r e last (more tag level later before here w) i low high =
    let tagged : (at all n).tag ≡ CONT = ap (λ (k : Line). k.tag) r.0 ∙ tag in
    let now : Both all n = (
      λ not. absurd (not tagged),
      (
        λ c. cont_not_conc (sym tagged ∙ c),
        λ t. (
          j,
          last,
          record {
            deeper = ap (λ (k : Line). k.level) r.0 ∙ level ∙ ap (λ (k : Line). k.level + 1) (sym e);
            not_first = later;
            text_before = λ p. before (subst (λ (k : Line). IsPointer k.value) e p);
            text_here = λ p. here (subst (λ (k : Line). IsPointer k.value) r.0 p);
          },
        ),
      ),
    ) in
    here_or_later all n i low now (λ q. walk_out all j (suc n) o ls r.1 e (last_kept all n j last tagged) w i q high)
walk_out all j n o (l ∷ ls) r e last (other tag joint level w) i low high =
    let tagged : (at all n).tag ≡ CONT → ⊥ = λ h. tag (ap (λ (k : Line). k.tag) (sym r.0) ∙ h) in
    let below : (at all n).level ≤ (at all j).level + 1 = subst (λ (k : Line). k.level ≤ (at all j).level + 1) (sym r.0) (subst (λ (k : Line). l.level ≤ k.level + 1) (sym e) level) in
    let now : Both all n = (λ not k lk. subst (λ m. (at all n).level ≤ (at all m).level + 1) (last_once all n j k last lk) below, (λ c. joint (ap (λ (k : Line). k.tag) (sym r.0) ∙ c), λ t. absurd (tagged t))) in
    here_or_later all n i low now (λ q. walk_out all n (suc n) l ls r.1 r.0 (last_new all n tagged) w i q high)

-- The frame: header and trailer, and between them lines that follow

pub record TopLine (l : Line) : Type 0 where
  pub no_header : l.level ≡ 0 → l.tag ≡ HEAD → ⊥
  pub no_trailer : l.level ≡ 0 → l.tag ≡ TRLR → ⊥

abbrev pub NamedLine : Line → Type 0
NamedLine l = 0 < l.level → l.identifier ≡ None

abbrev pub Shallow : Line → Type 0
Shallow l = l.level ≤ 63

abbrev pub framed : List Line → List Line
framed mid = HEAD_line ∷ mid ++ TRLR_line ∷ []

pub record Framed (mid : List Line) : Type 0 where
  pub follows : Follows 0 HEAD_line 1 mid
  pub tops : AllByRecursion TopLine mid
  pub named : AllByRecursion NamedLine mid
  pub levels : AllByRecursion Shallow mid

abbrev NoHeader : Line → Type 0
NoHeader l = l.level ≡ 0 → l.tag ≡ HEAD → ⊥

abbrev NoTrailer : Line → Type 0
NoTrailer l = l.level ≡ 0 → l.tag ≡ TRLR → ⊥

abbrev blank_line : Line
blank_line = line_of 0 None [] nothing

headers_out : (mid : List Line) → AllByRecursion TopLine mid → AllByRecursion NoHeader (mid ++ TRLR_line ∷ [])
headers_out [] t = (λ z h. head_not_trlr (sym h), tt)
headers_out (l ∷ mid) t = (t.0.no_header, headers_out mid t.1)

trailers_out : (mid : List Line) → AllByRecursion TopLine mid → AllByRecursion NoTrailer mid
trailers_out [] t = tt
trailers_out (l ∷ mid) t = (t.0.no_trailer, trailers_out mid t.1)

first_kept : (mid : List Line) → AllByRecursion TopLine mid → Throughout Keeps6 (framed mid)
first_kept mid t zero h = (λ e. refl, λ p. absurd (omega arith))
first_kept mid t (suc i) h = (λ e. absurd (omega arith), λ p. All-get_or NoHeader (mid ++ TRLR_line ∷ []) i blank_line (omega arith) (headers_out mid t))

last_kept_by : (mid : List Line) → AllByRecursion TopLine mid → Throughout Keeps7 (framed mid)
last_kept_by mid t i h =
    let long = length-append mid (TRLR_line ∷ []) in (
      λ e. get_or_at (HEAD_line ∷ mid) TRLR_line [] blank_line i (omega arith),
      λ l. let small : i < length (HEAD_line ∷ mid) = omega arith in
          subst NoTrailer (sym (get_or_append_left (HEAD_line ∷ mid) (TRLR_line ∷ []) blank_line i small)) (All-get_or NoTrailer (HEAD_line ∷ mid) i blank_line small (λ z q. head_not_trlr q, trailers_out mid t)),
    )

both_kept : (mid : List Line) → Follows 0 HEAD_line 1 mid → (i : ℕ) → i < length (framed mid) → Both (framed mid) i
both_kept mid w zero h = (λ not j last. absurd (let q = last.before in omega arith), (λ c. head_not_conc c, λ c. absurd (head_not_cont c)))
both_kept mid w (suc i) h =
    walk_out (framed mid) 0 1 HEAD_line (mid ++ TRLR_line ∷ []) (reads_later HEAD_line (mid ++ TRLR_line ∷ []) 0 (mid ++ TRLR_line ∷ []) (reads_all (mid ++ TRLR_line ∷ []))) refl (last_new (framed mid) 0 head_not_cont) (follows_trailer 0 HEAD_line 1 mid w) (suc i) (omega arith) h

pub framed_ordered : (mid : List Line) → Framed mid → Ordered (framed mid)
framed_ordered mid f = record {
  some = omega arith;
  levels = λ i h. All-get_or Shallow (framed mid) i blank_line h (omega arith, All-append Shallow mid (TRLR_line ∷ []) f.levels (omega arith, tt));
  first = first_kept mid f.tops;
  last = last_kept_by mid f.tops;
  steps = λ i h. (both_kept mid f.follows i h).0;
  named = λ i h. All-get_or NamedLine (framed mid) i blank_line h (λ p. refl, All-append NamedLine mid (TRLR_line ∷ []) f.named (λ p. refl, tt));
  continued = λ i h. (both_kept mid f.follows i h).1;
}

-- And back

parted : (x : Line) (xs : List Line) → (mid : List Line) × (y : Line) × (x ∷ xs ≡ mid ++ y ∷ [])
parted x [] = ([], x, refl)
parted x (z ∷ zs) = let r = parted z zs in (x ∷ r.0, r.1, ap (λ l. x ∷ l) r.2)

framed_parts : (ls : List Line) → Ordered ls → (mid : List Line) × (ls ≡ framed mid)
framed_parts [] o = absurd (let p = o.some in omega arith)
framed_parts (l ∷ []) o =
    let first : l ≡ HEAD_line = (o.first 0 (omega arith)).0 refl in
    let last : l ≡ TRLR_line = (o.last 0 (omega arith)).0 refl in
    absurd (head_not_trlr (ap (λ (k : Line). k.tag) (sym first ∙ last)))
framed_parts (l ∷ x ∷ xs) o =
    let first : l ≡ HEAD_line = (o.first 0 (omega arith)).0 refl in
    let r = parted x xs in
    let long : length (x ∷ xs) ≡ length r.0 + 1 = ap length r.2 ∙ length-append r.0 (r.1 ∷ []) in
    let there : at (l ∷ x ∷ xs) (length (x ∷ xs)) ≡ TRLR_line = (o.last (length (x ∷ xs)) (omega arith)).0 (omega arith) in
    let same : at (l ∷ x ∷ xs) (length (x ∷ xs)) ≡ r.1 = ap (λ ls. at (l ∷ ls) (length (x ∷ xs))) r.2 ∙ get_or_at (l ∷ r.0) r.1 [] blank_line (length (x ∷ xs)) (omega arith) in
    let last : r.1 ≡ TRLR_line = sym same ∙ there in
    (r.0, λ i. first i ∷ (r.2 ∙ ap (λ y. r.0 ++ y ∷ []) last) i)

inside : (mid : List Line) (i : ℕ) → i < length mid → at (framed mid) (suc i) ≡ get_or mid i blank_line
inside mid i h = get_or_append_left mid (TRLR_line ∷ []) blank_line i h

pub ordered_framed : (mid : List Line) → Ordered (framed mid) → Framed mid
ordered_framed mid o =
    let long = length-append mid (TRLR_line ∷ []) in
    record {
      follows = follows_front 0 HEAD_line 1 mid (TRLR_line ∷ []) (walk_in (framed mid) o.steps o.continued 0 1 (mid ++ TRLR_line ∷ []) (reads_later HEAD_line (mid ++ TRLR_line ∷ []) 0 (mid ++ TRLR_line ∷ []) (reads_all (mid ++ TRLR_line ∷ []))) (last_new (framed mid) 0 head_not_cont));
      tops = All-from_get_or TopLine mid blank_line (λ i h. subst TopLine (inside mid i h) (record { no_header = (o.first (suc i) (omega arith)).1 (omega arith); no_trailer = (o.last (suc i) (omega arith)).1 (omega arith) }));
      named = All-from_get_or NamedLine mid blank_line (λ i h. subst NamedLine (inside mid i h) (o.named (suc i) (omega arith)));
      levels = All-from_get_or Shallow mid blank_line (λ i h. subst Shallow (inside mid i h) (o.levels (suc i) (omega arith)));
    }

pub framed_of : (ls : List Line) → Ordered ls → (mid : List Line) × (ls ≡ framed mid) × Framed mid
framed_of ls o = let r = framed_parts ls o in (r.0, r.1, ordered_framed r.0 (subst Ordered r.1 o))
