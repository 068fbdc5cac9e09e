-- The scan of a line finds the good line that the bytes spell, where there is one. Assumes nothing.
use Rattle.std.proofs.Common.{◌≡◌, ℕ, suc, ◌+◌, ◌-◌, ◌*◌, ◌/◌, ◌%◌, ◌<◌, Bool, true, false, cond, not, ◌||◌, eqb, List, [], ◌∷◌, ◌++◌, map, length, get_or, take, drop, Some, None, codes, Option, sym, refl, ap, ◌∙◌, subst, inl, inr, append_assoc, append-nil, arith, take-append-drop, take_at, drop_at}
use mathlib.Core.List.{append_cancel_right, tail-eq_of_cons-eq}
use lib.Utf8.{scalars, scalar, encode, encodes}
use Rattle.std.specs.List.{AllByRecursion, prefix_len}
use Rattle.std.specs.Char.{is_ascii_digit, is_ascii_uppercase}
use Rattle.std.specs.Int.Digits.{digits_of, number_from_digits_after}
use Rattle.std.proofs.lemmas.Int.Digits.{digits_of_step, first_digits_of, number_after_ge}
use Rattle.std.proofs.lemmas.Slice.Eq.{bytes_eq-Decides}
use Rattle.std.proofs.lemmas.Bool.{and_parts, and_from, eqb-true, eqb-false, cond-true, cond-false, cond_both, cases_Bool, not-true, ne_eqb, both_ways}
use Rattle.std.proofs.lemmas.Str.{encode_ascii, cons_from_encodes}
use Rattle.std.proofs.lemmas.Bool.Decides.{nat_tests}
use Rattle.std.proofs.ByRecursion.{All-append, All-map, All-weaker}
use Rattle.model.specs.Characters.{Clean, banned, none_banned}
use Rattle.model.specs.Lines.{Line, Value, nothing, void, pointer, text, VOID, GoodLine, GoodValue, GoodIdentifier, Identifier, TextLine, tag_char, tag_chars, is_tag, no_end, spell, spell_value, spell_identifier, numeral, line_of}
use Rattle.model.specs.Removal.{then}
use Rattle.model.specs.Scan.{front, after, read_byte, is_level, number_of, read_level, is_name, read_name, marked, is_void, named, read_identifier, read_tag, pointed, read_marked, read_payload, read_value, parse_tag, parse_identifier, parse}
use Rattle.model.proofs.Options.{never, then_some, then_is, cond_cases, only_true, only_false, some_same}
use Rattle.model.proofs.Parts.{Begins}
use Rattle.model.proofs.Spelling.{Digit, PlainByte, tag_chars_plain, tag_plain, numeral_digits, numeral_read, tag_starts_plain}

-- Fronts

one_more : (n : ℕ) → suc n ≡ 1 + n
one_more n = omega arith

module _ (p : ℕ → Bool) where
  pub front_passes : (bs : List ℕ) → AllByRecursion (λ c. p c ≡ true) (front p bs)
  front_passes [] = tt
  front_passes (c ∷ cs) = cond_both (p c) (1 + prefix_len p cs) 0 (λ n. AllByRecursion (λ c. p c ≡ true) (take n (c ∷ cs))) (λ e. subst (λ n. AllByRecursion (λ c. p c ≡ true) (take n (c ∷ cs))) (one_more (prefix_len p cs)) (e, front_passes cs)) (λ e. tt)

  pub after_stops : (bs : List ℕ) → Begins (λ c. p c ≡ false) (after p bs)
  after_stops [] = tt
  after_stops (c ∷ cs) = cond_both (p c) (1 + prefix_len p cs) 0 (λ n. Begins (λ c. p c ≡ false) (drop n (c ∷ cs))) (λ e. subst (λ n. Begins (λ c. p c ≡ false) (drop n (c ∷ cs))) (one_more (prefix_len p cs)) (after_stops cs)) (λ e. e)

  pub front_after : (bs : List ℕ) → front p bs ++ after p bs ≡ bs
  front_after bs = take-append-drop (prefix_len p bs) bs

  leading_stops : (u : List ℕ) → Begins (λ c. p c ≡ false) u → prefix_len p u ≡ 0
  leading_stops [] s = refl
  leading_stops (c ∷ cs) s = cond-false (p c) (1 + prefix_len p cs) 0 s

  leading_is : (xs u : List ℕ) → AllByRecursion (λ c. p c ≡ true) xs → Begins (λ c. p c ≡ false) u → prefix_len p (xs ++ u) ≡ length xs
  leading_is [] u h s = leading_stops u s
  leading_is (x ∷ xs) u h s = cond-true (p x) (1 + prefix_len p (xs ++ u)) 0 h.0 ∙ sym (one_more (prefix_len p (xs ++ u))) ∙ ap suc (leading_is xs u h.1 s)

  pub front_is : (xs u : List ℕ) → AllByRecursion (λ c. p c ≡ true) xs → Begins (λ c. p c ≡ false) u → front p (xs ++ u) ≡ xs
  front_is xs u h s = take_at xs u (prefix_len p (xs ++ u)) (sym (leading_is xs u h s))

  pub after_is : (xs u : List ℕ) → AllByRecursion (λ c. p c ≡ true) xs → Begins (λ c. p c ≡ false) u → after p (xs ++ u) ≡ u
  after_is xs u h s = drop_at xs u (prefix_len p (xs ++ u)) (sym (leading_is xs u h s))

-- Clean bytes behind ASCII ones

abbrev pub Ascii : ℕ → Type 0
Ascii c = c < 128

pub clean_tail : (c : ℕ) (bs : List ℕ) → Ascii c → Clean (c ∷ bs) → Clean bs
clean_tail c bs low k =
    let whole : encodes k.characters ≡ encode c ++ bs = k.are ∙ sym (ap (λ b. b ++ bs) (encode_ascii c low)) in
    let (es, is, rest) = cons_from_encodes k.characters bs c whole in
    let real : scalars (c ∷ es) ≡ true = subst (λ cs. scalars cs ≡ true) is k.real in
    let allowed : none_banned (c ∷ es) ≡ true = subst (λ cs. none_banned cs ≡ true) is k.allowed in
    record { characters = es; real = (and_parts (scalar c) (scalars es) real).1; allowed = (and_parts (not (banned c)) (none_banned es) allowed).1; are = rest }

pub line_tail : (c : ℕ) (bs : List ℕ) → Ascii c → TextLine (c ∷ bs) → TextLine bs
line_tail c bs low t = record { clean = clean_tail c bs low t.clean; one = (and_parts (not (eqb c 10 || eqb c 13)) (no_end bs) t.one).1 }

pub line_behind : (xs bs : List ℕ) → AllByRecursion Ascii xs → TextLine (xs ++ bs) → TextLine bs
line_behind [] bs low t = t
line_behind (x ∷ xs) bs low t = line_behind xs bs low.1 (line_tail x (xs ++ bs) low.0 t)

-- Levels

digits_after : (n : ℕ) (ds : List ℕ) → 0 < n → AllByRecursion (λ d. d < 10) ds → digits_of 10 (number_from_digits_after 10 n ds) ≡ digits_of 10 n ++ ds
digits_after n [] some h = sym (append-nil (digits_of 10 n))
digits_after n (d ∷ ds) some h =
    let under = h.0 in
    let high : (n * 10 + d) / 10 ≡ n = omega arith in
    let low : (n * 10 + d) % 10 ≡ d = omega arith in
    let more : 0 < n * 10 + d = omega arith in
    let step : digits_of 10 (n * 10 + d) ≡ digits_of 10 n ++ (d ∷ []) = digits_of_step 10 (n * 10 + d) (omega arith) more ∙ (λ i. digits_of 10 (high i) ++ (low i ∷ [])) in
    digits_after (n * 10 + d) ds more h.1 ∙ ap (λ x. x ++ ds) step ∙ append_assoc (digits_of 10 n) (d ∷ []) ds

one_digit : (d : ℕ) → 0 < d → d < 10 → digits_of 10 d ≡ d ∷ []
one_digit d some under =
    let high : d / 10 ≡ 0 = omega arith in
    let low : d % 10 ≡ d = omega arith in
    digits_of_step 10 d (omega arith) some ∙ (λ i. digits_of 10 (high i) ++ (low i ∷ []))

digit_is : (c : ℕ) → is_ascii_digit c ≡ true → Digit c
digit_is c h = (grind (arith, nat_tests), grind (arith, nat_tests))

raised : (cs : List ℕ) → AllByRecursion (λ c. is_ascii_digit c ≡ true) cs → map (λ d. 48 + d) (map (λ c. c - 48) cs) ≡ cs
raised [] h = refl
raised (c ∷ cs) h = let d = digit_is c h.0 in let e : 48 + (c - 48) ≡ c = omega arith in λ i. e i ∷ raised cs h.1 i

lowered_under : (cs : List ℕ) → AllByRecursion (λ c. is_ascii_digit c ≡ true) cs → AllByRecursion (λ d. d < 10) (map (λ c. c - 48) cs)
lowered_under cs h = All-map (λ d. d < 10) (λ c. c - 48) cs (All-weaker (λ c. is_ascii_digit c ≡ true) (λ c. c - 48 < 10) (λ c e. let d = digit_is c e in omega arith) cs h)

numeral_first : (c : ℕ) (cs : List ℕ) → AllByRecursion (λ c. is_ascii_digit c ≡ true) (c ∷ cs) → (c ≡ 48 → ⊥) → numeral (number_of (c ∷ cs)) ≡ c ∷ cs
numeral_first c cs h other =
    let d = digit_is c h.0 in
    let k : ℕ = 0 * 10 + (c - 48) in
    let ds : List ℕ = map (λ c. c - 48) cs in
    let is : k ≡ c - 48 = omega arith in
    let some : 0 < k = omega arith in
    let bound = number_after_ge 10 k ds (omega arith) in
    let some_all : eqb (number_from_digits_after 10 k ds) 0 ≡ false = ne_eqb (number_from_digits_after 10 k ds) 0 (λ e. omega arith) in
    cond-false (eqb (number_from_digits_after 10 k ds) 0) (48 ∷ []) (map (λ d. 48 + d) (digits_of 10 (number_from_digits_after 10 k ds))) some_all
    ∙ ap (map (λ d. 48 + d)) (digits_after k ds some (lowered_under cs h.1) ∙ ap (λ x. x ++ ds) (one_digit k some (omega arith) ∙ ap (λ x. x ∷ []) is))
    ∙ raised (c ∷ cs) h

pub numeral_of : (cs : List ℕ) → AllByRecursion (λ c. is_ascii_digit c ≡ true) cs → is_level cs ≡ true → numeral (number_of cs) ≡ cs
numeral_of [] h l = absurd (both_ways false refl l)
numeral_of (c ∷ []) h l = elim (cases_Bool (eqb c 48)) [
  | inl e ↦ subst (λ c. numeral (number_of (c ∷ [])) ≡ c ∷ []) (sym (eqb-true c 48 e)) refl
  | inr e ↦ numeral_first c [] h (eqb-false c 48 e)
]
numeral_of (c ∷ d ∷ cs) h l = numeral_first c (d ∷ cs) h (eqb-false c 48 (not-true (eqb c 48) l))

-- What each step finds stands there

byte_sound : (b : ℕ) (bs rest : List ℕ) → read_byte b bs ≡ Some rest → b ∷ rest ≡ bs
byte_sound b [] rest e = never rest e
byte_sound b (c ∷ cs) rest e =
    let h = only_true (eqb c b) (Some cs) rest e in
    let same = some_same cs rest h.1 in
    let first = eqb-true c b h.0 in
    λ i. sym first i ∷ sym same i

level_sound : (bs : List ℕ) (r : ℕ × List ℕ) → read_level bs ≡ Some r → numeral r.0 ++ r.1 ≡ bs
level_sound bs r e =
    let h = only_true (is_level (front is_ascii_digit bs)) (Some (number_of (front is_ascii_digit bs), after is_ascii_digit bs)) r e in
    let same = some_same (number_of (front is_ascii_digit bs), after is_ascii_digit bs) r h.1 in
    subst (λ (s : ℕ × List ℕ). numeral s.0 ++ s.1 ≡ bs) same (ap (λ x. x ++ after is_ascii_digit bs) (numeral_of (front is_ascii_digit bs) (front_passes is_ascii_digit bs) h.0) ∙ front_after is_ascii_digit bs)

pub all_tag_chars : (cs : List ℕ) → AllByRecursion (λ c. tag_char c ≡ true) cs → tag_chars cs ≡ true
all_tag_chars [] h = refl
all_tag_chars (c ∷ cs) h = and_from (tag_char c) (tag_chars cs) h.0 (all_tag_chars cs h.1)

tag_chars_all : (cs : List ℕ) → tag_chars cs ≡ true → AllByRecursion (λ c. tag_char c ≡ true) cs
tag_chars_all [] h = tt
tag_chars_all (c ∷ cs) h = let p = and_parts (tag_char c) (tag_chars cs) h in (p.0, tag_chars_all cs p.1)

name_some : (name : List ℕ) → is_name name ≡ true → 0 < length name
name_some [] h = absurd (both_ways false refl h)
name_some (c ∷ cs) h = omega arith

some_name : (name : List ℕ) → 0 < length name → is_name name ≡ true
some_name [] h = absurd (omega arith)
some_name (c ∷ cs) h = refl

-- what stands between two @
record NameAt (bs : List ℕ) (r : List ℕ × List ℕ) : Type 0 where
  some : 0 < length r.0
  plain : tag_chars r.0 ≡ true
  are : r.0 ++ 64 ∷ r.1 ≡ bs

name_sound : (bs : List ℕ) (r : List ℕ × List ℕ) → read_name bs ≡ Some r → NameAt bs r
name_sound bs r e =
    let name : List ℕ = front tag_char bs in
    let h = only_true (is_name name) (then (read_byte 64 (after tag_char bs)) (λ rest. Some (name, rest))) r e in
    let (rest, at, e') = then_some (read_byte 64 (after tag_char bs)) (λ rest. Some (name, rest)) r h.1 in
    let same = some_same (name, rest) r e' in
    subst (NameAt bs) same (record { some = name_some name h.0; plain = all_tag_chars name (front_passes tag_char bs); are = ap (λ x. name ++ x) (byte_sound 64 (after tag_char bs) rest at) ∙ front_after tag_char bs })

void_name : (name : List ℕ) → marked name ≡ VOID → name ≡ codes "VOID"
void_name name e = append_cancel_right name (codes "VOID") (64 ∷ []) (tail-eq_of_cons-eq e)

name_identifier : (name : List ℕ) → 0 < length name → tag_chars name ≡ true → is_void name ≡ false → Identifier (marked name)
name_identifier name some plain other = record { name = name; some = some; plain = plain; marked = refl; not_void = λ e. both_ways (is_void name) other ((bytes_eq-Decides name (codes "VOID")).1 (void_name name e)) }

-- an identifier, if any, and what follows it
abbrev Identified : List ℕ → Option (List ℕ) × List ℕ → Type 0
Identified bs r = GoodIdentifier r.0 × (spell_identifier r.0 ++ r.1 ≡ bs)

named_sound : (bs : List ℕ) (n : List ℕ × List ℕ) (r : Option (List ℕ) × List ℕ) → NameAt bs n → named n ≡ Some r → Identified (64 ∷ bs) r
named_sound bs n r at e =
    let h = only_false (is_void n.0) (then (read_byte 32 n.1) (λ rest. Some (Some (marked n.0), rest))) r e in
    let (rest, space, e') = then_some (read_byte 32 n.1) (λ rest. Some (Some (marked n.0), rest)) r h.1 in
    let same = some_same (Some (marked n.0), rest) r e' in
    let whole : (marked n.0 ++ 32 ∷ []) ++ rest ≡ 64 ∷ bs = simp append_assoc (ap (λ x. 64 ∷ (n.0 ++ 64 ∷ x)) (byte_sound 32 n.1 rest space) ∙ ap (λ x. 64 ∷ x) at.are) in
    subst (Identified (64 ∷ bs)) same (name_identifier n.0 at.some at.plain h.0, whole)

identifier_sound : (bs : List ℕ) (r : Option (List ℕ) × List ℕ) → read_identifier bs ≡ Some r → Identified bs r
identifier_sound [] r e = subst (Identified []) (some_same (None, []) r e) (tt, refl)
identifier_sound (c ∷ cs) r e = elim (cond_cases (eqb c 64) (then (read_name cs) named) (Some (None, c ∷ cs)) (Some r) e) [
  | inl h ↦ let (n, at, e') = then_some (read_name cs) named r h.1 in subst (λ b. Identified (b ∷ cs) r) (sym (eqb-true c 64 h.0)) (named_sound cs n r (name_sound cs n at) e')
  | inr h ↦ subst (Identified (c ∷ cs)) (some_same (None, c ∷ cs) r h.1) (tt, refl)
]

tag_sound : (bs : List ℕ) (r : List ℕ × List ℕ) → read_tag bs ≡ Some r → (is_tag r.0 ≡ true) × (r.0 ++ r.1 ≡ bs)
tag_sound bs r e =
    let h = only_true (is_tag (front tag_char bs)) (Some (front tag_char bs, after tag_char bs)) r e in
    let same = some_same (front tag_char bs, after tag_char bs) r h.1 in
    subst (λ (s : List ℕ × List ℕ). (is_tag s.0 ≡ true) × (s.0 ++ s.1 ≡ bs)) same (h.0, front_after tag_char bs)

-- Values

abbrev Valued : List ℕ → Value → Type 0
Valued bs v = GoodValue v × (spell_value v ≡ bs)

no_name : (bs : List ℕ) → is_name bs ≡ false → bs ≡ []
no_name [] h = refl
no_name (c ∷ cs) h = absurd (both_ways true h refl)

pointed_sound : (bs : List ℕ) (n : List ℕ × List ℕ) (v : Value) → NameAt bs n → pointed n ≡ Some v → Valued (32 ∷ 64 ∷ bs) v
pointed_sound bs n v at e =
    let h = only_false (is_name n.1) (Some (cond (is_void n.0) void (pointer (marked n.0)))) v e in
    let last = no_name n.1 h.0 in
    let whole : marked n.0 ≡ 64 ∷ bs = ap (λ x. 64 ∷ (n.0 ++ 64 ∷ x)) (sym last) ∙ ap (λ x. 64 ∷ x) at.are in
    elim (cond_cases (is_void n.0) void (pointer (marked n.0)) v (some_same (cond (is_void n.0) void (pointer (marked n.0))) v h.1)) [
      | inl q ↦ let is = (bytes_eq-Decides n.0 (codes "VOID")).0 q.0 in subst (Valued (32 ∷ 64 ∷ bs)) q.1 (tt, ap (λ x. 32 ∷ marked x) (sym is) ∙ ap (λ x. 32 ∷ x) whole)
      | inr q ↦ subst (Valued (32 ∷ 64 ∷ bs)) q.1 (name_identifier n.0 at.some at.plain q.0, ap (λ x. 32 ∷ x) whole)
    ]

text_sound : (c : ℕ) (cs : List ℕ) → TextLine (c ∷ cs) → (c ≡ 64 → ⊥) → Valued (32 ∷ c ∷ cs) (text (c ∷ cs))
text_sound c cs t other = ((t, omega arith), ap (λ x. 32 ∷ x) (cond-false (eqb c 64) (64 ∷ c ∷ cs) (c ∷ cs) (ne_eqb c 64 other)))

marked_sound : (bs : List ℕ) (v : Value) → TextLine (64 ∷ bs) → read_marked bs ≡ Some v → Valued (32 ∷ 64 ∷ bs) v
marked_sound [] v t e = never v e
marked_sound (c ∷ cs) v t e = elim (cond_cases (eqb c 64) (Some (text (64 ∷ cs))) (then (read_name (c ∷ cs)) pointed) (Some v) e) [
  | inl h ↦ let second = eqb-true c 64 h.0 in subst (λ b. Valued (32 ∷ 64 ∷ b ∷ cs) v) (sym second) (subst (Valued (32 ∷ 64 ∷ 64 ∷ cs)) (some_same (text (64 ∷ cs)) v h.1) ((subst (λ b. TextLine (b ∷ cs)) second (line_tail 64 (c ∷ cs) (omega arith) t), omega arith), refl))
  | inr h ↦ let (n, at, e') = then_some (read_name (c ∷ cs)) pointed v h.1 in pointed_sound (c ∷ cs) n v (name_sound (c ∷ cs) n at) e'
]

payload_sound : (bs : List ℕ) (v : Value) → TextLine bs → read_payload bs ≡ Some v → Valued (32 ∷ bs) v
payload_sound [] v t e = never v e
payload_sound (c ∷ cs) v t e = elim (cond_cases (eqb c 64) (read_marked cs) (Some (text (c ∷ cs))) (Some v) e) [
  | inl h ↦ let first = eqb-true c 64 h.0 in subst (λ b. Valued (32 ∷ b ∷ cs) v) (sym first) (marked_sound cs v (subst (λ b. TextLine (b ∷ cs)) first t) h.1)
  | inr h ↦ subst (Valued (32 ∷ c ∷ cs)) (some_same (text (c ∷ cs)) v h.1) (text_sound c cs t (eqb-false c 64 h.0))
]

value_sound : (bs : List ℕ) (v : Value) → TextLine bs → read_value bs ≡ Some v → Valued bs v
value_sound [] v t e = subst (Valued []) (some_same nothing v e) (tt, refl)
value_sound (c ∷ cs) v t e =
    let h = only_true (eqb c 32) (read_payload cs) v e in
    let first = eqb-true c 32 h.0 in
    subst (λ b. Valued (b ∷ cs) v) (sym first) (payload_sound cs v (line_tail 32 cs (omega arith) (subst (λ b. TextLine (b ∷ cs)) first t)) h.1)

-- Lines

plain_ascii : (c : ℕ) → PlainByte c → Ascii c
plain_ascii c p = omega arith

identifier_ascii : (i : Option (List ℕ)) → GoodIdentifier i → AllByRecursion Ascii (spell_identifier i)
identifier_ascii None g = tt
identifier_ascii (Some i) g = All-append Ascii i (32 ∷ []) (subst (AllByRecursion Ascii) (sym g.marked) (All-append Ascii (64 ∷ g.name) (64 ∷ []) (omega arith, All-weaker PlainByte Ascii plain_ascii g.name (tag_chars_plain g.name g.plain)) (omega arith, tt))) (omega arith, tt)

abbrev Spells : List ℕ → Line → Type 0
Spells bs l = (spell l ≡ bs) × GoodLine l

module _ (bs : List ℕ) (t : TextLine bs) where
  found : (n : ℕ × List ℕ) (b : List ℕ) (i : Option (List ℕ) × List ℕ) (g : List ℕ × List ℕ) (v : Value) → read_level bs ≡ Some n → read_byte 32 n.1 ≡ Some b → read_identifier b ≡ Some i → read_tag i.1 ≡ Some g → read_value g.1 ≡ Some v → Spells bs (line_of n.0 i.0 g.0 v)
  found n b i g v e₀ e₁ e₂ e₃ e₄ =
      let level = level_sound bs n e₀ in
      let space = byte_sound 32 n.1 b e₁ in
      let identifier = identifier_sound b i e₂ in
      let tag = tag_sound i.1 g e₃ in
      let behind_level = line_behind (numeral n.0) n.1 (All-weaker Digit Ascii (λ c d. omega arith) (numeral n.0) (numeral_digits n.0)) (subst TextLine (sym level) t) in
      let behind_space = line_tail 32 b (omega arith) (subst TextLine (sym space) behind_level) in
      let behind_identifier = line_behind (spell_identifier i.0) i.1 (identifier_ascii i.0 identifier.0) (subst TextLine (sym identifier.1) behind_space) in
      let behind_tag = line_behind g.0 g.1 (All-weaker PlainByte Ascii plain_ascii g.0 (tag_plain g.0 tag.0)) (subst TextLine (sym tag.1) behind_identifier) in
      let value = value_sound g.1 v behind_tag e₄ in
      let tail : g.0 ++ spell_value v ≡ i.1 = ap (λ x. g.0 ++ x) value.1 ∙ tag.1 in
      let rest : spell_identifier i.0 ++ (g.0 ++ spell_value v) ≡ b = ap (λ x. spell_identifier i.0 ++ x) tail ∙ identifier.1 in
      let whole : numeral n.0 ++ 32 ∷ (spell_identifier i.0 ++ (g.0 ++ spell_value v)) ≡ bs = ap (λ x. numeral n.0 ++ 32 ∷ x) rest ∙ ap (λ x. numeral n.0 ++ x) space ∙ level in
      (simp append_assoc whole, record { identified = identifier.0; tagged = tag.0; valued = value.0 })

  found_value : (n : ℕ × List ℕ) (b : List ℕ) (i : Option (List ℕ) × List ℕ) (g : List ℕ × List ℕ) (l : Line) → read_level bs ≡ Some n → read_byte 32 n.1 ≡ Some b → read_identifier b ≡ Some i → read_tag i.1 ≡ Some g → then (read_value g.1) (λ v. Some (line_of n.0 i.0 g.0 v)) ≡ Some l → Spells bs l
  found_value n b i g l e₀ e₁ e₂ e₃ e =
      let (v, e₄, made) = then_some (read_value g.1) (λ v. Some (line_of n.0 i.0 g.0 v)) l e in
      subst (Spells bs) (some_same (line_of n.0 i.0 g.0 v) l made) (found n b i g v e₀ e₁ e₂ e₃ e₄)

  found_tag : (n : ℕ × List ℕ) (b : List ℕ) (i : Option (List ℕ) × List ℕ) (l : Line) → read_level bs ≡ Some n → read_byte 32 n.1 ≡ Some b → read_identifier b ≡ Some i → parse_tag n.0 i.0 i.1 ≡ Some l → Spells bs l
  found_tag n b i l e₀ e₁ e₂ e =
      let (g, e₃, more) = then_some (read_tag i.1) (λ g. then (read_value g.1) (λ v. Some (line_of n.0 i.0 g.0 v))) l e in
      found_value n b i g l e₀ e₁ e₂ e₃ more

  found_identifier : (n : ℕ × List ℕ) (b : List ℕ) (l : Line) → read_level bs ≡ Some n → read_byte 32 n.1 ≡ Some b → parse_identifier n.0 b ≡ Some l → Spells bs l
  found_identifier n b l e₀ e₁ e =
      let (i, e₂, more) = then_some (read_identifier b) (λ i. parse_tag n.0 i.0 i.1) l e in
      found_tag n b i l e₀ e₁ e₂ more

pub parse_sound : (bs : List ℕ) (l : Line) → TextLine bs → parse bs ≡ Some l → (spell l ≡ bs) × GoodLine l
parse_sound bs l t e =
    let (n, e₀, e₁) = then_some (read_level bs) (λ n. then (read_byte 32 n.1) (parse_identifier n.0)) l e in
    let (b, e₂, e₃) = then_some (read_byte 32 n.1) (parse_identifier n.0) l e₁ in
    found_identifier bs t n b l e₀ e₂ e₃

-- What is spelled is found

is_digit : (c : ℕ) → Digit c → is_ascii_digit c ≡ true
is_digit c d = grind (arith, nat_tests)

level_of : (ds : List ℕ) → 0 < get_or ds 0 0 → is_level (map (λ d. 48 + d) ds) ≡ true
level_of [] h = absurd (omega arith)
level_of (d ∷ []) h = refl
level_of (d ∷ e ∷ ds) h = ap not (ne_eqb (48 + d) 48 (λ e. omega arith))

numeral_level : (n : ℕ) → is_level (numeral n) ≡ true
numeral_level n = cond_both (eqb n 0) (48 ∷ []) (map (λ d. 48 + d) (digits_of 10 n)) (λ ds. is_level ds ≡ true) (λ e. refl) (λ e. let other = eqb-false n 0 e in level_of (digits_of 10 n) (first_digits_of 10 n (omega arith) (omega arith)))

level_complete : (n : ℕ) (u : List ℕ) → Begins (λ c. is_ascii_digit c ≡ false) u → read_level (numeral n ++ u) ≡ Some (n, u)
level_complete n u s =
    let all = All-weaker Digit (λ c. is_ascii_digit c ≡ true) is_digit (numeral n) (numeral_digits n) in
    let f = front_is is_ascii_digit (numeral n) u all s in
    let a = after_is is_ascii_digit (numeral n) u all s in
    (λ i. cond (is_level (f i)) (Some (number_of (f i), a i)) None) ∙ cond-true (is_level (numeral n)) (Some (number_of (numeral n), u)) None (numeral_level n) ∙ ap (λ m. Some (m, u)) (numeral_read n)

name_complete : (name u : List ℕ) → 0 < length name → tag_chars name ≡ true → read_name (name ++ 64 ∷ u) ≡ Some (name, u)
name_complete name u some plain =
    let f = front_is tag_char name (64 ∷ u) (tag_chars_all name plain) refl in
    let a = after_is tag_char name (64 ∷ u) (tag_chars_all name plain) refl in
    (λ i. cond (is_name (f i)) (then (read_byte 64 (a i)) (λ rest. Some (f i, rest))) None) ∙ cond-true (is_name name) (Some (name, u)) None (some_name name some)

identifier_not_void : (i : List ℕ) (g : Identifier i) → is_void g.name ≡ false
identifier_not_void i g = elim (cases_Bool (is_void g.name)) [
  | inl e ↦ absurd (g.not_void (g.marked ∙ ap marked ((bytes_eq-Decides g.name (codes "VOID")).0 e)))
  | inr e ↦ e
]

identifier_complete : (i : Option (List ℕ)) (u : List ℕ) → GoodIdentifier i → Begins PlainByte u → read_identifier (spell_identifier i ++ u) ≡ Some (i, u)
identifier_complete None [] g s = refl
identifier_complete None (c ∷ cs) g s = cond-false (eqb c 64) (then (read_name cs) named) (Some (None, c ∷ cs)) (ne_eqb c 64 s.no_at)
identifier_complete (Some i) u g s =
    let name : List ℕ = g.name in
    let spelled : spell_identifier (Some i) ++ u ≡ 64 ∷ (name ++ 64 ∷ 32 ∷ u) = ap (λ x. (x ++ 32 ∷ []) ++ u) g.marked ∙ simp append_assoc in
    let found : named (name, 32 ∷ u) ≡ Some (Some i, u) = cond-false (is_void name) None (Some (Some (marked name), u)) (identifier_not_void i g) ∙ ap (λ x. Some (Some x, u)) (sym g.marked) in
    ap read_identifier spelled ∙ then_is (read_name (name ++ 64 ∷ 32 ∷ u)) named (name, 32 ∷ u) (name_complete name (32 ∷ u) g.some g.plain) ∙ found

tag_all : (tag : List ℕ) → is_tag tag ≡ true → AllByRecursion (λ c. tag_char c ≡ true) tag
tag_all [] h = tt
tag_all (c ∷ []) h = (grind (arith, nat_tests), tt)
tag_all (c ∷ d ∷ cs) h =
    let p = and_parts (is_ascii_uppercase c || eqb c 95) (tag_chars (d ∷ cs)) h in
    let first = p.0 in
    (grind (arith, nat_tests), tag_chars_all (d ∷ cs) p.1)

tag_complete : (tag u : List ℕ) → is_tag tag ≡ true → Begins (λ c. tag_char c ≡ false) u → read_tag (tag ++ u) ≡ Some (tag, u)
tag_complete tag u h s =
    let f = front_is tag_char tag u (tag_all tag h) s in
    let a = after_is tag_char tag u (tag_all tag h) s in
    (λ i. cond (is_tag (f i)) (Some (f i, a i)) None) ∙ cond-true (is_tag tag) (Some (tag, u)) None h

pointer_complete : (c : ℕ) (cs : List ℕ) → PlainByte c → read_marked (c ∷ cs) ≡ then (read_name (c ∷ cs)) pointed
pointer_complete c cs p = cond-false (eqb c 64) (Some (text (64 ∷ cs))) (then (read_name (c ∷ cs)) pointed) (ne_eqb c 64 p.no_at)

marked_name : (name : List ℕ) → 0 < length name → tag_chars name ≡ true → read_marked (name ++ 64 ∷ []) ≡ pointed (name, [])
marked_name [] some plain = absurd (omega arith)
marked_name (c ∷ cs) some plain = pointer_complete c (cs ++ 64 ∷ []) (tag_chars_plain (c ∷ cs) plain).0 ∙ then_is (read_name ((c ∷ cs) ++ 64 ∷ [])) pointed (c ∷ cs, []) (name_complete (c ∷ cs) [] some plain)

value_complete : (v : Value) → GoodValue v → read_value (spell_value v) ≡ Some v
value_complete nothing g = refl
value_complete void g = refl
value_complete (pointer i) g =
    ap read_payload g.marked ∙ marked_name g.name g.some g.plain ∙ ap Some (cond-false (is_void g.name) void (pointer (marked g.name)) (identifier_not_void i g) ∙ ap pointer (sym g.marked))
value_complete (text []) g = absurd (let h = g.1 in omega arith)
value_complete (text (c ∷ cs)) g = cond_both (eqb c 64) (64 ∷ c ∷ cs) (c ∷ cs) (λ bs. read_payload bs ≡ Some (text (c ∷ cs))) (λ e. cond-true (eqb c 64) (Some (text (64 ∷ cs))) (then (read_name (c ∷ cs)) pointed) e ∙ ap (λ b. Some (text (b ∷ cs))) (sym (eqb-true c 64 e))) (λ e. cond-false (eqb c 64) (read_marked cs) (Some (text (c ∷ cs))) e)

value_starts : (v : Value) → Begins (λ c. tag_char c ≡ false) (spell_value v)
value_starts nothing = tt
value_starts void = refl
value_starts (pointer i) = refl
value_starts (text t) = refl

pub parse_complete : (l : Line) → GoodLine l → parse (spell l) ≡ Some l
parse_complete l g =
    let after_tag : List ℕ = spell_value l.value in
    let after_identifier : List ℕ = l.tag ++ after_tag in
    let after_level : List ℕ = spell_identifier l.identifier ++ after_identifier in
    let spelled : spell l ≡ numeral l.level ++ 32 ∷ after_level = simp append_assoc in
    ap parse spelled
    ∙ then_is (read_level (numeral l.level ++ 32 ∷ after_level)) (λ n. then (read_byte 32 n.1) (parse_identifier n.0)) (l.level, 32 ∷ after_level) (level_complete l.level (32 ∷ after_level) refl)
    ∙ then_is (read_identifier after_level) (λ i. parse_tag l.level i.0 i.1) (l.identifier, after_identifier) (identifier_complete l.identifier after_identifier g.identified (tag_starts_plain l.tag after_tag g.tagged))
    ∙ then_is (read_tag after_identifier) (λ t. then (read_value t.1) (λ v. Some (line_of l.level l.identifier t.0 v))) (l.tag, after_tag) (tag_complete l.tag after_tag g.tagged (value_starts l.value))
    ∙ then_is (read_value after_tag) (λ v. Some (line_of l.level l.identifier l.tag v)) l.value (value_complete l.value g.valued)

-- no good line is spelled where the scan finds none, and only there

pub none_spelled : (bs : List ℕ) → parse bs ≡ None → (l : Line) → GoodLine l → spell l ≡ bs → ⊥
none_spelled bs e l g s = let h = parse_complete l g in let k = ap parse s in let z : ◌≡◌ {A = ℕ} 0 1 = cc in omega arith

pub none_parsed : (bs : List ℕ) → TextLine bs → ((l : Line) → GoodLine l → spell l ≡ bs → ⊥) → parse bs ≡ None
none_parsed bs t none = go (parse bs) refl
  where
    go : (o : Option Line) → parse bs ≡ o → o ≡ None
    go None e = refl
    go (Some l) e = let s = parse_sound bs l t e in absurd (none l s.1 s.0)
