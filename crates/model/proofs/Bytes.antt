-- One turn of the loop that checks a file's characters, its start and its ends. Assumes nothing.
use Rattle.std.proofs.Common.{◌≡◌, ℕ, suc, ◌+◌, ◌-◌, ◌*◌, ◌/◌, ◌<◌, ◌≤◌, Bool, true, false, cond, not, ◌&&◌, ltb, leb, ◌⊎◌, List, [], ◌∷◌, ◌++◌, length, get_or, take, drop, Some, None, IsUtf8, Option, sym, refl, ap, ◌∙◌, subst, inl, inr, append_assoc, append-nil, arith, length-append, length-drop, take-append-drop, length-take, take-add}
use lib.Utf8.{scalar, scalars, encode, encodes, next, low_scalar, scalar_cases}
use Rattle.std.specs.Str.{StartsWithNoChar, IsValidUpTo}
use Rattle.std.proofs.lemmas.List.{get_or-drop, get_or_past, drop_more, take-take, take_all, take_at, drop-append-le}
use Rattle.std.proofs.lemmas.Bool.{cases_Bool, cases_lt, cond-true, cond-false, cond_both, and_parts, and_from, lt-ltb, le-ltb, ltb-true, ltb-false}
use Rattle.std.proofs.lemmas.Str.{IsUtf8-drop, IsUtf8-append, IsUtf8-encode, IsUtf8-nil, IsCharBoundary-from_take}
use Rattle.std.proofs.lemmas.Bool.Decides.{nat_tests}
use Rattle.model.specs.Characters.{Clean, banned}
use Rattle.model.specs.Books.{Meaning}
use Rattle.model.specs.Refusals.{fault, Short, is_end_at, ends_before, Refuses, malformed, forbidden}
use Rattle.model.specs.LineTurns.{note, spot}
use Rattle.model.specs.declared.Place.{Place}
use Rattle.model.proofs.Cutting.{clean_append}
use Rattle.model.specs.Bytes.{lead_length, is_next, is_second, width_of, is_banned, width_at, banned_at, Allowed, Checked}

-- The bytes of a character

encode_one : (c : ℕ) → c < 128 → encode c ≡ c ∷ []
unfolding encode
encode_one c h = cond-true (ltb c 128) _ _ (lt-ltb c 128 h)

encode_two : (c : ℕ) → 128 ≤ c → c < 2048 → encode c ≡ (192 + c / 64) ∷ next c ∷ []
unfolding encode
encode_two c l h = cond-false (ltb c 128) _ _ (le-ltb c 128 l) ∙ cond-true (ltb c 2048) _ _ (lt-ltb c 2048 h)

encode_three : (c : ℕ) → 2048 ≤ c → c < 65536 → encode c ≡ (224 + c / 4096) ∷ next (c / 64) ∷ next c ∷ []
unfolding encode
encode_three c l h = cond-false (ltb c 128) _ _ (le-ltb c 128 (omega arith)) ∙ cond-false (ltb c 2048) _ _ (le-ltb c 2048 l) ∙ cond-true (ltb c 65536) _ _ (lt-ltb c 65536 h)

encode_four : (c : ℕ) → 65536 ≤ c → encode c ≡ (240 + c / 262144) ∷ next (c / 4096) ∷ next (c / 64) ∷ next c ∷ []
unfolding encode
encode_four c l = cond-false (ltb c 128) _ _ (le-ltb c 128 (omega arith)) ∙ cond-false (ltb c 2048) _ _ (le-ltb c 2048 (omega arith)) ∙ cond-false (ltb c 65536) _ _ (le-ltb c 65536 l)

-- Bytes in the ranges of a character

abbrev Next : ℕ → Type 0
Next b = (128 ≤ b) × (b < 192)

record Second (a b : ℕ) : Type 0 where
  is : Next b
  after_e0 : a ≡ 224 → 160 ≤ b
  after_ed : a ≡ 237 → b < 160
  after_f0 : a ≡ 240 → 144 ≤ b
  after_f4 : a ≡ 244 → b < 144

data Wide (a b d e : ℕ) : ℕ → Type 0 where
  none : Wide a b d e 0
  one : a < 128 → Wide a b d e 1
  two : 194 ≤ a → a < 224 → Next b → Wide a b d e 2
  three : 224 ≤ a → a < 240 → Second a b → Next d → Wide a b d e 3
  four : 240 ≤ a → a < 245 → Second a b → Next d → Next e → Wide a b d e 4

next_from : (b : ℕ) → is_next b ≡ true → Next b
next_from b h = let t = and_parts (leb 128 b) (ltb b 192) h in grind (arith, nat_tests)

second_from : (a b : ℕ) → is_second a b ≡ true → Second a b
second_from a b h = record { is = (grind (arith, nat_tests), grind (arith, nat_tests)); after_e0 = λ e. grind (arith, nat_tests); after_ed = λ e. grind (arith, nat_tests); after_f0 = λ e. grind (arith, nat_tests); after_f4 = λ e. grind (arith, nat_tests) }

wide : (a b d e : ℕ) → Wide a b d e (width_of a b d e)
wide a b d e =
    cond_both (ltb a 128) 1 _ (Wide a b d e) (λ h. one (ltb-true a 128 h)) (λ h1.
    cond_both (ltb a 194) 0 _ (Wide a b d e) (λ h. none) (λ h2.
    cond_both (ltb a 224) (cond (is_next b) 2 0) _ (Wide a b d e) (λ h. cond_both (is_next b) 2 0 (Wide a b d e) (λ n. two (ltb-false a 194 h2) (ltb-true a 224 h) (next_from b n)) (λ n. none)) (λ h3.
    cond_both (ltb a 240) (cond (is_second a b && is_next d) 3 0) _ (Wide a b d e) (λ h. cond_both (is_second a b && is_next d) 3 0 (Wide a b d e) (λ n. let t = and_parts (is_second a b) (is_next d) n in three (ltb-false a 224 h3) (ltb-true a 240 h) (second_from a b t.0) (next_from d t.1)) (λ n. none)) (λ h4.
    cond_both (ltb a 245) (cond (is_second a b && (is_next d && is_next e)) 4 0) 0 (Wide a b d e) (λ h. cond_both (is_second a b && (is_next d && is_next e)) 4 0 (Wide a b d e) (λ n. let t = and_parts (is_second a b) (is_next d && is_next e) n in let u = and_parts (is_next d) (is_next e) t.1 in four (ltb-false a 240 h4) (ltb-true a 245 h) (second_from a b t.0) (next_from d u.0) (next_from e u.1)) (λ n. none)) (λ h5. none)))))

-- the character of such bytes
record Spelt (a b d e w : ℕ) : Type 0 where
  character : ℕ
  real : scalar character ≡ true
  are : encode character ≡ take w (a ∷ b ∷ d ∷ e ∷ [])
  watched : banned character ≡ is_banned a b d

high_scalar : (c : ℕ) → 57344 ≤ c → c < 1114112 → scalar c ≡ true
high_scalar c l h = grind (arith, nat_tests)

middle_scalar : (c : ℕ) → (c < 55296) ⊎ (57344 ≤ c) → c < 1114112 → scalar c ≡ true
middle_scalar c (inl l) h = low_scalar c l
middle_scalar c (inr l) h = high_scalar c l h

banned_one : (a b d : ℕ) → a < 128 → banned a ≡ is_banned a b d
banned_one a b d h = grind (arith, nat_tests)

spelt_one : (a b d e : ℕ) → a < 128 → Spelt a b d e 1
spelt_one a b d e h = record { character = a; real = low_scalar a (omega arith); are = encode_one a h; watched = banned_one a b d h }

banned_two : (a b d : ℕ) → 194 ≤ a → a < 224 → Next b → banned ((a - 192) * 64 + (b - 128)) ≡ is_banned a b d
banned_two a b d l h n = grind (arith, nat_tests)

spelt_two : (a b d e : ℕ) → 194 ≤ a → a < 224 → Next b → Spelt a b d e 2
spelt_two a b d e l h n =
    let c : ℕ = (a - 192) * 64 + (b - 128) in
    let p : 192 + c / 64 ≡ a = omega arith in
    let q : next c ≡ b = omega arith in
    record { character = c; real = low_scalar c (omega arith); are = encode_two c (omega arith) (omega arith) ∙ (λ i. p i ∷ q i ∷ []); watched = banned_two a b d l h n }

banned_three : (a b d : ℕ) → 224 ≤ a → a < 240 → Second a b → Next d → banned ((a - 224) * 4096 + (b - 128) * 64 + (d - 128)) ≡ is_banned a b d
banned_three a b d l h s n = let (t, u) = s.is in let low = s.after_e0 in grind (arith, nat_tests)

spelt_three : (a b d e : ℕ) → 224 ≤ a → a < 240 → Second a b → Next d → Spelt a b d e 3
spelt_three a b d e l h s n =
    let (t, u) = s.is in
    let c : ℕ = (a - 224) * 4096 + (b - 128) * 64 + (d - 128) in
    let p : 224 + c / 4096 ≡ a = omega arith in
    let f : c / 64 ≡ (a - 224) * 64 + (b - 128) = omega arith in
    let q : next (c / 64) ≡ b = subst (λ k. next k ≡ b) (sym f) (omega arith) in
    let r : next c ≡ d = omega arith in
    let low : 2048 ≤ c = elim (cases_lt 224 a) [
      | inl k ↦ omega arith
      | inr k ↦ let z : a ≡ 224 = omega arith in omega (arith, s.after_e0 z)
    ] in
    let apart : (c < 55296) ⊎ (57344 ≤ c) = elim (cases_lt a 238) [
      | inl k ↦ inl (elim (cases_lt a 237) [
        | inl j ↦ omega arith
        | inr j ↦ let z : a ≡ 237 = omega arith in omega (arith, s.after_ed z)
      ])
      | inr k ↦ inr (omega arith)
    ] in
    record { character = c; real = middle_scalar c apart (omega arith); are = encode_three c low (omega arith) ∙ (λ i. p i ∷ q i ∷ r i ∷ []); watched = banned_three a b d l h s n }

banned_high : (c : ℕ) → 65536 ≤ c → banned c ≡ false
banned_high c h = grind (arith, nat_tests)

is_banned_high : (a b d : ℕ) → 240 ≤ a → is_banned a b d ≡ false
is_banned_high a b d h = grind (arith, nat_tests)

spelt_four : (a b d e : ℕ) → 240 ≤ a → a < 245 → Second a b → Next d → Next e → Spelt a b d e 4
spelt_four a b d e l h s n m =
    let (t, u) = s.is in
    let c : ℕ = (a - 240) * 262144 + (b - 128) * 4096 + (d - 128) * 64 + (e - 128) in
    let p : 240 + c / 262144 ≡ a = omega arith in
    let g : c / 4096 ≡ (a - 240) * 64 + (b - 128) = omega arith in
    let q : next (c / 4096) ≡ b = subst (λ k. next k ≡ b) (sym g) (omega arith) in
    let f : c / 64 ≡ (a - 240) * 4096 + (b - 128) * 64 + (d - 128) = omega arith in
    let r : next (c / 64) ≡ d = subst (λ k. next k ≡ d) (sym f) (omega arith) in
    let v : next c ≡ e = omega arith in
    let low : 65536 ≤ c = elim (cases_lt 240 a) [
      | inl k ↦ omega arith
      | inr k ↦ let z : a ≡ 240 = omega arith in omega (arith, s.after_f0 z)
    ] in
    let top : c < 1114112 = elim (cases_lt a 244) [
      | inl k ↦ omega arith
      | inr k ↦ let z : a ≡ 244 = omega arith in omega (arith, s.after_f4 z)
    ] in
    record { character = c; real = high_scalar c (omega arith) top; are = encode_four c low ∙ (λ i. p i ∷ q i ∷ r i ∷ v i ∷ []); watched = banned_high c low ∙ sym (is_banned_high a b d l) }

spelt : (a b d e w : ℕ) → 0 < w → Wide a b d e w → Spelt a b d e w
spelt a b d e w h none = absurd (omega arith)
spelt a b d e w h (one x) = spelt_one a b d e x
spelt a b d e w h (two x y z) = spelt_two a b d e x y z
spelt a b d e w h (three x y z u) = spelt_three a b d e x y z u
spelt a b d e w h (four x y z u v) = spelt_four a b d e x y z u v

-- and back: a character's bytes are in them
abbrev WideAt : List ℕ → Type 0
WideAt bs = 0 < width_of (get_or bs 0 0) (get_or bs 1 0) (get_or bs 2 0) (get_or bs 3 0)

wide_two : (c d e : ℕ) → 128 ≤ c → c < 2048 → width_of (192 + c / 64) (next c) d e ≡ 2
wide_two c d e l h = grind (arith, nat_tests)

wide_three : (c e : ℕ) → 2048 ≤ c → c < 65536 → (c < 55296) ⊎ (57344 ≤ c) → width_of (224 + c / 4096) (next (c / 64)) (next c) e ≡ 3
wide_three c e l h s = grind (arith, nat_tests)

wide_four : (c : ℕ) → 65536 ≤ c → c < 1114112 → width_of (240 + c / 262144) (next (c / 4096)) (next (c / 64)) (next c) ≡ 4
wide_four c l h = grind (arith, nat_tests)

wide_one : (c b d e : ℕ) → c < 128 → width_of c b d e ≡ 1
wide_one c b d e h = grind (arith, nat_tests)

encoded_wide : (c : ℕ) (rest : List ℕ) → (c < 55296) ⊎ ((57344 ≤ c) × (c < 1114112)) → WideAt (encode c ++ rest)
encoded_wide c rest s = elim (cases_lt c 128) [
  | inl a ↦ subst (λ p. WideAt (p ++ rest)) (sym (encode_one c a)) (omega (arith, wide_one c (get_or rest 0 0) (get_or rest 1 0) (get_or rest 2 0) a))
  | inr a ↦ elim (cases_lt c 2048) [
    | inl b ↦ subst (λ p. WideAt (p ++ rest)) (sym (encode_two c a b)) (omega (arith, wide_two c (get_or rest 0 0) (get_or rest 1 0) a b))
    | inr b ↦ elim (cases_lt c 65536) [
      | inl d ↦ subst (λ p. WideAt (p ++ rest)) (sym (encode_three c b d)) (omega (arith, wide_three c (get_or rest 0 0) b d (elim s [ inl k ↦ inl k | inr k ↦ inr k.0 ])))
      | inr d ↦ subst (λ p. WideAt (p ++ rest)) (sym (encode_four c d)) (omega (arith, wide_four c d (elim s [ inl k ↦ omega arith | inr k ↦ k.1 ])))
    ]
  ]
]

-- The table of the first bytes

pub lead_encode : (c : ℕ) → scalar c ≡ true → lead_length (get_or (encode c) 0 0) ≡ length (encode c)
lead_encode c real = elim (cases_lt c 128) [
  | inl a ↦ subst (λ p. lead_length (get_or p 0 0) ≡ length p) (sym (encode_one c a)) (lead_one c a)
  | inr a ↦ elim (cases_lt c 2048) [
    | inl b ↦ subst (λ p. lead_length (get_or p 0 0) ≡ length p) (sym (encode_two c a b)) (lead_two (192 + c / 64) (omega arith) (omega arith))
    | inr b ↦ elim (cases_lt c 65536) [
      | inl d ↦ subst (λ p. lead_length (get_or p 0 0) ≡ length p) (sym (encode_three c b d)) (lead_three (224 + c / 4096) (omega arith) (omega arith))
      | inr d ↦ let top : c < 1114112 = elim (scalar_cases c real) [ inl k ↦ omega arith | inr k ↦ k.1 ] in subst (λ p. lead_length (get_or p 0 0) ≡ length p) (sym (encode_four c d)) (lead_four (240 + c / 262144) (omega arith) (omega arith))
    ]
  ]
]
  where
    lead_one : (a : ℕ) → a < 128 → lead_length a ≡ 1
    lead_one a h = grind (arith, nat_tests)

    lead_two : (a : ℕ) → 194 ≤ a → a < 224 → lead_length a ≡ 2
    lead_two a l h = grind (arith, nat_tests)

    lead_three : (a : ℕ) → 224 ≤ a → a < 240 → lead_length a ≡ 3
    lead_three a l h = grind (arith, nat_tests)

    lead_four : (a : ℕ) → 240 ≤ a → a < 245 → lead_length a ≡ 4
    lead_four a l h = grind (arith, nat_tests)

-- by the table and the bytes behind: a character has the length that its first byte tells, or there is none
pub width_none : (a b d e : ℕ) → lead_length a ≡ 0 → width_of a b d e ≡ 0
width_none a b d e h = grind (arith, nat_tests)

pub width_one : (a b d e : ℕ) → lead_length a ≡ 1 → width_of a b d e ≡ 1
width_one a b d e h = grind (arith, nat_tests)

pub width_two : (a b d e : ℕ) → lead_length a ≡ 2 → width_of a b d e ≡ cond (is_next b) 2 0
width_two a b d e h = grind (arith, nat_tests)

pub width_three : (a b d e : ℕ) → lead_length a ≡ 3 → width_of a b d e ≡ cond (is_second a b && is_next d) 3 0
width_three a b d e h = grind (arith, nat_tests)

pub width_four : (a b d e : ℕ) → lead_length a ≡ 4 → width_of a b d e ≡ cond (is_second a b && (is_next d && is_next e)) 4 0
width_four a b d e h = grind (arith, nat_tests)

-- In a file

first_byte : (file : List ℕ) (i : ℕ) → get_or (drop i file) 0 0 ≡ get_or file i 0
first_byte file i = get_or-drop i file 0 0 ∙ ap (λ n. get_or file n 0) (let z : i + 0 ≡ i = omega arith in z)

-- where the tests fail, no character begins
pub no_char : (file : List ℕ) (i : ℕ) → width_at file i ≡ 0 → StartsWithNoChar (drop i file)
no_char file i e c rest real is =
    let w : WideAt (drop i file) = subst WideAt (sym is) (encoded_wide c rest (scalar_cases c real)) in
    let same : width_of (get_or (drop i file) 0 0) (get_or (drop i file) 1 0) (get_or (drop i file) 2 0) (get_or (drop i file) 3 0) ≡ width_at file i = (λ k. width_of (first_byte file i k) (get_or-drop i file 1 0 k) (get_or-drop i file 2 0 k) (get_or-drop i file 3 0 k)) in
    omega arith

text_head : (cs bs : List ℕ) → scalars cs ≡ true → encodes cs ≡ bs → 0 < length bs → (c : ℕ) × (scalar c ≡ true) × (rest : List ℕ) × (bs ≡ encode c ++ rest)
text_head [] bs s e h = absurd (omega (arith, ap length e))
text_head (c ∷ cs) bs s e h = (c, (and_parts (scalar c) (scalars cs) s).0, encodes cs, sym e)

no_text : (l r : List ℕ) → StartsWithNoChar (l ++ r) → IsUtf8 l → 0 < length l → ⊥
no_text l r n u h = let t = text_head u.0 l u.1.0 u.1.1 h in n t.0 (t.2 ++ r) t.1 (ap (λ k. k ++ r) t.3 ∙ append_assoc (encode t.0) t.2 r)

pub valid_to : (file : List ℕ) (i : ℕ) → i < length file → IsUtf8 (take i file) → StartsWithNoChar (drop i file) → IsValidUpTo file i
valid_to file i short front n = record {
  short = short;
  front = front;
  longest = λ m more u.
      let long : i < length (take m file) = omega (arith, length-take m file) in
      let before : IsUtf8 (take i (take m file)) = subst IsUtf8 (sym (take-take i m file (omega arith))) front in
      let behind : IsUtf8 (drop i (take m file)) = IsUtf8-drop (take m file) i u (IsCharBoundary-from_take (take m file) i u (omega arith) before) in
      let split : drop i file ≡ drop i (take m file) ++ drop m file = ap (drop i) (sym (take-append-drop m file)) ∙ drop-append-le i (take m file) (drop m file) (omega arith) in
      no_text (drop i (take m file)) (drop m file) (subst StartsWithNoChar split n) behind (omega (arith, length-drop i (take m file)));
}

not_past : (file : List ℕ) (k : ℕ) → 0 < get_or file k 0 → k < length file
not_past file k h = elim (cases_lt k (length file)) [
  | inl l ↦ l
  | inr l ↦ absurd (omega (arith, get_or_past file k 0 l))
]

step : (file : List ℕ) (i k : ℕ) → i + k < length file → drop (i + k) file ≡ get_or file (i + k) 0 ∷ drop (i + (k + 1)) file
step file i k h = drop_more file (i + k) 0 h ∙ ap (λ n. get_or file (i + k) 0 ∷ drop n file) (let z : i + k + 1 ≡ i + (k + 1) = omega arith in z)

-- the bytes of the character at i, and those that follow it
record Cut (file : List ℕ) (i w : ℕ) : Type 0 where
  fits : i + w ≤ length file
  are : drop i file ≡ take w (get_or file i 0 ∷ get_or file (i + 1) 0 ∷ get_or file (i + 2) 0 ∷ get_or file (i + 3) 0 ∷ []) ++ drop (i + w) file
  high : (k : ℕ) → 0 < k → k < w → 128 ≤ get_or file (i + k) 0

high_one : (file : List ℕ) (i : ℕ) → 128 ≤ get_or file (i + 1) 0 → (k : ℕ) → 0 < k → k < 2 → 128 ≤ get_or file (i + k) 0
high_one file i a k p q = subst (λ n. 128 ≤ get_or file (i + n) 0) (let z : 1 ≡ k = omega arith in z) a

high_two : (file : List ℕ) (i : ℕ) → 128 ≤ get_or file (i + 1) 0 → 128 ≤ get_or file (i + 2) 0 → (k : ℕ) → 0 < k → k < 3 → 128 ≤ get_or file (i + k) 0
high_two file i a b k p q = elim (cases_lt k 2) [
  | inl l ↦ high_one file i a k p l
  | inr l ↦ subst (λ n. 128 ≤ get_or file (i + n) 0) (let z : 2 ≡ k = omega arith in z) b
]

high_three : (file : List ℕ) (i : ℕ) → 128 ≤ get_or file (i + 1) 0 → 128 ≤ get_or file (i + 2) 0 → 128 ≤ get_or file (i + 3) 0 → (k : ℕ) → 0 < k → k < 4 → 128 ≤ get_or file (i + k) 0
high_three file i a b c k p q = elim (cases_lt k 3) [
  | inl l ↦ high_two file i a b k p l
  | inr l ↦ subst (λ n. 128 ≤ get_or file (i + n) 0) (let z : 3 ≡ k = omega arith in z) c
]

abbrev Wide-at : List ℕ → ℕ → ℕ → Type 0
Wide-at file i w = Wide (get_or file i 0) (get_or file (i + 1) 0) (get_or file (i + 2) 0) (get_or file (i + 3) 0) w

cut : (file : List ℕ) (i w : ℕ) → i < length file → 0 < w → Wide-at file i w → Cut file i w
cut file i w h some none = absurd (omega arith)
cut file i w h some (one x) = record { fits = omega arith; are = drop_more file i 0 h; high = λ k p q. absurd (omega arith) }
cut file i w h some (two x y z) =
    let l : i + 1 < length file = not_past file (i + 1) (omega arith) in
    record { fits = omega arith; are = drop_more file i 0 h ∙ ap (λ r. get_or file i 0 ∷ r) (step file i 1 l); high = high_one file i z.0 }
cut file i w h some (three x y z u) =
    let t = z.is in
    let l : i + 1 < length file = not_past file (i + 1) (omega arith) in
    let m : i + 2 < length file = not_past file (i + 2) (omega arith) in
    record { fits = omega arith; are = drop_more file i 0 h ∙ ap (λ r. get_or file i 0 ∷ r) (step file i 1 l ∙ ap (λ r. get_or file (i + 1) 0 ∷ r) (step file i 2 m)); high = high_two file i t.0 u.0 }
cut file i w h some (four x y z u v) =
    let t = z.is in
    let l : i + 1 < length file = not_past file (i + 1) (omega arith) in
    let m : i + 2 < length file = not_past file (i + 2) (omega arith) in
    let n : i + 3 < length file = not_past file (i + 3) (omega arith) in
    record { fits = omega arith; are = drop_more file i 0 h ∙ ap (λ r. get_or file i 0 ∷ r) (step file i 1 l ∙ ap (λ r. get_or file (i + 1) 0 ∷ r) (step file i 2 m ∙ ap (λ r. get_or file (i + 2) 0 ∷ r) (step file i 3 n))); high = high_three file i t.0 u.0 v.0 }

-- where they pass, one does
pub record Char (file : List ℕ) (i w : ℕ) : Type 0 where
  pub character : ℕ
  pub real : scalar character ≡ true
  pub watched : banned character ≡ banned_at file i
  pub fits : i + w ≤ length file
  pub begins : drop i file ≡ encode character ++ drop (i + w) file
  pub high : (k : ℕ) → 0 < k → k < w → 128 ≤ get_or file (i + k) 0

pub char_at : (file : List ℕ) (i : ℕ) → i < length file → 0 < width_at file i → Char file i (width_at file i)
char_at file i h some =
    let wd = wide (get_or file i 0) (get_or file (i + 1) 0) (get_or file (i + 2) 0) (get_or file (i + 3) 0) in
    let s = spelt (get_or file i 0) (get_or file (i + 1) 0) (get_or file (i + 2) 0) (get_or file (i + 3) 0) (width_at file i) some wd in
    let c = cut file i (width_at file i) h some wd in
    record { character = s.character; real = s.real; watched = s.watched; fits = c.fits; begins = c.are ∙ ap (λ l. l ++ drop (i + width_at file i) file) (sym s.are); high = c.high }

-- Line ends

pub ends_more : (file : List ℕ) (i : ℕ) → ends_before file (i + 1) ≡ ends_before file i + cond (is_end_at file i) 1 0
ends_more file i = ap (ends_before file) (let z : i + 1 ≡ suc i = omega arith in z) ∙ (let z : cond (is_end_at file i) 1 0 + ends_before file i ≡ ends_before file i + cond (is_end_at file i) 1 0 = omega arith in z)

no_end_high : (file : List ℕ) (i : ℕ) → 128 ≤ get_or file i 0 → is_end_at file i ≡ false
no_end_high file i h = grind (arith, nat_tests)

ends_high : (file : List ℕ) (i : ℕ) → 128 ≤ get_or file i 0 → ends_before file (i + 1) ≡ ends_before file i
ends_high file i h = ends_more file i ∙ ap (λ b. ends_before file i + cond b 1 0) (no_end_high file i h) ∙ (let z : ends_before file i + 0 ≡ ends_before file i = omega arith in z)

ends_past : (file : List ℕ) (i w : ℕ) → ((k : ℕ) → 0 < k → k < suc w → 128 ≤ get_or file (i + k) 0) → ends_before file (i + suc w) ≡ ends_before file i + cond (is_end_at file i) 1 0
ends_past file i Prim.Native.Nat.zero h = ends_more file i
ends_past file i (suc w) h =
    let same : i + suc (suc w) ≡ i + suc w + 1 = omega arith in
    ap (ends_before file) same ∙ ends_high file (i + suc w) (h (suc w) (omega arith) (omega arith)) ∙ ends_past file i w (λ k p q. h k p (omega arith))

ends_by : (file : List ℕ) (i w : ℕ) → 0 < w → ((k : ℕ) → 0 < k → k < w → 128 ≤ get_or file (i + k) 0) → ends_before file (i + w) ≡ ends_before file i + cond (is_end_at file i) 1 0
ends_by file i Prim.Native.Nat.zero some h = absurd (omega arith)
ends_by file i (suc w) some h = ends_past file i w h

-- The loop

clean_nil : Clean []
clean_nil = record { characters = []; real = refl; allowed = refl; are = refl }

pub checked_start : (file : List ℕ) → Checked file 0 0 None
checked_start file = record { within = omega arith; counted = refl; few = omega arith; text = IsUtf8-nil; allowed = clean_nil }

clean_one : (c : ℕ) → scalar c ≡ true → banned c ≡ false → Clean (encode c)
clean_one c s b = record { characters = c ∷ []; real = and_from (scalar c) true s refl; allowed = and_from (not (banned c)) true (ap not b) refl; are = append-nil (encode c) }

take_char : (file : List ℕ) (i w : ℕ) (c : Char file i w) → take (i + w) file ≡ take i file ++ encode c.character
take_char file i w c =
    let long : length (encode c.character) ≡ w = let f = c.fits in omega (arith, simp (length-append, length-drop) at (ap length c.begins)) in
    take-add i w file ∙ ap (λ l. take i file ++ l) (ap (take w) c.begins ∙ take_at (encode c.character) (drop (i + w) file) w long)

allowed_more : (file : List ℕ) (i ends w : ℕ) (o : Option Place) (c : Char file i w) → ends ≡ ends_before file i → Allowed file i o → Allowed file (i + w) (note o (banned_at file i) (spot (ends + 1) i))
allowed_more file i ends w None c e a = elim (cases_Bool (banned_at file i)) [
  | inl b ↦ subst (λ t. Allowed file (i + w) (note None t (spot (ends + 1) i))) (sym b) (record { before = a; character = c.character; real = c.real; is_banned = c.watched ∙ b; begins = (drop (i + w) file, c.begins) }, omega arith)
  | inr b ↦ subst (λ t. Allowed file (i + w) (note None t (spot (ends + 1) i))) (sym b) (subst Clean (sym (take_char file i w c)) (clean_append (take i file) (encode c.character) a (clean_one c.character c.real (c.watched ∙ b))))
]
allowed_more file i ends w (Some s) c e a = a

checked_by : (file : List ℕ) (i ends w : ℕ) (o : Option Place) → Char file i w → 0 < w → Checked file i ends o → Checked file (i + w) (ends + cond (is_end_at file i) 1 0) (note o (banned_at file i) (spot (ends + 1) i))
checked_by file i ends w o c some h = record {
  within = c.fits;
  counted = ap (λ n. n + cond (is_end_at file i) 1 0) h.counted ∙ sym (ends_by file i w some c.high);
  few = let f = h.few in cond_both (is_end_at file i) 1 0 (λ n. ends + n ≤ i + w) (λ e. omega arith) (λ e. omega arith);
  text = subst IsUtf8 (sym (take_char file i w c)) (IsUtf8-append (take i file) (encode c.character) h.text (IsUtf8-encode c.character c.real));
  allowed = allowed_more file i ends w o c h.counted h.allowed;
}

-- one character more
pub checked_more : (file : List ℕ) (i ends : ℕ) (o : Option Place) → Checked file i ends o → i < length file → 0 < width_at file i → Checked file (i + width_at file i) (ends + cond (is_end_at file i) 1 0) (note o (banned_at file i) (spot (ends + 1) i))
checked_more file i ends o h l some = checked_by file i ends (width_at file i) o (char_at file i l some) some h

-- the same, by what the code has found
pub checked_step : (file : List ℕ) (i ends w more : ℕ) (o p : Option Place) (b e : Bool) → Checked file i ends o → i < length file → (w ≡ 0 → ⊥) → w ≡ width_at file i → b ≡ banned_at file i → e ≡ is_end_at file i → more ≡ ends + cond e 1 0 → p ≡ note o b (spot (ends + 1) i) → Checked file (i + w) more p
checked_step file i ends w more o p b e h l some ew eb ee em ep =
    let passed : 0 < width_at file i = elim (cases_lt 0 w) [ inl k ↦ subst (λ n. 0 < n) ew k | inr k ↦ absurd (some (omega arith)) ] in
    let r = checked_more file i ends o h l passed in
    subst (λ n. Checked file (i + w) n p) (sym (em ∙ ap (λ t. ends + cond t 1 0) ee)) (subst (λ q. Checked file (i + w) (ends + cond (is_end_at file i) 1 0) q) (sym (ep ∙ ap (λ t. note o t (spot (ends + 1) i)) eb)) (subst (λ n. Checked file (i + n) (ends + cond (is_end_at file i) 1 0) (note o (banned_at file i) (spot (ends + 1) i))) (sym ew) r))

-- none begins here: rule 2
pub checked_invalid : (m : Meaning) (file : List ℕ) (cards i ends : ℕ) (o : Option Place) → Short file → Checked file i ends o → i < length file → width_at file i ≡ 0 → Refuses m file cards (fault 2 (ends + 1) i)
checked_invalid m file cards i ends o short h l z = malformed i short (valid_to file i l h.text (no_char file i z)) (λ k. fault 2 ((let q : ends + 1 ≡ 1 + ends_before file i = omega (arith, h.counted) in q) k) i)

-- the end: rule 3
checked_text : (file : List ℕ) (i ends : ℕ) (o : Option Place) → Checked file i ends o → length file ≤ i → IsUtf8 file
checked_text file i ends o h l = subst IsUtf8 (take_all i file l) h.text

pub checked_banned : (m : Meaning) (file : List ℕ) (cards i ends : ℕ) (s : Place) → Short file → Checked file i ends (Some s) → length file ≤ i → Refuses m file cards (fault 3 s.line s.byte)
checked_banned m file cards i ends s short h l = forbidden s.byte short (checked_text file i ends (Some s) h l) h.allowed.0 (λ k. fault 3 (h.allowed.1 k) s.byte)

pub checked_clean : (file : List ℕ) (i ends : ℕ) → Checked file i ends None → length file ≤ i → Clean file
checked_clean file i ends h l = subst Clean (take_all i file l) h.allowed
