-- The line that some bytes spell, found from the left by the steps that a loop takes. Assumes nothing.
use Rattle.std.specs.Prelude.{ℕ, ◌-◌, Bool, true, false, cond, not, ◌||◌, List, [], ◌∷◌, ◌++◌, map, take, drop, Some, None, codes, Option, ◌==◌}
use Rattle.std.specs.Char.{is_ascii_digit}
use Rattle.std.specs.Int.Digits.{number_from_digits}
use Rattle.std.specs.List.{prefix_len}
use Rattle.std.specs.Str.{bytes_eq}
use Rattle.model.specs.Lines.{Line, Value, nothing, void, pointer, text, tag_char, is_tag, line_of}
use Rattle.model.specs.Removal.{then}

-- the longest front whose bytes pass, and what follows it
abbrev pub front : (ℕ → Bool) → List ℕ → List ℕ
front p bs = take (prefix_len p bs) bs

abbrev pub after : (ℕ → Bool) → List ℕ → List ℕ
after p bs = drop (prefix_len p bs) bs

-- a byte that ends no line
abbrev pub in_line : ℕ → Bool
in_line c = not (c == 10 || c == 13)

-- what was read, and what follows it
abbrev pub Read : Type 0 → Type 0
Read A = Option (A × List ℕ)

-- one given byte
abbrev pub read_byte : ℕ → List ℕ → Option (List ℕ)
read_byte b [] = None
read_byte b (c ∷ cs) = cond (c == b) (Some cs) None

-- digits, and no zero before others
abbrev pub is_level : List ℕ → Bool
is_level [] = false
is_level (d ∷ []) = true
is_level (d ∷ e ∷ ds) = not (d == 48)

abbrev pub number_of : List ℕ → ℕ
number_of ds = number_from_digits 10 (map (λ c. c - 48) ds)

abbrev pub read_level : List ℕ → Read ℕ
read_level bs = cond (is_level (front is_ascii_digit bs)) (Some (number_of (front is_ascii_digit bs), after is_ascii_digit bs)) None

abbrev pub is_name : List ℕ → Bool
is_name [] = false
is_name (c ∷ cs) = true

-- behind a first @: what stands before the second, and what follows that
abbrev pub read_name : List ℕ → Read (List ℕ)
read_name bs = cond (is_name (front tag_char bs)) (then (read_byte 64 (after tag_char bs)) (λ rest. Some (front tag_char bs, rest))) None

abbrev pub marked : List ℕ → List ℕ
marked name = 64 ∷ name ++ 64 ∷ []

abbrev pub is_void : List ℕ → Bool
is_void name = bytes_eq name (codes "VOID")

-- behind a first @: an identifier and a space
abbrev pub named : List ℕ × List ℕ → Read (Option (List ℕ))
named r = cond (is_void r.0) None (then (read_byte 32 r.1) (λ rest. Some (Some (marked r.0), rest)))

abbrev pub read_identifier : List ℕ → Read (Option (List ℕ))
read_identifier [] = Some (None, [])
read_identifier (c ∷ cs) = cond (c == 64) (then (read_name cs) named) (Some (None, c ∷ cs))

abbrev pub read_tag : List ℕ → Read (List ℕ)
read_tag bs = cond (is_tag (front tag_char bs)) (Some (front tag_char bs, after tag_char bs)) None

-- behind a first @: a pointer, which ends the line
abbrev pub pointed : List ℕ × List ℕ → Option Value
pointed r = cond (is_name r.1) None (Some (cond (is_void r.0) void (pointer (marked r.0))))

-- behind a first @: a text that begins with @, or a pointer
abbrev pub read_marked : List ℕ → Option Value
read_marked [] = None
read_marked (c ∷ cs) = cond (c == 64) (Some (text (64 ∷ cs))) (then (read_name (c ∷ cs)) pointed)

-- behind the space
abbrev pub read_payload : List ℕ → Option Value
read_payload [] = None
read_payload (c ∷ cs) = cond (c == 64) (read_marked cs) (Some (text (c ∷ cs)))

-- behind the tag
abbrev pub read_value : List ℕ → Option Value
read_value [] = Some nothing
read_value (c ∷ cs) = cond (c == 32) (read_payload cs) None

abbrev pub parse_tag : ℕ → Option (List ℕ) → List ℕ → Option Line
parse_tag level identifier bs = then (read_tag bs) (λ t. then (read_value t.1) (λ v. Some (line_of level identifier t.0 v)))

abbrev pub parse_identifier : ℕ → List ℕ → Option Line
parse_identifier level bs = then (read_identifier bs) (λ i. parse_tag level i.0 i.1)

abbrev pub parse : List ℕ → Option Line
parse bs = then (read_level bs) (λ n. then (read_byte 32 n.1) (parse_identifier n.0))
