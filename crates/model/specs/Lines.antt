-- What a line is, and its one spelling but for the line end. Assumes nothing.
use Rattle.std.specs.Prelude.{◌≡◌, ℕ, ◌+◌, ◌<◌, Bool, true, false, cond, not, ◌&&◌, ◌||◌, List, [], ◌∷◌, ◌++◌, map, length, Some, None, codes, Option, ◌==◌}
use Rattle.std.specs.Char.{is_ascii_digit, is_ascii_uppercase}
use Rattle.std.specs.Int.Digits.{digits_of}
use Rattle.model.specs.Characters.{Clean}

-- A to Z, 0 to 9 and _
abbrev pub tag_char : ℕ → Bool
tag_char c = is_ascii_uppercase c || is_ascii_digit c || c == 95

-- all of them
abbrev pub tag_chars : List ℕ → Bool
tag_chars [] = true
tag_chars (c ∷ cs) = tag_char c && tag_chars cs

-- a letter, or _ and one more character at least
abbrev pub is_tag : List ℕ → Bool
is_tag [] = false
is_tag (c ∷ []) = is_ascii_uppercase c
is_tag (c ∷ d ∷ cs) = (is_ascii_uppercase c || c == 95) && tag_chars (d ∷ cs)

-- the pointer to no record
abbrev pub VOID : List ℕ
VOID = codes "@VOID@"

-- an identifier stands between two @, and is not that of nothing
pub record Identifier (bs : List ℕ) : Type 0 where
  pub name : List ℕ
  pub some : 0 < length name
  pub plain : tag_chars name ≡ true
  pub marked : bs ≡ 64 ∷ name ++ 64 ∷ []
  pub not_void : bs ≡ VOID → ⊥

-- what stands after a line's tag
pub data Value : Type 0 where
  nothing : Value
  void : Value
  pointer : (identifier : List ℕ) → Value
  text : (line : List ℕ) → Value

-- a text line that begins with @ is written with two
abbrev pub escaped : List ℕ → List ℕ
escaped [] = []
escaped (c ∷ cs) = cond (c == 64) (64 ∷ c ∷ cs) (c ∷ cs)

-- neither CR nor LF stands among them
abbrev pub no_end : List ℕ → Bool
no_end [] = true
no_end (c ∷ cs) = not (c == 10 || c == 13) && no_end cs

-- one line of a text: characters, and no line end among them
pub record TextLine (t : List ℕ) : Type 0 where
  pub clean : Clean t
  pub one : no_end t ≡ true

-- a pointer is an identifier, and a text is a line of characters that is not empty
abbrev pub GoodValue : Value → Type 0
GoodValue nothing = Unit {0}
GoodValue void = Unit {0}
GoodValue (pointer i) = Identifier i
GoodValue (text t) = TextLine t × (0 < length t)

-- a level, an identifier if there is one, a tag and a value
pub record Line : Type 0 where
  pub level : ℕ
  pub identifier : Option (List ℕ)
  pub tag : List ℕ
  pub value : Value

-- the line with these parts
abbrev pub line_of : ℕ → Option (List ℕ) → List ℕ → Value → Line
line_of level i tag v = record { level = level; identifier = i; tag = tag; value = v }

-- an identifier, if there is one
abbrev pub GoodIdentifier : Option (List ℕ) → Type 0
GoodIdentifier None = Unit {0}
GoodIdentifier (Some i) = Identifier i

-- a line whose parts have their forms
pub record GoodLine (l : Line) : Type 0 where
  pub identified : GoodIdentifier l.identifier
  pub tagged : is_tag l.tag ≡ true
  pub valued : GoodValue l.value

-- with a space behind it
abbrev pub spell_identifier : Option (List ℕ) → List ℕ
spell_identifier None = []
spell_identifier (Some i) = i ++ 32 ∷ []

-- with a space before it
abbrev pub spell_value : Value → List ℕ
spell_value nothing = []
spell_value void = 32 ∷ VOID
spell_value (pointer i) = 32 ∷ i
spell_value (text t) = 32 ∷ escaped t

-- a number in decimal digits, with no zero before them
abbrev pub numeral : ℕ → List ℕ
numeral n = cond (n == 0) (48 ∷ []) (map (λ d. 48 + d) (digits_of 10 n))

-- level, space, identifier and space if there is one, tag, space and value if there is one
abbrev pub spell : Line → List ℕ
spell l = numeral l.level ++ 32 ∷ spell_identifier l.identifier ++ l.tag ++ spell_value l.value
