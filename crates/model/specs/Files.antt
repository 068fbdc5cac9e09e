-- The lines of a file, and the rules that they keep without a book. Assumes nothing.
use Rattle.std.specs.Prelude.{◌≡◌, ℕ, ◌+◌, ◌<◌, ◌≤◌, ◌⊎◌, List, [], ◌∷◌, ◌++◌, map, length, None, ◌≢◌, slice_index_or}
use Rattle.std.specs.List.{AllByRecursion}
use Rattle.model.specs.Characters.{Clean}
use Rattle.model.specs.Lines.{Line, Value, GoodLine, spell, nothing, void, pointer, text, line_of}
use Rattle.model.specs.Datasets.{MARK, HEAD, TRLR, CONT, CONC, Dataset, lines}

-- CR LF, CR or LF
abbrev pub LineEnd : List ℕ → Type 0
LineEnd e = (e ≡ 13 ∷ 10 ∷ []) ⊎ ((e ≡ 13 ∷ []) ⊎ (e ≡ 10 ∷ []))

-- a file may begin with a mark
abbrev pub Mark : List ℕ → Type 0
Mark m = (m ≡ []) ⊎ (m ≡ MARK)

-- a line, its end, and the byte where it begins
pub record Placed : Type 0 where
  pub byte : ℕ
  pub line : Line
  pub ended : List ℕ

-- a good line with a line end
pub record GoodPlaced (p : Placed) : Type 0 where
  pub good : GoodLine p.line
  pub ends : LineEnd p.ended

-- the bytes of a line with its end
abbrev pub bytes_of : Placed → List ℕ
bytes_of p = spell p.line ++ p.ended

-- those of lines in a row
abbrev pub all_bytes : List Placed → List ℕ
all_bytes [] = []
all_bytes (p ∷ ps) = bytes_of p ++ all_bytes ps

-- each begins where the one before it ends
abbrev pub InPlace : ℕ → List Placed → Type 0
InPlace at [] = Unit {0}
InPlace at (p ∷ ps) = (p.byte ≡ at) × InPlace (at + length (bytes_of p)) ps

-- ps are the lines of the file
pub record Lined (file : List ℕ) (ps : List Placed) : Type 0 where
  pub mark : List ℕ
  pub marked : Mark mark
  pub are : file ≡ mark ++ all_bytes ps
  pub good : AllByRecursion GoodPlaced ps
  pub placed : InPlace (length mark) ps

-- the file has the lines of the dataset
abbrev pub HasLines : List ℕ → Dataset → Type 0
HasLines file d = (ps : List Placed) × Lined file ps × (map (λ p. p.line) ps ≡ lines d)

-- The rules that hold of each line, by its place among the lines. The number of each is that of its refusal.

-- the line at a place, counted from 0
abbrev pub at : List Line → ℕ → Line
at ls i = slice_index_or ls i (line_of 0 None [] nothing)

-- the last line before i that continues none
pub record LastOther (ls : List Line) (i j : ℕ) : Type 0 where
  pub before : j < i
  pub other : (at ls j).tag ≡ CONT → ⊥
  pub since : (k : ℕ) → j < k → k < i → (at ls k).tag ≡ CONT

-- void is a pointer here
abbrev pub IsPointer : Value → Type 0
IsPointer nothing = ⊥
IsPointer void = Unit {0}
IsPointer (pointer i) = Unit {0}
IsPointer (text t) = ⊥

-- no level is above 63
abbrev pub Keeps5 : List Line → ℕ → Type 0
Keeps5 ls i = (at ls i).level ≤ 63

-- the first line is a bare header, and no other is one
abbrev pub Keeps6 : List Line → ℕ → Type 0
Keeps6 ls i = (i ≡ 0 → at ls i ≡ line_of 0 None HEAD nothing) × (0 < i → (at ls i).level ≡ 0 → (at ls i).tag ≢ HEAD)

-- the last line is a bare trailer, and no other is one
abbrev pub Keeps7 : List Line → ℕ → Type 0
Keeps7 ls i = (i + 1 ≡ length ls → at ls i ≡ line_of 0 None TRLR nothing) × (i + 1 < length ls → (at ls i).level ≡ 0 → (at ls i).tag ≢ TRLR)

-- a line that continues none is at most one level deeper than the last such line
abbrev pub Keeps8 : List Line → ℕ → Type 0
Keeps8 ls i = ((at ls i).tag ≢ CONT) → (j : ℕ) → LastOther ls i j → (at ls i).level ≤ (at ls j).level + 1

-- only lines at level 0 have identifiers
abbrev pub Keeps9 : List Line → ℕ → Type 0
Keeps9 ls i = 0 < (at ls i).level → (at ls i).identifier ≡ None

-- line i may continue line j
pub record Continues (ls : List Line) (i j : ℕ) : Type 0 where
  pub deeper : (at ls i).level ≡ (at ls j).level + 1
  pub not_first : 0 < j
  pub text_before : IsPointer (at ls j).value → ⊥
  pub text_here : IsPointer (at ls i).value → ⊥

-- no tag is CONC, and a CONT continues the last line that continues none
abbrev pub Keeps10 : List Line → ℕ → Type 0
Keeps10 ls i = ((at ls i).tag ≢ CONC) × ((at ls i).tag ≡ CONT → (j : ℕ) × LastOther ls i j × Continues ls i j)

-- every line keeps the rule
abbrev pub Throughout : (List Line → ℕ → Type 0) → List Line → Type 0
Throughout Keeps ls = (i : ℕ) → i < length ls → Keeps ls i

-- there are lines, and they keep the rules 5 to 10
pub record Ordered (ls : List Line) : Type 0 where
  pub some : 0 < length ls
  pub levels : Throughout Keeps5 ls
  pub first : Throughout Keeps6 ls
  pub last : Throughout Keeps7 ls
  pub steps : Throughout Keeps8 ls
  pub named : Throughout Keeps9 ls
  pub continued : Throughout Keeps10 ls

-- the file passes the rules 1 to 10
pub record Passes (file : List ℕ) (ps : List Placed) : Type 0 where
  pub short : length file ≤ 16777216
  pub clean : Clean file
  pub lined : Lined file ps
  pub ordered : Ordered (map (λ p. p.line) ps)
