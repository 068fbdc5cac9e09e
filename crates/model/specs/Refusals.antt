-- Which refusal a reading gets, and where. Assumes nothing.
use Rattle.std.specs.Prelude.{◌≡◌, ℕ, ◌+◌, ◌<◌, ◌≤◌, min, Bool, true, cond, not, ◌&&◌, ◌||◌, ◌⊎◌, List, [], ◌∷◌, ◌++◌, map, length, take, drop, Some, None, IsUtf8, ◌==◌, ◌≢◌, slice_index}
use Rattle.std.proofs.Math.Utf8.{scalar, encode}
use Rattle.std.specs.Str.{IsValidUpTo, bytes_eq}
use Rattle.std.specs.List.{ContainsAt as Has, AllByRecursion}
use Rattle.model.specs.Characters.{Clean, banned}
use Rattle.model.specs.Lines.{Line, pointer}
use Rattle.model.specs.Datasets.{Dataset, IsDataset, MARK, CONT, tops, lines}
use Rattle.model.specs.Books.{Meaning}
use Rattle.model.specs.Files.{Placed, Lined, GoodPlaced, InPlace, bytes_of, all_bytes, at, Keeps5, Keeps6, Keeps7, Keeps8, Keeps9, Keeps10, Passes}
use Rattle.model.specs.Rules.{Situation, situations, Keeps14, Keeps15, Keeps16, Keeps17, Keeps18, Keeps19, NeedsMet, types_of, top_types}
use Rattle.model.specs.declared.Context.TheVariants.{Top}
use Rattle.model.specs.declared.Fault.{Fault}
use Rattle.model.specs.declared.Refusal.{Refusal}
use Rattle.model.specs.declared.Refusal.TheVariants.{Unheld, Foreign, Fixed, Held, Past, Oversized, Cramped}

-- what a refusal with a place tells
abbrev pub fault : ℕ → ℕ → ℕ → Fault
fault number line byte = record { number = number; line = line; byte = byte; missing = None }

-- The refusals of the calls on a drawer. Line and byte are 0 from 20 on.

-- the number of each
abbrev pub refusal_number : Refusal → ℕ
refusal_number Unheld = 20
refusal_number Foreign = 21
refusal_number Fixed = 22
refusal_number Held = 23
refusal_number Past = 24
refusal_number Oversized = 25
refusal_number Cramped = 26

-- what each tells
abbrev pub refusal_fault : Refusal → Fault
refusal_fault r = fault (refusal_number r) 0 0

-- The refusals of a reading.

-- i is the first of n places at which P does not hold
pub record First (P : ℕ → Type 0) (n i : ℕ) : Type 0 where
  pub within : i < n
  pub breaks : P i → ⊥
  pub before : (j : ℕ) → j < i → P j

-- the line in which the byte b stands: one more than the line ends before it
abbrev pub is_end_at : List ℕ → ℕ → Bool
is_end_at file i = slice_index file i == 10 || (slice_index file i == 13 && not (slice_index file (i + 1) == 10))

-- how many lines end before the byte
abbrev pub ends_before : List ℕ → ℕ → ℕ
ends_before file Prim.Native.Nat.zero = 0
ends_before file (Prim.Native.Nat.suc b) = cond (is_end_at file b) 1 0 + ends_before file b

-- counted from 1
abbrev pub line_at : List ℕ → ℕ → ℕ
line_at file b = 1 + ends_before file b

-- not longer than a file may be
abbrev pub Short : List ℕ → Type 0
Short file = length file ≤ 16777216

-- the first banned character begins at the byte b
pub record BannedAt (file : List ℕ) (b : ℕ) : Type 0 where
  pub before : Clean (take b file)
  pub character : ℕ
  pub real : scalar character ≡ true
  pub is_banned : banned character ≡ true
  pub begins : (rest : List ℕ) × (drop b file ≡ encode character ++ rest)

-- The longest run of lines from the front, and what follows it.

-- the bytes begin with these
abbrev pub Starts : List ℕ → List ℕ → Type 0
Starts bs front = (rest : List ℕ) × (bs ≡ front ++ rest)

-- no line with its end stands at the front
pub record NoLine (rest : List ℕ) : Type 0 where
  pub none : (p : Placed) → GoodPlaced p → Starts rest (bytes_of p) → ⊥

-- no line ends between a CR and the LF after it
abbrev pub EndsWhole : List ℕ → List Placed → List ℕ → Type 0
EndsWhole file [] rest = Unit {0}
EndsWhole file (p ∷ ps) rest = (p.ended ≡ 13 ∷ [] → Starts (all_bytes ps ++ rest) (10 ∷ []) → ⊥) × EndsWhole file ps rest

-- ps are all the lines from the front, and then comes no line, or there is none at all
pub record Unlined (file : List ℕ) (ps : List Placed) : Type 0 where
  pub mark : List ℕ
  pub marked : (mark ≡ MARK) ⊎ ((mark ≡ []) × (Starts file MARK → ⊥))
  pub rest : List ℕ
  pub are : file ≡ mark ++ all_bytes ps ++ rest
  pub good : AllByRecursion GoodPlaced ps
  pub placed : InPlace (length mark) ps
  pub whole : EndsWhole file ps rest
  pub ends : NoLine rest
  pub wrong : (0 < length rest) ⊎ (length ps ≡ 0)

-- the lines alone
abbrev pub lines_of : List Placed → List Line
lines_of ps = map (λ p. p.line) ps

-- where the line at a place begins
abbrev pub byte_at : List Placed → ℕ → ℕ
byte_at ps i = slice_index (map (λ p. p.byte) ps) i

-- where the rules before hold throughout, the first line that breaks this one
pub record Breaks (number : ℕ) (ps : List Placed) (Keeps : ℕ → Type 0) (f : Fault) : Type 0 where
  pub place : ℕ
  pub first : First Keeps (length ps) place
  pub told : f ≡ fault number (place + 1) (byte_at ps place)

-- the lines that are no continuation, by their places
abbrev pub others_from : ℕ → List Line → List ℕ
others_from i [] = []
others_from i (l ∷ ls) = cond (bytes_eq l.tag CONT) (others_from (i + 1) ls) (i ∷ others_from (i + 1) ls)

-- those of a file
abbrev pub others : List Placed → List ℕ
others ps = others_from 0 (lines_of ps)

-- there are no more of them than cards
abbrev pub Keeps11 : ℕ → List Placed → ℕ → Type 0
Keeps11 room ps i = (k : ℕ) → k < length (others ps) → slice_index (others ps) k ≡ i → k < min room 65535

-- no line before has its identifier
abbrev pub Keeps12 : List Line → ℕ → Type 0
Keeps12 ls i = (x : List ℕ) → (at ls i).identifier ≡ Some x → (j : ℕ) → j < i → (at ls j).identifier ≢ Some x

-- some line has the identifier that its pointer names
abbrev pub Keeps13 : List Line → ℕ → Type 0
Keeps13 ls i = (x : List ℕ) → (at ls i).value ≡ pointer x → (j : ℕ) × (j < length ls) × ((at ls j).identifier ≡ Some x)

-- card i of the dataset breaks a rule of the book, and no card before it
pub record BreaksBook (number : ℕ) (ps : List Placed) (ss : List Situation) (Keeps : Situation → Type 0) (f : Fault) : Type 0 where
  pub card : ℕ
  pub before : List Situation
  pub one : Situation
  pub after : List Situation
  pub are : ss ≡ before ++ one ∷ after
  pub counted : length before ≡ card
  pub kept : AllByRecursion Keeps before
  pub broken : Keeps one → ⊥
  pub told : f ≡ fault number (slice_index (others ps) card + 1) (byte_at ps (slice_index (others ps) card))

-- what is missing at the top, or under the first card that lacks something
pub record BreaksTop (m : Meaning) (ps : List Placed) (d : Dataset) (f : Fault) : Type 0 where
  pub need : ℕ
  pub missing : ℕ
  pub first : First (λ j. (t : ℕ) → m.need Top j ≡ Some t → Has (top_types m (tops d)) (Some t)) (m.needs Top) need
  pub is : m.need Top need ≡ Some missing
  pub told : f ≡ record { number = 18; line = 1; byte = byte_at ps 0; missing = Some missing }

-- card i lacks a type that it needs, and no card before it lacks one
pub record BreaksNeeds (m : Meaning) (ps : List Placed) (ss : List Situation) (f : Fault) : Type 0 where
  pub before : List Situation
  pub one : Situation
  pub after : List Situation
  pub are : ss ≡ before ++ one ∷ after
  pub kept : AllByRecursion (Keeps18 m) before
  pub need : ℕ
  pub missing : ℕ
  pub first : First (λ j. (t : ℕ) → m.need one.inside j ≡ Some t → Has (types_of m one.inside one.subs) (Some t)) (m.needs one.inside) need
  pub is : m.need one.inside need ≡ Some missing
  pub told : f ≡ record { number = 18; line = slice_index (others ps) (length before) + 1; byte = byte_at ps (slice_index (others ps) (length before)); missing = Some missing }

-- The rules of the lines, in the order in which they are asked.
pub data LineRule : Type 0 where
  levels first last steps named continued room apart aimed : LineRule

-- the number of each
abbrev pub line_rule_number : LineRule → ℕ
line_rule_number levels = 5
line_rule_number first = 6
line_rule_number last = 7
line_rule_number steps = 8
line_rule_number named = 9
line_rule_number continued = 10
line_rule_number room = 11
line_rule_number apart = 12
line_rule_number aimed = 13

-- what each asks of the line at a place
abbrev pub LineKeeps : LineRule → ℕ → List Placed → ℕ → Type 0
LineKeeps levels cards ps i = Keeps5 (lines_of ps) i
LineKeeps first cards ps i = Keeps6 (lines_of ps) i
LineKeeps last cards ps i = Keeps7 (lines_of ps) i
LineKeeps steps cards ps i = Keeps8 (lines_of ps) i
LineKeeps named cards ps i = Keeps9 (lines_of ps) i
LineKeeps continued cards ps i = Keeps10 (lines_of ps) i
LineKeeps room cards ps i = Keeps11 cards ps i
LineKeeps apart cards ps i = Keeps12 (lines_of ps) i
LineKeeps aimed cards ps i = Keeps13 (lines_of ps) i

-- of all lines
abbrev pub LinesKeep : LineRule → ℕ → List Placed → Type 0
LinesKeep r cards ps = (i : ℕ) → i < length ps → LineKeeps r cards ps i

-- the first rule that some line breaks, and the first line that breaks it
pub record LineRefusal (cards : ℕ) (ps : List Placed) (f : Fault) : Type 0 where
  pub rule : LineRule
  pub earlier : (r : LineRule) → line_rule_number r < line_rule_number rule → LinesKeep r cards ps
  pub breaks : Breaks (line_rule_number rule) ps (LineKeeps rule cards ps) f

-- The rules of the book.
pub data BookRule : Type 0 where
  known taken aimed_right single needed filled : BookRule

-- the number of each
abbrev pub book_rule_number : BookRule → ℕ
book_rule_number known = 14
book_rule_number taken = 15
book_rule_number aimed_right = 16
book_rule_number single = 17
book_rule_number needed = 18
book_rule_number filled = 19

-- what each asks of a situation
abbrev pub BookKeeps : Meaning → Dataset → BookRule → Situation → Type 0
BookKeeps m d known s = Keeps14 s
BookKeeps m d taken s = Keeps15 m s
BookKeeps m d aimed_right s = Keeps16 m d s
BookKeeps m d single s = Keeps17 s
BookKeeps m d needed s = Keeps18 m s
BookKeeps m d filled s = Keeps19 m s

-- what each asks of the top
abbrev pub TopKeeps : Meaning → Dataset → BookRule → Type 0
TopKeeps m d known = Unit {0}
TopKeeps m d taken = Unit {0}
TopKeeps m d aimed_right = Unit {0}
TopKeeps m d single = Unit {0}
TopKeeps m d needed = NeedsMet m Top (top_types m (tops d))
TopKeeps m d filled = Unit {0}

-- what is told of the first that breaks it
abbrev pub BookTells : Meaning → List Placed → Dataset → BookRule → Fault → Type 0
BookTells m ps d known f = BreaksBook 14 ps (situations m d) Keeps14 f
BookTells m ps d taken f = BreaksBook 15 ps (situations m d) (Keeps15 m) f
BookTells m ps d aimed_right f = BreaksBook 16 ps (situations m d) (Keeps16 m d) f
BookTells m ps d single f = BreaksBook 17 ps (situations m d) Keeps17 f
BookTells m ps d needed f = BreaksTop m ps d f ⊎ (NeedsMet m Top (top_types m (tops d)) × BreaksNeeds m ps (situations m d) f)
BookTells m ps d filled f = BreaksBook 19 ps (situations m d) (Keeps19 m) f

-- the first rule that something breaks, and the first card that breaks it
pub record BookRefusal (m : Meaning) (ps : List Placed) (d : Dataset) (f : Fault) : Type 0 where
  pub rule : BookRule
  pub earlier : (r : BookRule) → book_rule_number r < book_rule_number rule → TopKeeps m d r × AllByRecursion (BookKeeps m d r) (situations m d)
  pub tells : BookTells m ps d rule f

-- Each rule is asked of the whole file before the next.
pub data Refuses (m : Meaning) (file : List ℕ) (cards : ℕ) (f : Fault) : Type 0 where
  too_long : 16777216 < length file → f ≡ fault 1 0 0 → Refuses m file cards f
  malformed : (b : ℕ) → Short file → IsValidUpTo file b → f ≡ fault 2 (line_at file b) b → Refuses m file cards f
  forbidden : (b : ℕ) → Short file → IsUtf8 file → BannedAt file b → f ≡ fault 3 (line_at file b) b → Refuses m file cards f
  unlined : (ps : List Placed) → Short file → Clean file → (u : Unlined file ps) → f ≡ fault 4 (length ps + 1) (length u.mark + length (all_bytes ps)) → Refuses m file cards f
  lined : (ps : List Placed) → Short file → Clean file → Lined file ps → LineRefusal cards ps f → Refuses m file cards f
  booked : (ps : List Placed) (d : Dataset) → Passes file ps → IsDataset d → lines_of ps ≡ lines d → length (others ps) ≤ min cards 65535 → BookRefusal m ps d f → Refuses m file cards f
