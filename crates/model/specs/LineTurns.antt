-- What the loop that scans a file's lines keeps from turn to turn. Assumes nothing.
use Rattle.std.specs.Prelude.{◌≡◌, ℕ, ◌+◌, ◌-◌, ◌<◌, ◌≤◌, min, Bool, true, false, cond, not, ◌&&◌, ◌||◌, ◌⊎◌, List, [], ◌∷◌, ◌++◌, length, drop, Some, None, Decides, Option, ◌==◌, ◌≢◌, nat_lt, slice_index}
use Rattle.std.specs.List.{prefix_len, AllByRecursion}
use Rattle.std.specs.Str.{bytes_eq}
use Rattle.model.specs.declared.Place.{Place}
use Rattle.model.specs.Characters.{Clean}
use Rattle.model.specs.Lines.{Line, Value, nothing, void, pointer, text, line_of}
use Rattle.model.specs.Scan.{in_line}
use Rattle.model.specs.Datasets.{MARK, HEAD, TRLR, CONT, CONC}
use Rattle.model.specs.Files.{Placed, GoodPlaced, InPlace, all_bytes, at, Keeps5, Keeps6, Keeps8, Keeps9, Keeps10, LastOther, IsPointer}
use Rattle.model.specs.Refusals.{fault, First, Starts, EndsWhole, lines_of, byte_at, others, Keeps11, LineRule, line_rule_number, LinesKeep, LineRefusal}
use Rattle.model.specs.declared.Fault.{Fault}

-- Places in the file

-- a mark that begins the file is taken off
abbrev pub Marked : List ℕ → List ℕ → Type 0
Marked file m = (m ≡ MARK) ⊎ ((m ≡ []) × (Starts file MARK → ⊥))

-- whether one does; a byte past the end reads as 0
abbrev pub is_marked : List ℕ → Bool
is_marked file = slice_index file 0 == 0xEF && (slice_index file 1 == 0xBB && slice_index file 2 == 0xBF)

-- where the line that begins at i has its end, and where the next begins: CR LF is one end
abbrev pub line_end : List ℕ → ℕ → ℕ
line_end file i = i + prefix_len in_line (drop i file)

abbrev pub is_pair : List ℕ → ℕ → Bool
is_pair file e = slice_index file e == 13 && slice_index file (e + 1) == 10

abbrev pub end_bytes : List ℕ → ℕ → List ℕ
end_bytes file e = cond (is_pair file e) (13 ∷ 10 ∷ []) (slice_index file e ∷ [])

abbrev pub next_line : List ℕ → ℕ → ℕ
next_line file e = cond (is_pair file e) (e + 2) (e + 1)

abbrev pub placed_at : ℕ → Line → List ℕ → Placed
placed_at byte line ended = record { byte = byte; line = line; ended = ended }

-- the line that was found at i
abbrev pub found_at : List ℕ → ℕ → Line → Placed
found_at file i line = placed_at i line (end_bytes file (line_end file i))

-- ps are the lines up to the byte i, each with its whole end, and clean bytes follow
pub record Scanned (file : List ℕ) (ps : List Placed) (i : ℕ) : Type 0 where
  pub mark : List ℕ
  pub marked : Marked file mark
  pub within : i ≤ length file
  pub are : file ≡ mark ++ (all_bytes ps ++ drop i file)
  pub here : i ≡ length mark + length (all_bytes ps)
  pub good : AllByRecursion GoodPlaced ps
  pub placed : InPlace (length mark) ps
  pub whole : EndsWhole file ps (drop i file)
  pub clean : Clean (drop i file)

-- The rules of the lines, noted as the lines come

-- where a line is: its number from 1 and its byte
abbrev pub spot : ℕ → ℕ → Place
spot line byte = record { line = line; byte = byte }

abbrev pub spot_of : List Placed → ℕ → Place
spot_of ps i = (spot (i + 1) (byte_at ps i))

-- the first line that breaks a rule stays noted
abbrev pub note : Option Place → Bool → Place → Option Place
note None broken here = cond broken (Some here) None
note (Some s) broken here = Some s

-- no line breaks the rule; or the first that does is here
abbrev pub Noted : (ℕ → Type 0) → List Placed → Option Place → Type 0
Noted Keeps ps None = (i : ℕ) → i < length ps → Keeps i
Noted Keeps ps (Some s) = (i : ℕ) × First Keeps (length ps) i × (s ≡ spot_of ps i)

-- What a turn asks of a line

abbrev pub is_pointer : Value → Bool
is_pointer nothing = false
is_pointer void = true
is_pointer (pointer i) = true
is_pointer (text t) = false

abbrev pub is_nothing : Value → Bool
is_nothing nothing = true
is_nothing void = false
is_nothing (pointer i) = false
is_nothing (text t) = false

abbrev pub has_identifier : Line → Bool
has_identifier l = elim l.identifier as (λ _. Bool) [ None ↦ false | Some i ↦ true ]

abbrev pub has_tag : List ℕ → Line → Bool
has_tag tag l = bytes_eq l.tag tag

-- what the rules 5 to 11 ask of a line; its level may be counted up to a cap only
pub record Seen : Type 0 where
  pub level : ℕ
  pub named : Bool
  pub header : Bool
  pub trailer : Bool
  pub continuation : Bool
  pub concatenation : Bool
  pub pointing : Bool
  pub empty : Bool

abbrev pub seen_with : ℕ → Bool → Bool → Bool → Bool → Bool → Bool → Bool → Seen
seen_with level named header trailer continuation concatenation pointing empty = record { level = level; named = named; header = header; trailer = trailer; continuation = continuation; concatenation = concatenation; pointing = pointing; empty = empty }

abbrev pub seen_of : ℕ → Line → Seen
seen_of level l = seen_with level (has_identifier l) (has_tag HEAD l) (has_tag TRLR l) (has_tag CONT l) (has_tag CONC l) (is_pointer l.value) (is_nothing l.value)

-- the last line that was no continuation: its level, and whether it is a pointer and the first line
pub record Last : Type 0 where
  pub level : ℕ
  pub pointing : Bool
  pub first : Bool

abbrev pub last_with : ℕ → Bool → Bool → Last
last_with level pointing first = record { level = level; pointing = pointing; first = first }

abbrev pub breaks5 : ℕ → Bool
breaks5 level = nat_lt 63 level

-- the line at the place 0 has to be the header and nothing else, and no other line may be one
abbrev pub breaks6 : ℕ → Seen → Bool
breaks6 n v = cond (n == 0) (not ((v.level == 0 && v.header) && (not v.named && v.empty))) (v.level == 0 && v.header)

abbrev pub is_trailer : Seen → Bool
is_trailer v = v.level == 0 && v.trailer

-- and nothing else
abbrev pub closes : Seen → Bool
closes v = (v.level == 0 && v.trailer) && (not v.named && v.empty)

abbrev pub breaks8 : Last → Seen → Bool
breaks8 o v = not v.continuation && nat_lt (o.level + 1) v.level

abbrev pub breaks9 : Seen → Bool
breaks9 v = nat_lt 0 v.level && v.named

abbrev pub continues : Last → Seen → Bool
continues o v = v.level == o.level + 1 && (not o.first && (not o.pointing && not v.pointing))

abbrev pub breaks10 : Last → Seen → Bool
breaks10 o v = v.concatenation || (v.continuation && not (continues o v))

abbrev pub last_after : ℕ → Last → Seen → Last
last_after n o v = cond v.continuation o (last_with v.level v.pointing (n == 0))

-- no trailer stands before the end: the part of rule 7 that each line can be asked
abbrev pub NoTrailer : List Line → ℕ → Type 0
NoTrailer ls i = (at ls i).level ≡ 0 → (at ls i).tag ≢ TRLR

-- o is the last of the lines that is no continuation
pub record LastIs (ls : List Line) (o : Last) : Type 0 where
  pub place : ℕ
  pub last : LastOther ls (length ls) place
  pub level : o.level ≡ (at ls place).level
  pub pointing : Decides o.pointing (IsPointer (at ls place).value)
  pub first : Decides o.first (place ≡ 0)

pub record Notes : Type 0 where
  pub levels : Option Place
  pub first : Option Place
  pub trailer : Option Place
  pub steps : Option Place
  pub named : Option Place
  pub continued : Option Place

abbrev pub notes_with : Option Place → Option Place → Option Place → Option Place → Option Place → Option Place → Notes
notes_with levels first trailer steps named continued = record { levels = levels; first = first; trailer = trailer; steps = steps; named = named; continued = continued }

-- one turn: the line at the place n, which begins at this byte
abbrev pub notes_after : ℕ → ℕ → Last → Seen → Notes → Notes
notes_after n byte o v s = notes_with (note s.levels (breaks5 v.level) (spot (n + 1) byte)) (note s.first (breaks6 n v) (spot (n + 1) byte)) (note s.trailer (is_trailer v) (spot (n + 1) byte)) (note s.steps (breaks8 o v) (spot (n + 1) byte)) (note s.named (breaks9 v) (spot (n + 1) byte)) (note s.continued (breaks10 o v) (spot (n + 1) byte))

-- where no line breaks the rules 5 and 6
pub record RuledIn (ps : List Placed) (o : Last) (s : Notes) : Type 0 where
  pub last : 0 < length ps → LastIs (lines_of ps) o
  pub trailer : Noted (NoTrailer (lines_of ps)) ps s.trailer
  pub steps : Noted (Keeps8 (lines_of ps)) ps s.steps
  pub named : Noted (Keeps9 (lines_of ps)) ps s.named
  pub continued : Noted (Keeps10 (lines_of ps)) ps s.continued

-- what is noted of the lines so far; only the lowest rule that is broken counts
pub record Ruled (ps : List Placed) (o : Last) (s : Notes) : Type 0 where
  pub levels : Noted (Keeps5 (lines_of ps)) ps s.levels
  pub first : s.levels ≡ None → Noted (Keeps6 (lines_of ps)) ps s.first
  pub inner : s.levels ≡ None → s.first ≡ None → RuledIn ps o s

-- The last line: whether it is the trailer and nothing else, and where it is
pub record Closed (ps : List Placed) (exact : Bool) (here : Place) : Type 0 where
  pub is : exact ≡ true → at (lines_of ps) (length ps - 1) ≡ line_of 0 None TRLR nothing
  pub only : at (lines_of ps) (length ps - 1) ≡ line_of 0 None TRLR nothing → exact ≡ true
  pub there : here ≡ spot_of ps (length ps - 1)

-- rule 7 at the end: a trailer that is not the last line, or a last line that is none
abbrev pub closing : Option Place → Bool → Place → Option Place
closing None exact here = Some here
closing (Some s) exact here = cond (nat_lt s.line here.line) (Some s) (cond exact None (Some here))

-- the lowest rule with a line noted
abbrev pub told : ℕ → Option Place → Option Fault → Option Fault
told number None rest = rest
told number (Some s) rest = Some (fault number s.line s.byte)

abbrev pub verdict : Notes → Bool → Place → Option Fault → Option Fault
verdict s exact here rest = told 5 s.levels (told 6 s.first (told 7 (closing s.trailer exact here) (told 8 s.steps (told 9 s.named (told 10 s.continued rest)))))

-- the lines keep the rules of the lines that come before the one with the number k
abbrev pub RulesKept : ℕ → ℕ → List Placed → Type 0
RulesKept k cards ps = (r : LineRule) → line_rule_number r < k → LinesKeep r cards ps

abbrev pub Verdict : ℕ → ℕ → List Placed → Option Fault → Type 0
Verdict k cards ps None = RulesKept k cards ps
Verdict k cards ps (Some f) = LineRefusal cards ps f

-- Rule 11, by the number of lines so far that are no continuation

abbrev pub breaks11 : ℕ → ℕ → Seen → Bool
breaks11 cards count v = not v.continuation && not (nat_lt count (min cards 65535))

abbrev pub count_after : ℕ → Seen → ℕ
count_after count v = cond v.continuation count (count + 1)

-- all that the loop over the lines knows at the byte i, behind the lines ps
pub record Turn (file : List ℕ) (cards : ℕ) (ps : List Placed) (i lines count : ℕ) (o : Last) (s : Notes) (over : Option Place) (exact : Bool) (here : Place) : Type 0 where
  pub scanned : Scanned file ps i
  pub numbered : lines ≡ length ps
  pub counted : count ≡ length (others ps)
  pub short : lines ≤ i
  pub fewer : count ≤ lines
  pub ruled : Ruled ps o s
  pub room : Noted (Keeps11 cards ps) ps over
  pub closed : 0 < length ps → Closed ps exact here
