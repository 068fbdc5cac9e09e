-- The definitions by example: payloads, lines, the smallest tree, and a removal for each clause of its rules. Assumes nothing.
use Rattle.std.specs.Prelude.{◌≡◌, ℕ, true, List, [], ◌∷◌, ◌++◌, length, take, Some, None, codes, ◌≢◌}
use Prim.Native.String.{String}
use Rattle.model.specs.declared.Context.{Context}
use Rattle.model.specs.declared.Context.TheVariants.{Top, Under}
use Rattle.model.specs.declared.Kind.TheVariants.{Nothing, Text, Pointer, Anything}
use Rattle.model.specs.Lines.{Line, text, GoodLine, line_of, spell}
use Rattle.model.specs.Datasets.{Payload, none, void, pointer, Structures, end, next, Record, Dataset, IsDataset, written}
use Rattle.model.specs.Datasets as dataset
use Rattle.model.specs.Files.{HasLines}
use Rattle.model.specs.Books.{Meaning}
use Rattle.model.specs.Kinds.{cut, IsDate, IsDateValue, IsExact, IsTime, IsAge}
use Rattle.model.specs.Tables.{TableRow, Table, at, one, must, many, home, meaning_of}
use Rattle.model.specs.Rules.{Belongs}
use Rattle.model.specs.Removal.{removed, card_count}
use Rattle.model.specs.Refusals.{Refuses, fault}

-- Payloads and lines

abbrev pub words : String → List (List ℕ)
words s = cut 32 (codes s)

-- no good line is spelled so
abbrev pub NoLine : String → Type 0
NoLine bytes = (l : Line) → GoodLine l → spell l ≢ codes bytes

-- one good line is spelled so
pub record TheLine (bytes : String) (line : Line) : Type 0 where
  pub good : GoodLine line
  pub spelled : spell line ≡ codes bytes
  pub alone : (l : Line) → GoodLine l → spell l ≡ codes bytes → l ≡ line

abbrev pub note : String → Line
note t = line_of 1 None (codes "NOTE") (text (codes t))

-- The smallest tree

abbrev pub line_feed : List ℕ
line_feed = 10 ∷ []

abbrev pub smallest_file : List ℕ
smallest_file = codes "0 HEAD" ++ line_feed ++ codes "1 GEDC" ++ line_feed ++ codes "2 VERS 7.0" ++ line_feed ++ codes "0 TRLR" ++ line_feed

abbrev pub words_of : String → Payload
words_of s = dataset.text (codes s) []

-- a structure, and the row that it stands in
abbrev pub leaf : String → Payload → Structures → Structures
leaf tag p rest = next (codes tag) p end rest

abbrev pub branch : String → Payload → Structures → Structures → Structures
branch tag p subs rest = next (codes tag) p subs rest

abbrev pub version : Structures → Structures
version rest = branch "GEDC" none (leaf "VERS" (words_of "7.0") end) rest

abbrev pub tree : Structures → List Record → Dataset
tree header records = record { header = header; records = records }

abbrev pub smallest : Dataset
smallest = tree (version end) []

-- 32 bytes, 4 cards, 35 bytes written; without its last byte the fourth line has no end
pub record SmallestTree : Type 0 where
  pub long : length smallest_file ≡ 32
  pub is : IsDataset smallest
  pub has_lines : HasLines smallest_file smallest
  pub belongs : Belongs home smallest
  pub cards : card_count smallest ≡ 4
  pub written_long : length (written smallest) ≡ 35
  pub cut_short : (m : Meaning) (cards : ℕ) → Refuses m (take 31 smallest_file) cards (fault 4 4 25)

pub record WorkedExamples : Type 0 where
  pub a_date : IsDate (words "HEBREW 1 TSH 5784")
  pub no_epoch : IsDateValue (words "HEBREW 1 TSH 5784 BCE") → ⊥
  pub no_day : IsExact (words "MAY 1990") → ⊥
  pub last_minute : IsTime (codes "23:59")
  pub no_minute : IsTime (codes "24:00") → ⊥
  pub an_age : IsAge (words "> 3y 2d")
  pub no_age : IsAge (words ">3y") → ⊥
  pub space_last : NoLine "1 NOTE "
  pub space_first : TheLine "1 NOTE  a" (note " a")
  pub two_marks : TheLine "1 NOTE @@" (note "@")
  pub one_mark : NoLine "1 NOTE @"
  pub smallest_tree : SmallestTree

-- Removals, card by card

abbrev pub named : String → String → Payload → Structures → Record
named i tag p subs = record { identifier = Some (codes i); tag = codes tag; payload = p; subs = subs }

-- a pointer to the record with this identifier
abbrev pub to : String → Payload
to i = pointer (codes i)

-- from the first tree, the removal of a card leaves the second
abbrev pub Leaves : Meaning → Dataset → ℕ → Dataset → Type 0
Leaves m d card e = removed m d card ≡ Some e

-- the removal meets a held structure
abbrev pub IsHeld : Meaning → Dataset → ℕ → Type 0
IsHeld m d card = removed m d card ≡ None

-- Ann, her birth with a place, and the family in which she is a child
abbrev pub map_of : Structures → Structures
map_of rest = branch "MAP" none (leaf "LATI" (words_of "N1") (leaf "LONG" (words_of "E2") end)) rest

abbrev pub place : Structures → Structures
place rest = branch "PLAC" (words_of "Lund") (map_of end) rest

abbrev pub ann : Record
ann = named "@I1@" "INDI" none (leaf "NAME" (words_of "Ann /Lee/") (branch "BIRT" none (place end) end))

abbrev pub bob : Record
bob = named "@I10@" "INDI" none (leaf "NAME" (words_of "Bob /Lee/") end)

abbrev pub lees : Record
lees = named "@F1@" "FAM" none (leaf "HUSB" (to "@I10@") (leaf "CHIL" (to "@I1@") end))

-- 0 HEAD, 1 GEDC, 2 VERS, 3 INDI, 4 NAME, 5 BIRT, 6 PLAC, 7 MAP, 8 LATI, 9 LONG, 10 INDI, 11 NAME, 12 FAM, 13 HUSB, 14 CHIL
abbrev pub lees_tree : Dataset
lees_tree = tree (version end) (ann ∷ bob ∷ lees ∷ [])

-- a row for many structures of which one is required
abbrev pub must_many : String → ℕ → Context → TableRow
must_many tag t c = record { context = c; tag = codes tag; row = record { typed = t; required = true; many = true } }

-- a club that has to have a name, perhaps more than one, and an editor
abbrev pub small_table : Table
small_table = record {
  rows = at Top (must "HEAD" 0 ∷ many "CLUB" 1 ∷ many "INDI" 2 ∷ [])
      ++ at (Under 0) (one "PRES" 6 ∷ [])
      ++ at (Under 1) (must_many "NAME" 3 ∷ must "EDIT" 4 ∷ [])
      ++ at (Under 2) (one "LIFE" 5 ∷ [])
      ++ at (Under 5) (one "PART" 5 ∷ one "NOTE" 3 ∷ [])
      ++ at (Under 3) (one "LANG" 7 ∷ []);
  kinds = Nothing ∷ Nothing ∷ Anything ∷ Text ∷ Pointer 2 ∷ Nothing ∷ Pointer 2 ∷ Text ∷ [];
  sets = [];
}

abbrev pub small : Meaning
small = meaning_of small_table

abbrev pub eve : Record
eve = named "@E@" "INDI" (words_of "Eve") (branch "LIFE" none (branch "PART" none (leaf "NOTE" (words_of "x") end) end) end)

abbrev pub club_with : Structures → Record
club_with subs = named "@C@" "CLUB" none subs

-- 0 HEAD, 1 PRES, 2 CLUB, 3 NAME, 4 LANG, 5 EDIT, 6 INDI, 7 LIFE, 8 PART, 9 NOTE
abbrev pub club_tree : Dataset
club_tree = tree (leaf "PRES" (to "@E@") end) (club_with (branch "NAME" (words_of "Old Books") (leaf "LANG" (words_of "en") end) (leaf "EDIT" (to "@E@") end)) ∷ eve ∷ [])

-- two names in one club, neither of which has to stay
abbrev pub two_names : Dataset
two_names = tree end (club_with (leaf "NAME" (words_of "Old") (leaf "NAME" (words_of "New") (leaf "EDIT" void end))) ∷ [])

-- a name that says nothing but in a substructure
abbrev pub bare_name : Dataset
bare_name = tree end (club_with (branch "NAME" none (leaf "LANG" (words_of "en") end) (leaf "EDIT" void end)) ∷ [])

pub record RemovalExamples : Type 0 where
  -- a structure goes with its substructures
  pub with_substructures : Leaves home lees_tree 6 (tree (version end) (named "@I1@" "INDI" none (leaf "NAME" (words_of "Ann /Lee/") end) ∷ bob ∷ lees ∷ []))
  -- a record goes, and each pointer to it becomes void; those to another stay
  pub record_goes : Leaves home lees_tree 3 (tree (version end) (bob ∷ named "@F1@" "FAM" none (leaf "HUSB" (to "@I10@") (leaf "CHIL" void end)) ∷ []))
  -- in the header and under the records
  pub everywhere : Leaves small club_tree 6 (tree (leaf "PRES" void end) (club_with (branch "NAME" (words_of "Old Books") (leaf "LANG" (words_of "en") end) (leaf "EDIT" void end)) ∷ []))
  -- a required structure that is not the only one of its type goes
  pub not_the_only : Leaves small two_names 2 (tree end (club_with (leaf "NAME" (words_of "New") (leaf "EDIT" void end)) ∷ []))
  -- a required text loses its text and its substructures, and stays
  pub text_emptied : Leaves small club_tree 3 (tree (leaf "PRES" (to "@E@") end) (club_with (leaf "NAME" none (leaf "EDIT" (to "@E@") end)) ∷ eve ∷ []))
  -- a required pointer becomes void
  pub pointer_voided : Leaves small club_tree 5 (tree (leaf "PRES" (to "@E@") end) (club_with (branch "NAME" (words_of "Old Books") (leaf "LANG" (words_of "en") end) (leaf "EDIT" void end)) ∷ eve ∷ []))
  -- what must stay and has needs is held
  pub version_held : IsHeld home lees_tree 1
  -- what must stay and has a kind that takes something is held
  pub number_held : IsHeld home lees_tree 2
  -- a required text whose kind may be emptied stays without it
  pub latitude_emptied : Leaves home lees_tree 8 (tree (version end) (named "@I1@" "INDI" none (leaf "NAME" (words_of "Ann /Lee/") (branch "BIRT" none (branch "PLAC" (words_of "Lund") (branch "MAP" none (leaf "LATI" none (leaf "LONG" (words_of "E2") end)) end) end) end)) ∷ bob ∷ lees ∷ []))
  -- the last substructure takes two superstructures with it, and stops at one that has a payload
  pub left_bare_twice : Leaves small club_tree 9 (tree (leaf "PRES" (to "@E@") end) (club_with (branch "NAME" (words_of "Old Books") (leaf "LANG" (words_of "en") end) (leaf "EDIT" (to "@E@") end)) ∷ named "@E@" "INDI" (words_of "Eve") end ∷ []))
  -- up to the record itself, to which the pointers then become void
  pub record_left_bare : Leaves home lees_tree 11 (tree (version end) (ann ∷ named "@F1@" "FAM" none (leaf "HUSB" void (leaf "CHIL" (to "@I1@") end)) ∷ []))
  -- a required structure whose kind may be emptied is excused
  pub excused : Leaves small bare_name 3 (tree end (club_with (leaf "NAME" none (leaf "EDIT" void end)) ∷ []))
  -- the header stays without substructures
  pub header_stays : Leaves small club_tree 1 (tree end (club_with (branch "NAME" (words_of "Old Books") (leaf "LANG" (words_of "en") end) (leaf "EDIT" (to "@E@") end)) ∷ eve ∷ []))
