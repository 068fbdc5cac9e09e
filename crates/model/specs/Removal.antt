-- What a removal leaves. Assumes nothing.
use Rattle.std.specs.Prelude.{ℕ, zero, suc, ◌+◌, ◌-◌, Bool, true, false, cond, not, ◌&&◌, ◌||◌, List, [], ◌∷◌, map, length, Some, None, Option, ◌==◌, nat_lt}
use Rattle.std.specs.Str.{bytes_eq}
use Rattle.model.specs.declared.Context.{Context}
use Rattle.model.specs.declared.Context.TheVariants.{Top}
use Rattle.model.specs.declared.Kind.{Kind}
use Rattle.model.specs.declared.Kind.TheVariants.{Nothing, Text, Flag, Integer, Word, Words, Texts, Date, Period, Exact, Time, Age, Name, Version, Pointer, Anything}
use Rattle.model.specs.Books.{Meaning}
use Rattle.model.specs.Datasets.{HEAD, Payload, none, text, void, pointer, Structures, end, next, Record, Dataset, tops, entries}
use Rattle.model.specs.Kinds.{may_be_emptied}
use Rattle.model.specs.Rules.{below, typed, types_of, top_types}

-- two structures have one type
abbrev pub same_type : Option ℕ → Option ℕ → Bool
same_type None o = false
same_type (Some t) None = false
same_type (Some t) (Some u) = t == u

-- how many of these have the type
abbrev pub how_many : Option ℕ → List (Option ℕ) → ℕ
how_many t [] = 0
how_many t (u ∷ us) = cond (same_type t u) 1 0 + how_many t us

-- whether the row is required
abbrev pub required : Meaning → Context → List ℕ → Bool
required m c tag = elim (m.row c tag) [ None ↦ false | Some r ↦ r.required ]

-- the kind of a tag in a context
abbrev pub kind_of : Meaning → Context → List ℕ → Kind
kind_of m c tag = elim (m.row c tag) [ None ↦ Nothing | Some r ↦ m.kind r.typed ]

-- its row is required, and it is the only one of its type under its superstructure
abbrev pub must_stay : Meaning → Context → List (Option ℕ) → List ℕ → Bool
must_stay m c all tag = required m c tag && how_many (typed m c tag) all == 1

-- the kind of pointers
abbrev pub is_pointer_kind : Kind → Bool
is_pointer_kind Nothing = false
is_pointer_kind Text = false
is_pointer_kind Flag = false
is_pointer_kind Integer = false
is_pointer_kind (Word s) = false
is_pointer_kind (Words s) = false
is_pointer_kind Texts = false
is_pointer_kind Date = false
is_pointer_kind Period = false
is_pointer_kind Exact = false
is_pointer_kind Time = false
is_pointer_kind Age = false
is_pointer_kind Name = false
is_pointer_kind Version = false
is_pointer_kind (Pointer t) = true
is_pointer_kind Anything = false

-- one that must stay can be left without content
abbrev pub can_be_emptied : Meaning → Context → List ℕ → Bool
can_be_emptied m c tag = m.needs (below m c tag) == 0 && (is_pointer_kind (kind_of m c tag) || may_be_emptied (kind_of m c tag))

-- a pointer becomes void, and a text goes
abbrev pub without_content : Payload → Payload
without_content none = none
without_content (text t more) = none
without_content void = void
without_content (pointer i) = void

-- What becomes of one structure that a removal meets: it goes, it stays without content, or it is held.
pub data Fate : Type 0 where
  goes : Fate
  stays_empty : Fate
  held : Fate

-- by the same rule for every structure that a removal meets
abbrev pub fate : Meaning → Context → List (Option ℕ) → List ℕ → Fate
fate m c all tag = cond (must_stay m c all tag) (cond (can_be_emptied m c tag) stays_empty held) goes

-- left with neither payload nor substructure, and not excused for it
abbrev pub is_none : Payload → Bool
is_none none = true
is_none (text t more) = false
is_none void = false
is_none (pointer i) = false

-- there is no structure
abbrev pub is_end : Structures → Bool
is_end end = true
is_end (next tag p subs rest) = false

-- it has neither payload nor substructure, and is not excused
abbrev pub left_bare : Meaning → Context → List ℕ → Payload → Structures → Bool
left_bare m c tag p subs = is_none p && is_end subs && not (required m c tag && may_be_emptied (kind_of m c tag))

-- how many structures there are, with those below
abbrev pub size : Structures → ℕ
size end = 0
size (next tag p subs rest) = 1 + size subs + size rest

-- the rest of the row without its first structure, or with it emptied; none where it is held
abbrev pub first_removed : Meaning → Context → List (Option ℕ) → List ℕ → Payload → Structures → Option Structures
first_removed m c all tag p rest = elim (fate m c all tag) [ goes ↦ Some rest | stays_empty ↦ Some (next tag (without_content p) end rest) | held ↦ None ]

-- with other substructures; where they leave it bare, it is removed by the same rule
abbrev pub kept : Meaning → Context → List (Option ℕ) → List ℕ → Payload → Structures → Structures → Option Structures
kept m c all tag p rest subs = cond (left_bare m c tag p subs) (first_removed m c all tag p rest) (Some (next tag p subs rest))

-- what follows, if something was left
abbrev pub then : {A B : Type 0} → Option A → (A → Option B) → Option B
then None f = None
then (Some x) f = f x

-- the row without its structure number k, counted with all that stand below
abbrev pub removed_in : Meaning → Context → List (Option ℕ) → Structures → ℕ → Option Structures
removed_in m c all end k = Some end
removed_in m c all (next tag p subs rest) zero = first_removed m c all tag p rest
removed_in m c all (next tag p subs rest) (suc k) =
    cond (nat_lt k (size subs))
    (then (removed_in m (below m c tag) (types_of m (below m c tag) subs) subs k) (kept m c all tag p rest))
    (then (removed_in m c all rest (k - size subs)) (λ rs. Some (next tag p subs rs)))

-- At the top

-- what is left of the records, and the identifier of the one that went, if one with an identifier did
abbrev pub Left : Type 0
Left = List Record × Option (List ℕ)

-- a record that stays without content
abbrev pub without_substructures : Record → Record
without_substructures r = record { identifier = r.identifier; tag = r.tag; payload = without_content r.payload; subs = end }

-- a record with other substructures
abbrev pub with_subs : Record → Structures → Record
with_subs r subs = record { identifier = r.identifier; tag = r.tag; payload = r.payload; subs = subs }

-- the records without the first of these, or with it emptied; none where it is held
abbrev pub record_removed : Meaning → List (Option ℕ) → Record → List Record → Option Left
record_removed m all r rs = elim (fate m Top all r.tag) [ goes ↦ Some (rs, r.identifier) | stays_empty ↦ Some (without_substructures r ∷ rs, None) | held ↦ None ]

-- with other substructures; where they leave it bare, it is removed by the same rule
abbrev pub record_kept : Meaning → List (Option ℕ) → Record → List Record → Structures → Option Left
record_kept m all r rs subs = cond (left_bare m Top r.tag r.payload subs) (record_removed m all r rs) (Some (with_subs r subs ∷ rs, None))

-- the records without structure number k, counted with all that stand below
abbrev pub removed_of : Meaning → List (Option ℕ) → List Record → ℕ → Option Left
removed_of m all [] k = Some ([], None)
removed_of m all (r ∷ rs) zero = record_removed m all r rs
removed_of m all (r ∷ rs) (suc k) =
    let c = below m Top r.tag in
    cond (nat_lt k (size r.subs))
    (then (removed_in m c (types_of m c r.subs) r.subs k) (record_kept m all r rs))
    (then (removed_of m all rs (k - size r.subs)) (λ left. Some (r ∷ left.0, left.1)))

-- pointers to the record that went become void
abbrev pub voided_payload : List ℕ → Payload → Payload
voided_payload i none = none
voided_payload i (text t more) = text t more
voided_payload i void = void
voided_payload i (pointer j) = cond (bytes_eq i j) void (pointer j)

-- in a row of structures and below
abbrev pub voided : List ℕ → Structures → Structures
voided i end = end
voided i (next tag p subs rest) = next tag (voided_payload i p) (voided i subs) (voided i rest)

-- in a record and below
abbrev pub voided_record : List ℕ → Record → Record
voided_record i r = record { identifier = r.identifier; tag = r.tag; payload = voided_payload i r.payload; subs = voided i r.subs }

-- what is left as a dataset, with its pointers
abbrev pub settled : Structures → Left → Dataset
settled header (rs, None) = record { header = header; records = rs }
settled header (rs, Some i) = record { header = voided i header; records = map (voided_record i) rs }

-- how many cards a dataset has
abbrev pub card_count : Dataset → ℕ
card_count d = length (entries d)

-- the dataset without the structure of card k, which is neither the header's nor the trailer's; none where a structure is held
abbrev pub removed : Meaning → Dataset → ℕ → Option Dataset
removed m d k =
    let c = below m Top HEAD in
    cond (nat_lt (k - 1) (size d.header))
    (then (removed_in m c (types_of m c d.header) d.header (k - 1)) (λ header. Some (record { header = header; records = d.records })))
    (then (removed_of m (top_types m (tops d)) d.records (k - 1 - size d.header)) (λ left. Some (settled d.header left)))
