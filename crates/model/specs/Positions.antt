-- What the rules of a book ask of entries, by their positions. Assumes nothing.
use Rattle.std.specs.Prelude.{◌≡◌, ℕ, ◌+◌, ◌<◌, ◌≤◌, Bool, true, cond, not, ◌&&◌, ◌||◌, ◌⊎◌, List, [], ◌∷◌, ◌++◌, reverse, length, get_or, take, drop, Some, None, Decides, Option, MatchOption, ◌==◌, nat_lt, slice_index, slice_index_or}
use Rattle.std.specs.List.{ContainsAt as Has}
use Rattle.model.specs.declared.Context.{Context}
use Rattle.model.specs.declared.Context.TheVariants.{Top, Under}
use Rattle.model.specs.declared.Row.{Row}
use Rattle.model.specs.declared.Kind.TheVariants.{Pointer}
use Rattle.model.specs.Books.{Meaning}
use Rattle.model.specs.Datasets.{none, pointer, Entry}
use Rattle.model.specs.Kinds.{Takes, may_be_emptied}
use Rattle.model.specs.Edits.{no_entry}
use Rattle.model.specs.Files.{Placed}
use Rattle.model.specs.Refusals.{First, byte_at, others, BookRule, known, taken, aimed_right, single, needed, filled, book_rule_number}
use Rattle.model.specs.declared.Fault.{Fault}

-- an entry with its row
pub record Mark : Type 0 where
  pub entry : Entry
  pub row : Option Row

abbrev pub mark : Entry → Option Row → Mark
mark e r = record { entry = e; row = r }

abbrev pub no_mark : Mark
no_mark = record { entry = no_entry; row = None }

abbrev pub type_in : Option Row → Option ℕ
type_in o = elim o [ None ↦ None | Some r ↦ Some r.typed ]

-- the context below an entry with this row
abbrev pub within : Meaning → Option Row → Context
within m o = elim o [ None ↦ Under m.types | Some r ↦ Under r.typed ]

-- Behind some marks, of which the last comes first: the context of an entry of level l, and the types before it in its row.

abbrev pub context_behind : Meaning → ℕ → List Mark → Context
context_behind m l [] = Top
context_behind m l (x ∷ past) = cond (nat_lt x.entry.level l) (within m x.row) (context_behind m l past)

abbrev pub types_behind : ℕ → List Mark → List (Option ℕ)
types_behind l [] = []
types_behind l (x ∷ past) = cond (nat_lt x.entry.level l) [] (cond (nat_lt l x.entry.level) (types_behind l past) (types_behind l past ++ type_in x.row ∷ []))

-- the types in the row of level l that goes on with these: up to the first of a lower level, deeper ones passed over
abbrev pub types_ahead : ℕ → List Mark → List (Option ℕ)
types_ahead l [] = []
types_ahead l (x ∷ more) = cond (nat_lt x.entry.level l) [] (cond (nat_lt l x.entry.level) (types_ahead l more) (type_in x.row ∷ types_ahead l more))

-- each entry with its row, found by the entries before it
abbrev pub marks_from : Meaning → List Mark → List Entry → List Mark
marks_from m past [] = []
marks_from m past (e ∷ es) =
    let x = mark e (m.row (context_behind m e.level past) e.tag) in
    x ∷ marks_from m (x ∷ past) es

abbrev pub marks : Meaning → List Entry → List Mark
marks m b = marks_from m [] b

-- What code keeps while it goes over entries. Their laws are in proofs/Positions.

abbrev pub level_at : List Entry → ℕ → ℕ
level_at b i = (get_or b i no_entry).level

-- the row of entry i
unfoldable pub row_at : Meaning → List Entry → ℕ → Option Row
row_at m b i = (get_or (marks m b) i no_mark).row

-- after i entries: the context at level l, and the types so far in the row of that level
unfoldable pub context_at : Meaning → List Entry → ℕ → ℕ → Context
context_at m b i l = context_behind m l (reverse (take i (marks m b)))

unfoldable pub seen_at : Meaning → List Entry → ℕ → ℕ → List (Option ℕ)
seen_at m b i l = types_behind l (reverse (take i (marks m b)))

-- from entry i on: the types in the row of level l
unfoldable pub ahead_at : Meaning → List Entry → ℕ → ℕ → List (Option ℕ)
ahead_at m b i l = types_ahead l (drop i (marks m b))

-- The rules at entry i

-- the types in its row before it, and those of its substructures
abbrev pub before_at : Meaning → List Entry → ℕ → List (Option ℕ)
before_at m b i = seen_at m b i (level_at b i)

abbrev pub under_at : Meaning → List Entry → ℕ → List (Option ℕ)
under_at m b i = ahead_at m b (i + 1) (level_at b i + 1)

-- nothing stands below it
abbrev pub LeafAt : List Entry → ℕ → Type 0
LeafAt b i = i + 1 < length b → level_at b (i + 1) ≤ level_at b i

abbrev pub BareAt : List Entry → ℕ → Type 0
BareAt b i = ((get_or b i no_entry).payload ≡ none) × LeafAt b i

-- every entry with the identifier x is of type t
abbrev pub AllTyped : Meaning → List Entry → List ℕ → ℕ → Type 0
AllTyped m b x t = (j : ℕ) → j < length b → (get_or b j no_entry).identifier ≡ Some x → type_in (row_at m b j) ≡ Some t

-- need number j of the context is among these types
abbrev pub NeedMet : Meaning → Context → List (Option ℕ) → ℕ → Type 0
NeedMet m c ts j = (t : ℕ) → m.need c j ≡ Some t → Has ts (Some t)

abbrev pub ExcusedAt : Meaning → ℕ → Row → Type 0
ExcusedAt m i r = (i ≡ 0) ⊎ ((r.required ≡ true) × (may_be_emptied (m.kind r.typed) ≡ true))

-- where its row is r
abbrev pub RowKeeps : Meaning → List Entry → BookRule → ℕ → Row → Type 0
RowKeeps m b known i r = Unit {0}
RowKeeps m b taken i r = Takes m (m.kind r.typed) (get_or b i no_entry).payload
RowKeeps m b aimed_right i r = (t : ℕ) (x : List ℕ) → m.kind r.typed ≡ Pointer t → (get_or b i no_entry).payload ≡ pointer x → AllTyped m b x t
RowKeeps m b single i r = Has (before_at m b i) (Some r.typed) → r.many ≡ true
RowKeeps m b needed i r = (j : ℕ) → NeedMet m (Under r.typed) (under_at m b i) j
RowKeeps m b filled i r = BareAt b i → ExcusedAt m i r

-- where it has none
abbrev pub RowlessKeeps : Meaning → List Entry → BookRule → ℕ → Type 0
RowlessKeeps m b known i = ⊥
RowlessKeeps m b taken i = Unit {0}
RowlessKeeps m b aimed_right i = Unit {0}
RowlessKeeps m b single i = Unit {0}
RowlessKeeps m b needed i = (j : ℕ) → NeedMet m (Under m.types) (under_at m b i) j
RowlessKeeps m b filled i = Unit {0}

abbrev pub KeepsAt : Meaning → List Entry → BookRule → ℕ → Type 0
KeepsAt m b rule i = MatchOption (row_at m b i) (RowlessKeeps m b rule i) (RowKeeps m b rule i)

abbrev pub AllKeep : Meaning → List Entry → BookRule → Type 0
AllKeep m b rule = (i : ℕ) → i < length b → KeepsAt m b rule i

-- the types at the top
abbrev pub top_at : Meaning → List Entry → List (Option ℕ)
top_at m b = ahead_at m b 0 0

abbrev pub TopMet : Meaning → List Entry → Type 0
TopMet m b = (j : ℕ) → NeedMet m Top (top_at m b) j

-- missing is the first need of the context that is not among these types
pub record Lacks (m : Meaning) (c : Context) (ts : List (Option ℕ)) (missing : ℕ) : Type 0 where
  pub need : ℕ
  pub first : First (NeedMet m c ts) (m.needs c) need
  pub is : m.need c need ≡ Some missing

-- What a judge of the entries finds: nothing, or the number of a rule, a card that breaks it, and for rule 18 what is missing.

pub record Finding : Type 0 where
  pub rule : BookRule
  pub card : ℕ
  pub missing : Option ℕ

abbrev pub finding : BookRule → ℕ → Option ℕ → Finding
finding rule card missing = record { rule = rule; card = card; missing = missing }

-- the rules before this one hold throughout
abbrev pub TopAt : Meaning → List Entry → BookRule → Type 0
TopAt m b known = Unit {0}
TopAt m b taken = Unit {0}
TopAt m b aimed_right = Unit {0}
TopAt m b single = Unit {0}
TopAt m b needed = TopMet m b
TopAt m b filled = Unit {0}

abbrev pub Earlier : Meaning → List Entry → BookRule → Type 0
Earlier m b rule = (r : BookRule) → book_rule_number r < book_rule_number rule → TopAt m b r × AllKeep m b r

-- the top first, told at the first card
abbrev pub LacksAt : Meaning → List Entry → ℕ → ℕ → Type 0
LacksAt m b i t = ((i ≡ 0) × Lacks m Top (top_at m b) t) ⊎ (TopMet m b × (i < length b) × ((j : ℕ) → j < i → KeepsAt m b needed j) × Lacks m (within m (row_at m b i)) (under_at m b i) t)

abbrev pub BrokenAt : Meaning → List Entry → BookRule → ℕ → Option ℕ → Type 0
BrokenAt m b known i o = First (KeepsAt m b known) (length b) i × (o ≡ None)
BrokenAt m b taken i o = First (KeepsAt m b taken) (length b) i × (o ≡ None)
BrokenAt m b aimed_right i o = First (KeepsAt m b aimed_right) (length b) i × (o ≡ None)
BrokenAt m b single i o = First (KeepsAt m b single) (length b) i × (o ≡ None)
BrokenAt m b needed i o = (t : ℕ) × (o ≡ Some t) × LacksAt m b i t
BrokenAt m b filled i o = First (KeepsAt m b filled) (length b) i × (o ≡ None)

pub record Finds (m : Meaning) (b : List Entry) (f : Finding) : Type 0 where
  pub earlier : Earlier m b f.rule
  pub broken : BrokenAt m b f.rule f.card f.missing

pub record FindsNone (m : Meaning) (b : List Entry) : Type 0 where
  pub all : (r : BookRule) → AllKeep m b r
  pub top : TopMet m b

abbrev pub Judges : Meaning → List Entry → Option Finding → Type 0
Judges m b o = MatchOption o (FindsNone m b) (Finds m b)

-- the same by the rule's number, as code answers it
pub record Told (m : Meaning) (b : List Entry) (number card : ℕ) (missing : Option ℕ) : Type 0 where
  pub rule : BookRule
  pub numbered : number ≡ book_rule_number rule
  pub finds : Finds m b (finding rule card missing)

-- the fault that tells a finding
abbrev pub fault_of : List Placed → Finding → Fault
fault_of ps f = record { number = book_rule_number f.rule; line = slice_index (others ps) f.card + 1; byte = byte_at ps (slice_index (others ps) f.card); missing = f.missing }

-- What a loop notes: nothing, or the first place that breaks P.

abbrev pub FirstOf : (ℕ → Type 0) → ℕ → Option ℕ → Type 0
FirstOf P n o = MatchOption o ((i : ℕ) → i < n → P i) (First P n)

-- from place i on, for a loop that goes down
abbrev pub From : ℕ → (ℕ → Type 0) → ℕ → Type 0
From i P j = i ≤ j → P j

-- the first card from i on that lacks a type, with that type
abbrev pub LackOf : Meaning → List Entry → ℕ → Option (ℕ × ℕ) → Type 0
LackOf m b i o = MatchOption o ((j : ℕ) → j < length b → From i (KeepsAt m b needed) j) (λ p. First (From i (KeepsAt m b needed)) (length b) p.0 × Lacks m (within m (row_at m b p.0)) (under_at m b p.0) p.1)

-- what a context lacks, of these types
abbrev pub LackIn : Meaning → Context → List (Option ℕ) → Option ℕ → Type 0
LackIn m c ts o = MatchOption o ((j : ℕ) → NeedMet m c ts j) (Lacks m c ts)

-- rule 18 at the top and at the cards: the card that is told, with the type
abbrev pub NeedsOf : Meaning → List Entry → Option (ℕ × ℕ) → Type 0
NeedsOf m b o = MatchOption o (TopMet m b × AllKeep m b needed) (λ p. LacksAt m b p.0 p.1)

-- the lowest rule that is broken, of what loops have noted for each
abbrev pub at_rule : BookRule → Option ℕ → Option Finding → Option Finding
at_rule rule o later = elim o [ None ↦ later | Some i ↦ Some (finding rule i None) ]

abbrev pub at_needs : Option (ℕ × ℕ) → Option Finding → Option Finding
at_needs o later = elim o [ None ↦ later | Some p ↦ Some (finding needed p.0 (Some p.1)) ]

abbrev pub lowest : (o14 o15 o16 o17 : Option ℕ) (o18 : Option (ℕ × ℕ)) (o19 : Option ℕ) → Option Finding
lowest o14 o15 o16 o17 o18 o19 = at_rule known o14 (at_rule taken o15 (at_rule aimed_right o16 (at_rule single o17 (at_needs o18 (at_rule filled o19 None)))))

-- What a loop keeps in arrays with one place for each level.

-- how deep entry i may stand: one deeper than the entry before it

abbrev pub open_at : List Entry → ℕ → ℕ
open_at b Prim.Native.Nat.zero = 0
open_at b (Prim.Native.Nat.suc i) = level_at b i + 1

abbrev pub Levelled : List Entry → Type 0
Levelled b = (i : ℕ) → i < length b → (level_at b i ≤ open_at b i) × (level_at b i ≤ 63)

-- an identifier stands at one entry, and a pointer names one
abbrev pub NamedApart : List Entry → Type 0
NamedApart b = (x : List ℕ) (i j : ℕ) → i < length b → j < length b → (get_or b i no_entry).identifier ≡ Some x → (get_or b j no_entry).identifier ≡ Some x → i ≡ j

abbrev pub Aimed : List Entry → Type 0
Aimed b = (i : ℕ) (x : List ℕ) → i < length b → (get_or b i no_entry).payload ≡ pointer x → (j : ℕ) × (j < length b) × ((get_or b j no_entry).identifier ≡ Some x)

-- what the entries of a dataset are known to be
pub record Sound (b : List Entry) : Type 0 where
  pub some : 0 < length b
  pub levelled : Levelled b
  pub apart : NamedApart b
  pub aimed : Aimed b
  pub top_named : (j : ℕ) (x : List ℕ) → j < length b → (get_or b j no_entry).identifier ≡ Some x → level_at b j ≡ 0

-- the contexts by level, as far as a row is open
abbrev pub Contexts : Meaning → List Entry → ℕ → List Context → Type 0
Contexts m b i cs = (k : ℕ) → k ≤ open_at b i → slice_index_or cs k Top ≡ context_at m b i k

-- sets of types by level, of types below n: one that goes up, and one that goes down
abbrev pub Seen : Meaning → List Entry → ℕ → ℕ → (ℕ → ℕ → Bool) → Type 0
Seen m b n i has = (k t : ℕ) → k ≤ open_at b i → t < n → Decides (has k t) (Has (seen_at m b i k) (Some t))

abbrev pub Ahead : Meaning → List Entry → ℕ → ℕ → (ℕ → ℕ → Bool) → Type 0
Ahead m b n i has = (k t : ℕ) → k ≤ 64 → t < n → Decides (has k t) (Has (ahead_at m b i k) (Some t))

-- the sets after an entry of level l and type t, either way: t joins its row, and the row below it is empty
abbrev pub turned : (ℕ → ℕ → Bool) → ℕ → ℕ → ℕ → ℕ → Bool
turned has l t k u = (has k u && not (k == l + 1)) || (k == l && u == t)

abbrev pub Turns : ℕ → (ℕ → ℕ → Bool) → ℕ → ℕ → (ℕ → ℕ → Bool) → Type 0
Turns n has l t after = (k u : ℕ) → k ≤ 64 → u < n → after k u ≡ turned has l t k u
