-- When a dataset belongs to a book. Assumes nothing.
use Rattle.std.specs.Prelude.{◌≡◌, ℕ, Bool, true, false, ◌⊎◌, List, [], ◌∷◌, ◌++◌, IfSome, IfNone, Some, None, Option}
use Rattle.std.specs.List.{ContainsAt as Has, AllByRecursion}
use Rattle.model.specs.declared.Context.{Context}
use Rattle.model.specs.declared.Context.TheVariants.{Top, Under}
use Rattle.model.specs.declared.Row.{Row}
use Rattle.model.specs.declared.Kind.TheVariants.{Pointer}
use Rattle.model.specs.Books.{Meaning}
use Rattle.model.specs.Datasets.{Payload, none, pointer, Structures, end, next, Record, Dataset, tops}
use Rattle.model.specs.Kinds.{Takes, may_be_emptied}

-- the context below a structure; a tag with no row leads to one that has none either
abbrev pub below : Meaning → Context → List ℕ → Context
below m c tag = elim (m.row c tag) [ None ↦ Under m.types | Some r ↦ Under r.typed ]

-- the type of a tag in a context, where it has one
abbrev pub typed : Meaning → Context → List ℕ → Option ℕ
typed m c tag = elim (m.row c tag) [ None ↦ None | Some r ↦ Some r.typed ]

-- the types of a row of structures
abbrev pub types_of : Meaning → Context → Structures → List (Option ℕ)
types_of m c end = []
types_of m c (next tag p subs rest) = typed m c tag ∷ types_of m c rest

-- the types of records
abbrev pub top_types : Meaning → List Record → List (Option ℕ)
top_types m [] = []
top_types m (r ∷ rs) = typed m Top r.tag ∷ top_types m rs

-- what the rules ask of one structure, by where it stands
pub record Situation : Type 0 where
  pub header : Bool
  pub row : Option Row
  pub before : List (Option ℕ)
  pub payload : Payload
  pub inside : Context
  pub subs : Structures

-- the situation of a structure with these parts
abbrev pub situation : Meaning → Bool → Context → List (Option ℕ) → List ℕ → Payload → Structures → Situation
situation m h c before tag p subs = record { header = h; row = m.row c tag; before = before; payload = p; inside = below m c tag; subs = subs }

-- those of a row of structures, each followed by those below it
abbrev pub situations_in : Meaning → Context → List (Option ℕ) → Structures → List Situation
situations_in m c before end = []
situations_in m c before (next tag p subs rest) =
    situation m false c before tag p subs ∷ situations_in m (below m c tag) [] subs ++ situations_in m c (before ++ typed m c tag ∷ []) rest

-- those of records; the first may be the header
abbrev pub situations_of : Meaning → Bool → List (Option ℕ) → List Record → List Situation
situations_of m h before [] = []
situations_of m h before (r ∷ rs) =
    situation m h Top before r.tag r.payload r.subs ∷ situations_in m (below m Top r.tag) [] r.subs ++ situations_of m false (before ++ typed m Top r.tag ∷ []) rs

-- in the order of the cards, the trailer aside
abbrev pub situations : Meaning → Dataset → List Situation
situations m d = situations_of m true [] (tops d)

-- of the structure's row, where it has one
abbrev pub WithRow : Situation → (Row → Type 0) → Type 0
WithRow s P = IfSome s.row P

-- the tag has a row
abbrev pub Keeps14 : Situation → Type 0
Keeps14 s = IfNone s.row ⊥

-- the payload is of its kind
abbrev pub Keeps15 : Meaning → Situation → Type 0
Keeps15 m s = WithRow s (λ r. Takes m (m.kind r.typed) s.payload)

-- the records that the identifier names have the type
abbrev pub NamesType : Meaning → Dataset → List ℕ → ℕ → Type 0
NamesType m d i t = AllByRecursion (λ r. r.identifier ≡ Some i → typed m Top r.tag ≡ Some t) d.records

-- a pointer of a pointer kind names a record of its type
abbrev pub Keeps16 : Meaning → Dataset → Situation → Type 0
Keeps16 m d s = WithRow s (λ r. (t : ℕ) (i : List ℕ) → m.kind r.typed ≡ Pointer t → s.payload ≡ pointer i → NamesType m d i t)

-- a structure that follows one of its type has a row for many
abbrev pub Keeps17 : Situation → Type 0
Keeps17 s = WithRow s (λ r. Has s.before (Some r.typed) → r.many ≡ true)

-- each need of the context is among the types that stand there
abbrev pub NeedsMet : Meaning → Context → List (Option ℕ) → Type 0
NeedsMet m c ts = (j t : ℕ) → m.need c j ≡ Some t → Has ts (Some t)

-- what is needed below it stands there
abbrev pub Keeps18 : Meaning → Situation → Type 0
Keeps18 m s = NeedsMet m s.inside (types_of m s.inside s.subs)

-- neither payload nor substructure
abbrev pub Bare : Payload → Structures → Type 0
Bare p subs = (p ≡ none) × (subs ≡ end)

-- the header, or one that is required and may be emptied
abbrev pub Excused : Meaning → Bool → Row → Type 0
Excused m h r = (h ≡ true) ⊎ ((r.required ≡ true) × (may_be_emptied (m.kind r.typed) ≡ true))

-- a bare structure is excused
abbrev pub Keeps19 : Meaning → Situation → Type 0
Keeps19 m s = WithRow s (λ r. Bare s.payload s.subs → Excused m s.header r)

-- it breaks none of the rules 14 to 19
pub record Belongs (m : Meaning) (d : Dataset) : Type 0 where
  pub known : AllByRecursion Keeps14 (situations m d)
  pub taken : AllByRecursion (Keeps15 m) (situations m d)
  pub aimed : AllByRecursion (Keeps16 m d) (situations m d)
  pub single : AllByRecursion Keeps17 (situations m d)
  pub top_complete : NeedsMet m Top (top_types m (tops d))
  pub complete : AllByRecursion (Keeps18 m) (situations m d)
  pub filled : AllByRecursion (Keeps19 m) (situations m d)
