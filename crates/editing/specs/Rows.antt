-- The types in a row, what becomes of a structure in it, and the edit that a removal from it is. Assumes nothing.
use Rattle.std.specs.Prelude.{ℕ, ◌+◌, Bool, false, cond, not, ◌&&◌, ◌||◌, List, length, drop, Some, None, Option, ◌==◌, nat_lt, slice_index_or}
use Rattle.model.specs.declared.Row.{Row}
use Rattle.model.specs.declared.Edit.{Edit}
use Rattle.model.specs.declared.Edit.TheVariants.{Withheld, Deleted, Cleared}
use Rattle.model.specs.declared.Kind.{Kind}
use Rattle.model.specs.declared.Kind.TheVariants.{Nothing}
use Rattle.model.specs.Books.{Meaning}
use Rattle.model.specs.Datasets.{Payload, Entry, end}
use Rattle.model.specs.Kinds.{may_be_emptied}
use Rattle.model.specs.Positions.{type_in, within, level_at}
use Rattle.model.specs.Removal.{same_type, how_many, is_pointer_kind, is_none, is_end, Fate, goes, stays_empty, held}
use Rattle.model.specs.Edits.{row_types, edit_row, no_entry}
use Rattle.editing.specs.declared.rows.Siblings.{Siblings}

abbrev pub types_in : Meaning → List Entry → Siblings → List (Option ℕ)
types_in m b row = row_types m row.context row.level (drop row.first b)

abbrev pub is_typed : ℕ → Option Row → Bool
is_typed t o = same_type (Some t) (type_in o)

-- a structure of type t stands at position k, in a row of this context and level
abbrev pub stands_at : Meaning → List Entry → Siblings → ℕ → ℕ → Bool
stands_at m b row t k = nat_lt k (length b) && (level_at b k == row.level && is_typed t (m.row row.context (slice_index_or b k no_entry).tag))

-- the same up to where the row has ended, and nothing from there on
abbrev pub told_at : Meaning → List Entry → Siblings → ℕ → ℕ → Option Bool
told_at m b row t k = cond (nat_lt k (length b) && not (nat_lt (level_at b k) row.level)) (Some (stands_at m b row t k)) None

-- By the row of a structure in the book

abbrev pub required_in : Option Row → Bool
required_in o = elim o [ None ↦ false | Some r ↦ r.required ]

abbrev pub kind_in : Meaning → Option Row → Kind
kind_in m o = elim o [ None ↦ Nothing | Some r ↦ m.kind r.typed ]

abbrev pub emptiable : Meaning → Row → Bool
emptiable m r = m.needs (within m (Some r)) == 0 && (is_pointer_kind (m.kind r.typed) || may_be_emptied (m.kind r.typed))

abbrev pub excused : Meaning → Option Row → Bool
excused m o = required_in o && may_be_emptied (kind_in m o)

abbrev pub stays : Row → List (Option ℕ) → Bool
stays r all = r.required && how_many (Some r.typed) all == 1

abbrev pub fate_by : Meaning → Option Row → List (Option ℕ) → Fate
fate_by m o all = cond (required_in o && how_many (type_in o) all == 1) (cond (m.needs (within m o) == 0 && (is_pointer_kind (kind_in m o) || may_be_emptied (kind_in m o))) stays_empty held) goes

abbrev pub bare_by : Meaning → Option Row → Payload → Bool
bare_by m o p = is_none p && is_end end && not (excused m o)

abbrev pub first_by : Meaning → Option Row → List (Option ℕ) → ℕ → ℕ → Edit
first_by m o all at stop = elim (fate_by m o all) [ goes ↦ Deleted at stop | stays_empty ↦ Cleared at stop | held ↦ Withheld ]

abbrev pub raised_by : Meaning → Option Row → List (Option ℕ) → Payload → ℕ → ℕ → Edit → Edit
raised_by m o all p at stop Withheld = Withheld
raised_by m o all p at stop (Deleted from to) = cond (from == at + 1 && to == stop && bare_by m o p) (first_by m o all at stop) (Deleted from to)
raised_by m o all p at stop (Cleared place to) = Cleared place to

-- the edit that the removal of entry k is, if it stands in the row from `at` on or below one of it
abbrev pub edit_from : Meaning → List Entry → Siblings → ℕ → ℕ → Edit
edit_from m b row at k = edit_row m row.context (types_in m b row) row.level (drop at b) at k
