-- Sets of types, one for each level, as bits of words. Assumes nothing.
use Rattle.std.specs.Prelude.{◌≡◌, ℕ, ◌/◌, ◌%◌, ◌^◌, ◌<◌, ◌≤◌, Bool, false, List, [], Some, Decides, Option, ◌==◌, slice_index, slice_index_or}
use Rattle.std.specs.List.{ContainsAt as Has}
use Rattle.judging.specs.declared.sets.Types.{Types}

-- whether the type t is in a set: sixteen words of 64 bits
abbrev pub has_type : List ℕ → ℕ → Bool
has_type words t = slice_index words (t / 64) / 2 ^ (t % 64) % 2 == 1

abbrev pub no_types : Types
no_types = record { words = [] }

-- whether it is in the set of level k
abbrev pub bit : List Types → ℕ → ℕ → Bool
bit levels k t = has_type (slice_index_or levels k no_types).words t

-- every set is empty
abbrev pub Clear : List Types → Type 0
Clear levels = (k t : ℕ) → k ≤ 64 → t < 1024 → bit levels k t ≡ false

-- a set is of the types in a list
abbrev pub TypesOf : (ℕ → Bool) → List (Option ℕ) → Type 0
TypesOf has ts = (t : ℕ) → t < 1024 → Decides (has t) (Has ts (Some t))
