-- What the checks of identifiers and pointers have to find, by the cards and a sorted index of them. Assumes nothing.
use Rattle.std.specs.Prelude.{◌≡◌, ℕ, ◌+◌, ◌<◌, ◌≤◌, min, Bool, cond, ◌⊎◌, List, [], length, Some, None, Option, ◌≢◌, slice_index}
use Rattle.model.specs.Lines.{Line}
use Rattle.model.specs.Files.{Placed, at}
use Rattle.model.specs.Refusals.{First, lines_of, others}
use Rattle.model.specs.LineTurns.{spot_of}
use Rattle.model.specs.declared.Place.{Place}

-- card k is that of the k-th line that is no continuation
abbrev pub place_of : List Placed → ℕ → ℕ
place_of ps k = slice_index (others ps) k

abbrev pub card_line : List Placed → ℕ → Line
card_line ps k = at (lines_of ps) (place_of ps k)

abbrev pub card_spot : List Placed → Option ℕ → Option Place
card_spot ps None = None
card_spot ps (Some k) = Some (spot_of ps (place_of ps k))

-- the first of n cards of which K does not hold, where there is one
abbrev pub CardsNoted : (ℕ → Type 0) → ℕ → Option ℕ → Type 0
CardsNoted K n None = (k : ℕ) → k < n → K k
CardsNoted K n (Some k) = First K n k

abbrev pub name_of : Option (List ℕ) → List ℕ
name_of None = []
name_of (Some x) = x

abbrev pub key : List Placed → ℕ → List ℕ
key ps k = name_of (card_line ps k).identifier

-- an order of byte strings
pub record Strict (less : List ℕ → List ℕ → Type 0) : Type 0 where
  pub trans : (x y z : List ℕ) → less x y → less y z → less x z
  pub irrefl : (x : List ℕ) → less x x → ⊥

-- by identifier, and by card where that is the same
abbrev pub Before : (List ℕ → List ℕ → Type 0) → List Placed → ℕ → ℕ → Type 0
Before less ps j k = less (key ps j) (key ps k) ⊎ ((key ps j ≡ key ps k) × (j < k))

-- ks are the cards with an identifier, in that order
pub record Indexed (less : List ℕ → List ℕ → Type 0) (ps : List Placed) (ks : List ℕ) : Type 0 where
  pub cards : (a : ℕ) → a < length ks → slice_index ks a < length (others ps)
  pub named : (a : ℕ) → a < length ks → (card_line ps (slice_index ks a)).identifier ≡ Some (key ps (slice_index ks a))
  pub all : (k : ℕ) (x : List ℕ) → k < length (others ps) → (card_line ps k).identifier ≡ Some x → (a : ℕ) × (a < length ks) × (slice_index ks a ≡ k)
  pub sorted : (a : ℕ) → a + 1 < length ks → Before less ps (slice_index ks a) (slice_index ks (a + 1))

-- the identifier at a stands at a + 1 again
abbrev pub Repeats : List Placed → List ℕ → ℕ → Type 0
Repeats ps ks a = key ps (slice_index ks a) ≡ key ps (slice_index ks (a + 1))

-- of the first n entries of an index, by their names and cards: no name is repeated; or k is the least card that repeats one
abbrev pub LeastRepeat : (ℕ → List ℕ) → (ℕ → ℕ) → ℕ → Option ℕ → Type 0
LeastRepeat name card n None = (a : ℕ) → a + 1 < n → name a ≢ name (a + 1)
LeastRepeat name card n (Some k) = ((a : ℕ) × (a + 1 < n) × (name a ≡ name (a + 1)) × (card (a + 1) ≡ k)) × ((a : ℕ) → a + 1 < n → name a ≡ name (a + 1) → k ≤ card (a + 1))

-- one turn of the search for it
abbrev pub lesser : Option ℕ → Bool → ℕ → Option ℕ
lesser None repeated k = cond repeated (Some k) None
lesser (Some m) repeated k = cond repeated (Some (min m k)) (Some m)
