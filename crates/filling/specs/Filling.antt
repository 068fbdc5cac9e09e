-- What filling a drawer from a file answers. Assumes nothing.
use Rattle.std.specs.Prelude.{◌≡◌, ℕ, ◌+◌, ◌<◌, ◌≤◌, min, ◌⊎◌, List, ◌++◌, map, length, take, Some, None, Ok, Err, Option, Result, ◌≢◌, slice_set}
use Rattle.model.specs.declared.Card.{Card}
use Rattle.model.specs.declared.Place.{Place}
use Rattle.model.specs.declared.State.TheVariants.{Filed}
use Rattle.model.specs.Datasets.{CONT}
use Rattle.model.specs.Files.{Placed, Passes}
use Rattle.model.specs.Cards.{Blanks}
use Rattle.model.specs.Refusals.{byte_at, others, Keeps11}
use Rattle.model.specs.LineTurns.{Noted}
use Rattle.lines.specs.declared.steps.Found.{Found}

abbrev pub card_at : ℕ → Card
card_at b = record { byte = b; state = Filed }

-- a card for each line that continues none
abbrev pub cards_of : List Placed → List Card
cards_of ps = map (λ i. card_at (byte_at ps i)) (others ps)

-- the cards before `from` stay, and those from there on are blank
pub record BlankFrom (from : ℕ) (cards out : List Card) : Type 0 where
  pub blanks : List Card
  pub are : out ≡ take from cards ++ blanks
  pub rest_blank : Blanks blanks

-- every line that wants a card has one, there are n of them, and the other cards are blank
pub record Filled (room n : ℕ) (out : List Card) (ps : List Placed) : Type 0 where
  pub kept : Noted (Keeps11 room ps) ps None
  pub counted : n ≡ length (others ps)
  pub blanks : List Card
  pub are : out ≡ cards_of ps ++ blanks
  pub rest_blank : Blanks blanks

-- or the place is that of the first line without one, and all cards are blank
abbrev pub Fills : List ℕ → ℕ → Result ℕ Place → List Card → Type 0
Fills file room (Ok n) out = (ps : List Placed) → Passes file ps → Filled room n out ps
Fills file room (Err place) out = Blanks out × ((ps : List Placed) → Passes file ps → Noted (Keeps11 room ps) ps (Some place))

-- a line is passed over, its card is put at the place k, or no card is left for it
abbrev pub Puts : Found → ℕ → List Card → Option ℕ → List Card → Type 0
Puts f k cards None out = (f.line.tag.now ≢ CONT) × (min (length cards) 65535 ≤ k)
Puts f k cards (Some n) out = ((f.line.tag.now ≡ CONT) × (n ≡ k) × (out ≡ cards)) ⊎ ((f.line.tag.now ≢ CONT) × (k < min (length cards) 65535) × (n ≡ k + 1) × (out ≡ slice_set cards k (card_at f.byte)))
