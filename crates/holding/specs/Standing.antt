-- Whether the cards of a drawer name lines of a file in their order, and fit one another. Assumes nothing.
use Rattle.std.specs.Prelude.{◌≡◌, ℕ, ◌+◌, ◌<◌, ◌≤◌, Bool, List, length, Decides, Option, MatchOption, ◌≢◌, slice_index_or}
use Rattle.model.specs.declared.Card.{Card}
use Rattle.model.specs.declared.State.{State}
use Rattle.model.specs.declared.State.TheVariants.{Filed, Voided, Emptied, Blank}
use Rattle.model.specs.Lines.{Line, Value}
use Rattle.lines.specs.declared.line.Line as read
use Rattle.lines.specs.Shown.{Shows}
use Rattle.model.specs.Datasets.{CONT, HEAD, TRLR}
use Rattle.model.specs.Files.{Placed, at, IsPointer}
use Rattle.model.specs.Cards.{blank}
use Rattle.model.specs.Refusals.{lines_of, byte_at}

abbrev pub card : List Card → ℕ → Card
card cards k = slice_index_or cards k blank

-- the first n cards name lines, and the one behind them names none
pub record NamedFront (cards : List Card) (n : ℕ) : Type 0 where
  pub within : n ≤ length cards
  pub named : (k : ℕ) → k < n → (card cards k).state ≢ Blank
  pub ends : n < length cards → (card cards n).state ≡ Blank

-- l is the line that begins at the byte b
abbrev pub LineOn : List Placed → ℕ → Line → Type 0
LineOn ps b l = (i : ℕ) × (i < length ps) × (byte_at ps i ≡ b) × (at (lines_of ps) i ≡ l)

-- a line that continues none does
abbrev pub OnLine : List Placed → ℕ → Type 0
OnLine ps b = (i : ℕ) × (i < length ps) × (byte_at ps i ≡ b) × ((at (lines_of ps) i).tag ≢ CONT)

pub record OnLines (ps : List Placed) (cards : List Card) : Type 0 where
  pub lines : (k : ℕ) → k < length cards → OnLine ps (card cards k).byte
  pub rising : (k : ℕ) → k + 1 < length cards → (card cards k).byte < (card cards (k + 1)).byte

-- what a state asks of the value of a card's line
abbrev pub AllowedValue : State → Value → Type 0
AllowedValue Filed v = Unit {0}
AllowedValue Voided v = IsPointer v
AllowedValue Emptied v = IsPointer v → ⊥
AllowedValue Blank v = ⊥

abbrev pub Top : List ℕ → Line → Type 0
Top tag l = (l.level ≡ 0) × (l.tag ≡ tag)

-- a line that was read may follow the one of the card before: the first is the header, another is at most one level deeper
abbrev pub Follows : Option read.Line → read.Line → Bool → Type 0
Follows before line r = (l : Line) → Shows line l → MatchOption before (Decides r (Top HEAD l)) (λ b. (m : Line) → Shows b m → m.level ≤ 63 → Decides r (l.level ≤ m.level + 1))

-- the card behind k is at most one level deeper, and the last card is the trailer's
pub record Followed (ps : List Placed) (cards : List Card) (k : ℕ) : Type 0 where
  pub step : k + 1 < length cards → (l m : Line) → LineOn ps (card cards k).byte l → LineOn ps (card cards (k + 1)).byte m → m.level ≤ l.level + 1
  pub trailer : k + 1 ≡ length cards → (l : Line) → LineOn ps (card cards k).byte l → Top TRLR l

-- and card k has a state that may stand there
pub record FitsAt (ps : List Placed) (cards : List Card) (k : ℕ) : Type 0 where
  pub allowed : (l : Line) → LineOn ps (card cards k).byte l → AllowedValue (card cards k).state l.value
  pub followed : Followed ps cards k

-- and the first card is the header's
pub record Fits (ps : List Placed) (cards : List Card) : Type 0 where
  pub some : 0 < length cards
  pub header : (l : Line) → LineOn ps (card cards 0).byte l → Top HEAD l
  pub each : (k : ℕ) → k < length cards → FitsAt ps cards k
