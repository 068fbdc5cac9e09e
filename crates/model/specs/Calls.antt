-- What each call does to any drawer. Assumes nothing.
use Rattle.std.specs.Prelude.{◌≡◌, ℕ, ◌⊎◌, List, length, Some, None, Option}
use Rattle.std.specs.List.{AllByRecursion}
use Rattle.model.specs.declared.Card.{Card}
use Rattle.model.specs.declared.State.TheVariants.{Filed}
use Rattle.model.specs.declared.Call.{Call}
use Rattle.model.specs.declared.Call.TheVariants.{Read, Remove, Open, Count, Look, More, Size, Write}
use Rattle.model.specs.Datasets.{Dataset, IsDataset}
use Rattle.model.specs.Books.{Meaning}
use Rattle.model.specs.Files.{HasLines}
use Rattle.model.specs.Rules.{Belongs}
use Rattle.model.specs.Cards.{Holds, Blanks, blank}
use Rattle.model.specs.Removal.{card_count}
use Rattle.model.specs.Edits.{drawer_after}
use Rattle.model.specs.Refusals.{Refuses}
use Rattle.model.specs.declared.Fault.{Fault}
use Rattle.model.specs.Runs.{ReadsAs, Reply, refused, unread, number, reply, after_removal, remove_reply, written_over}

-- a call with the buffer that it was given, its answer, and what the buffer then held
pub record Event : Type 0 where
  pub call : Call
  pub buffer : List ℕ
  pub answer : Reply
  pub left : List ℕ

-- a reading that is granted
pub record Accepted (m : Meaning) (file : List ℕ) (cards : List Card) (answer : Reply) (out : List Card) : Type 0 where
  pub dataset : Dataset
  pub reads : ReadsAs m file (length cards) dataset
  pub only : (d : Dataset) → IsDataset d → HasLines file d → d ≡ dataset
  pub holds : Holds file out dataset
  pub as_filed : AllByRecursion (λ c. (c.state ≡ Filed) ⊎ (c ≡ blank)) out
  pub counted : answer ≡ number (card_count dataset)
  pub unlisted : (f : Fault) → Refuses m file (length cards) f → ⊥

-- a reading that is refused
pub record Declined (m : Meaning) (file : List ℕ) (cards : List Card) (answer : Reply) (out : List Card) : Type 0 where
  pub fault : Fault
  pub answered : answer ≡ unread fault
  pub listed : Refuses m file (length cards) fault
  pub only : (f : Fault) → Refuses m file (length cards) f → f ≡ fault
  pub none : (d : Dataset) → ReadsAs m file (length cards) d → ⊥
  pub blanks : Blanks out

-- no drawer holds two datasets of one file, so what follows speaks of the one
abbrev pub Unheld : List ℕ → List Card → Type 0
Unheld file cards = (d : Dataset) → Holds file cards d → ⊥

-- a removal: 20 where the drawer holds nothing, 21 where that is not of the book, else by the plain run
pub record Removing (m : Meaning) (file : List ℕ) (cards : List Card) (k : ℕ) (e : Event) (out : List Card) : Type 0 where
  pub unheld : Unheld file cards → (e.answer ≡ refused 20) × (out ≡ cards)
  pub foreign : (d : Dataset) → Holds file cards d → (Belongs m d → ⊥) → (e.answer ≡ refused 21) × (out ≡ cards)
  pub own : (d : Dataset) → Holds file cards d → Belongs m d → (e.answer ≡ remove_reply m d k) × Holds file out (after_removal m d k)
  pub cards_are : (d : Dataset) → Holds file cards d → Belongs m d → out ≡ drawer_after m d cards k
  pub refusing : (n : ℕ) → e.answer ≡ refused n → out ≡ cards
  pub long : length out ≡ length cards
  pub buffer_same : e.left ≡ e.buffer

-- a call of a view that was opened for it
pub record Viewing (m : Meaning) (file : List ℕ) (cards : List Card) (e : Event) (out : List Card) : Type 0 where
  pub unheld : Unheld file cards → (e.answer ≡ refused 20) × (e.left ≡ e.buffer)
  pub held : (d : Dataset) → Holds file cards d → reply m (Some d) (length e.buffer) e.call ≡ Some e.answer
  pub cards_same : out ≡ cards

-- only a granted write changes the buffer
abbrev pub buffer_after : Option Dataset → Call → List ℕ → List ℕ
buffer_after s Read b = b
buffer_after s (Remove k) b = b
buffer_after s Open b = b
buffer_after s Count b = b
buffer_after s (Look k) b = b
buffer_after s (More k j) b = b
buffer_after s Size b = b
buffer_after None Write b = b
buffer_after (Some d) Write b = written_over d b

-- One call of any kind: a call of a view opens one first, and is answered by the refusal where that is refused.
abbrev pub Performs : Meaning → List ℕ → List Card → Event → List Card → Call → Type 0
Performs m file cards e out Read = (Accepted m file cards e.answer out ⊎ Declined m file cards e.answer out) × (e.left ≡ e.buffer) × (length out ≡ length cards)
Performs m file cards e out (Remove k) = Removing m file cards k e out
Performs m file cards e out Open = Viewing m file cards e out × (e.left ≡ e.buffer)
Performs m file cards e out Count = Viewing m file cards e out × (e.left ≡ e.buffer)
Performs m file cards e out (Look k) = Viewing m file cards e out × (e.left ≡ e.buffer)
Performs m file cards e out (More k j) = Viewing m file cards e out × (e.left ≡ e.buffer)
Performs m file cards e out Size = Viewing m file cards e out × (e.left ≡ e.buffer)
Performs m file cards e out Write = Viewing m file cards e out × ((d : Dataset) → Holds file cards d → e.left ≡ written_over d e.buffer)

-- the call that the event has
abbrev pub PerformsEvent : Meaning → List ℕ → List Card → Event → List Card → Type 0
PerformsEvent m file cards e out = Performs m file cards e out e.call
