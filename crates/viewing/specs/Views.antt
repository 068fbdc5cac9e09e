-- What opening a view answers, and the parts that its methods are made of. Assumes nothing.
use Rattle.std.specs.Prelude.{◌≡◌, ℕ, ◌<◌, ◌≤◌, List, ◌++◌, length, take, Ok, Err, Result, MatchResult, slice_index_or}
use Rattle.model.specs.declared.Card.{Card}
use Rattle.model.specs.declared.Refusal.{Refusal}
use Rattle.model.specs.declared.Refusal.TheVariants as refusal
use Rattle.model.specs.Datasets.{MARK, Entry, Dataset, entries, all_lines, with_line_feeds}
use Rattle.model.specs.Cards.{Holds}
use Rattle.model.specs.Calls.{Unheld}
use Rattle.model.specs.Edits.{no_card, no_entry}
use Rattle.model.specs.Removal.{card_count}
use Rattle.model.specs.Runs.{shown}
use Rattle.model.proofs.Entries.{Settled}
use Rattle.looking.specs.Looking.{Shown}
use Rattle.lines.specs.declared.line.Line.{Line as Face}
use Rattle.viewing.specs.declared.view.View.{View}
use Rattle.viewing.specs.Answers.{face_entry}

-- granted exactly where the drawer holds a dataset of the file; the view is then of these two
abbrev pub Opens : List ℕ → List Card → Result View Refusal → Type 0
Opens file cards (Ok v) = (v.file.now ≡ file) × (v.drawer.now ≡ cards) × ((d : Dataset) × Holds file cards d)
Opens file cards (Err f) = (f ≡ refusal.Unheld) × Unheld file cards

-- the card at a place, which is one of the dataset's; or it is past them
abbrev pub CardAt : List Card → ℕ → Result Card Refusal → Type 0
CardAt cards k r = (file : List ℕ) (d : Dataset) → Holds file cards d → MatchResult r (λ c. (k < card_count d) × (c ≡ slice_index_or cards k no_card)) (λ f. (f ≡ refusal.Past) × (card_count d ≤ k))

-- the face of the card of an entry
abbrev pub FaceOf : List ℕ → Card → Face → Type 0
FaceOf file c r = (e : Entry) → Shown file c e → e.level ≤ 63 → Settled e.payload → face_entry r ≡ shown e

-- the cards of the dataset, each of which shows its entry
abbrev pub CardsOf : List Card → List Card → Type 0
CardsOf cards r = (file : List ℕ) (d : Dataset) → Holds file cards d → (length r ≡ card_count d) × ((k : ℕ) → k < length r → Shown file (slice_index_or r k no_card) (slice_index_or (entries d) k no_entry))

-- what is written of the first k cards, with the mark before it
abbrev pub front_bytes : Dataset → ℕ → List ℕ
front_bytes d k = MARK ++ with_line_feeds (all_lines (take k (entries d)))
