-- What any turn of the calls does, by the dataset alone. Assumes nothing.
use Rattle.std.specs.Prelude.{◌≡◌, ℕ, ◌+◌, ◌-◌, ◌≤◌, min, cond, ◌||◌, List, [], ◌++◌, length, drop, Some, None, Option, ◌==◌, nat_le, nat_lt}
use Rattle.std.specs.List.{slice_get}
use Rattle.model.specs.declared.Call.{Call}
use Rattle.model.specs.declared.Call.TheVariants.{Read, Remove, Open, Count, Look, More, Size, Write}
use Rattle.model.specs.Datasets.{Payload, none, text, void, pointer, further, Dataset, IsDataset, Entry, entry, entries, written}
use Rattle.model.specs.Books.{Meaning}
use Rattle.model.specs.Files.{HasLines}
use Rattle.model.specs.Rules.{Belongs}
use Rattle.model.specs.Removal.{removed, card_count}
use Rattle.model.specs.Refusals.{fault}
use Rattle.model.specs.declared.Fault.{Fault}

-- d has the file's lines, and a drawer of this many cards has room for it
pub record Within (file : List ℕ) (room : ℕ) (d : Dataset) : Type 0 where
  pub short : length file ≤ 16777216
  pub few : card_count d ≤ min room 65535

-- d is a dataset of the book with the lines of the file, within the limits
pub record ReadsAs (m : Meaning) (file : List ℕ) (room : ℕ) (d : Dataset) : Type 0 where
  pub is : IsDataset d
  pub belongs : Belongs m d
  pub has_lines : HasLines file d
  pub within : Within file room d

-- what a call answers
pub data Reply : Type 0 where
  refused : (number : ℕ) → Reply
  unread : (f : Fault) → Reply
  number : ℕ → Reply
  opened : Reply
  seen : Entry → Reply
  line : Option (List ℕ) → Reply

-- the fault that a refusal gives: line and byte are 0 from 20 on
abbrev pub fault_of : Reply → Option Fault
fault_of (refused n) = Some (fault n 0 0)
fault_of (unread f) = Some f
fault_of (number n) = None
fault_of opened = None
fault_of (seen e) = None
fault_of (line l) = None

-- a first line, without what follows it
abbrev pub shown_payload : Payload → Payload
shown_payload none = none
shown_payload (text t more) = text t []
shown_payload void = void
shown_payload (pointer i) = pointer i

-- what a look shows of an entry
abbrev pub shown : Entry → Entry
shown e = entry e.level e.identifier e.tag (shown_payload e.payload)

-- State of the plain run: a dataset, or nothing.
abbrev pub Plain : Type 0
Plain = Option Dataset

-- what stands after a removal, granted or refused
abbrev pub after_removal : Meaning → Dataset → ℕ → Dataset
after_removal m d k = cond (k == 0 || nat_le (card_count d) (k + 1)) d (elim (removed m d k) [ None ↦ d | Some e ↦ e ])

-- the dataset that a reading gives, or nothing where there is none
abbrev pub PlainRead : Meaning → List ℕ → ℕ → Plain → Type 0
PlainRead m file room None = (d : Dataset) → ReadsAs m file room d → ⊥
PlainRead m file room (Some d) = ReadsAs m file room d

-- only a reading and a removal change the state
abbrev pub PlainStep : Meaning → List ℕ → ℕ → Call → Plain → Plain → Type 0
PlainStep m file room Read s t = PlainRead m file room t
PlainStep m file room (Remove k) s t = t ≡ elim s [ None ↦ None | Some d ↦ Some (after_removal m d k) ]
PlainStep m file room Open s t = t ≡ s
PlainStep m file room Count s t = t ≡ s
PlainStep m file room (Look k) s t = t ≡ s
PlainStep m file room (More k j) s t = t ≡ s
PlainStep m file room Size s t = t ≡ s
PlainStep m file room Write s t = t ≡ s

-- what a removal answers
abbrev pub remove_reply : Meaning → Dataset → ℕ → Reply
remove_reply m d k =
    cond (k == 0 || nat_le (card_count d) (k + 1)) (refused 22)
    (elim (removed m d k) [ None ↦ refused 23 | Some e ↦ number (card_count d - card_count e) ])

-- what a look answers
abbrev pub look_reply : Dataset → ℕ → Reply
look_reply d k = elim (slice_get (entries d) k) [ None ↦ refused 24 | Some e ↦ seen (shown e) ]

-- what is answered of a further line
abbrev pub more_reply : Dataset → ℕ → ℕ → Reply
more_reply d k j = elim (slice_get (entries d) k) [ None ↦ refused 24 | Some e ↦ line (slice_get (further e.payload) j) ]

-- what a write answers
abbrev pub write_reply : Dataset → ℕ → Reply
write_reply d room =
    cond (nat_lt 16777216 (length (written d))) (refused 25) (cond (nat_lt room (length (written d))) (refused 26) (number (length (written d))))

-- what the buffer holds after
abbrev pub written_over : Dataset → List ℕ → List ℕ
written_over d buffer =
    cond (nat_lt 16777216 (length (written d)) || nat_lt (length buffer) (length (written d))) buffer (written d ++ drop (length (written d)) buffer)

-- every call but reading, by the dataset and the buffer's length
abbrev pub reply : Meaning → Plain → ℕ → Call → Option Reply
reply m s room Read = None
reply m None room (Remove k) = Some (refused 20)
reply m (Some d) room (Remove k) = Some (remove_reply m d k)
reply m None room Open = Some (refused 20)
reply m (Some d) room Open = Some opened
reply m None room Count = Some (refused 20)
reply m (Some d) room Count = Some (number (card_count d))
reply m None room (Look k) = Some (refused 20)
reply m (Some d) room (Look k) = Some (look_reply d k)
reply m None room (More k j) = Some (refused 20)
reply m (Some d) room (More k j) = Some (more_reply d k j)
reply m None room Size = Some (refused 20)
reply m (Some d) room Size = Some (number (length (written d)))
reply m None room Write = Some (refused 20)
reply m (Some d) room Write = Some (write_reply d room)
