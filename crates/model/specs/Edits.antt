-- What a removal does to the list of entries, and so to the cards, by positions. Assumes nothing.
use Rattle.std.specs.Prelude.{ℕ, ◌+◌, ◌-◌, cond, ◌&&◌, ◌||◌, List, [], ◌∷◌, ◌++◌, map, length, get_or, take, drop, replicate, Some, None, Option, ◌==◌, nat_le, nat_lt, slice_index_or, slice_set}
use Rattle.std.specs.Str.{bytes_eq}
use Rattle.model.specs.declared.Card.{Card}
use Rattle.model.specs.declared.State.{State}
use Rattle.model.specs.declared.State.TheVariants.{Filed, Voided, Emptied}
use Rattle.model.specs.declared.Edit.{Edit}
use Rattle.model.specs.declared.Edit.TheVariants.{Withheld, Deleted, Cleared}
use Rattle.model.specs.declared.Context.{Context}
use Rattle.model.specs.declared.Context.TheVariants.{Top}
use Rattle.model.specs.Books.{Meaning}
use Rattle.model.specs.Datasets.{Payload, none, text, void, pointer, Structures, end, next, Record, Dataset, HEAD, tops, Entry, entry, entries}
use Rattle.model.specs.Rules.{below, typed, types_of, top_types}
use Rattle.model.specs.Removal.{goes, stays_empty, held, fate, left_bare, size, without_content, voided_payload, card_count}
use Rattle.model.specs.Cards.{blank}
use Rattle.model.specs.Runs.{Reply, refused, number}

-- What a removal does, by the positions of entries. A row begins at the position `at`, and k is the position of the entry to remove.

-- the structure at a position, whose last entry stands before stop, is removed
abbrev pub first_edit : Meaning → Context → List (Option ℕ) → List ℕ → ℕ → ℕ → Edit
first_edit m c all tag at stop = elim (fate m c all tag) [ goes ↦ Deleted at stop | stays_empty ↦ Cleared at stop | held ↦ Withheld ]

-- what was found below it is done, unless that takes all of its substructures and so leaves it bare
abbrev pub raised : Meaning → Context → List (Option ℕ) → List ℕ → Payload → ℕ → ℕ → Edit → Edit
raised m c all tag p at stop Withheld = Withheld
raised m c all tag p at stop (Deleted from to) = cond (from == at + 1 && to == stop && left_bare m c tag p end) (first_edit m c all tag at stop) (Deleted from to)
raised m c all tag p at stop (Cleared place to) = Cleared place to

abbrev pub edit_in : Meaning → Context → List (Option ℕ) → Structures → ℕ → ℕ → Edit
edit_in m c all end at k = Withheld
edit_in m c all (next tag p subs rest) at k =
    let stop = at + 1 + size subs in
    cond (k == at)
    (first_edit m c all tag at stop)
    (cond (nat_lt k stop)
    (raised m c all tag p at stop (edit_in m (below m c tag) (types_of m (below m c tag) subs) subs (at + 1) k))
    (edit_in m c all rest stop k))

abbrev pub edit_of : Meaning → List (Option ℕ) → List Record → ℕ → ℕ → Edit
edit_of m all [] at k = Withheld
edit_of m all (r ∷ rs) at k =
    let c = below m Top r.tag in
    let stop = at + 1 + size r.subs in
    cond (k == at)
    (first_edit m Top all r.tag at stop)
    (cond (nat_lt k stop)
    (raised m Top all r.tag r.payload at stop (edit_in m c (types_of m c r.subs) r.subs (at + 1) k))
    (edit_of m all rs stop k))

abbrev pub edit : Meaning → Dataset → ℕ → Edit
edit m d k =
    let c = below m Top HEAD in
    let stop = 1 + size d.header in
    cond (nat_lt k stop)
    (edit_in m c (types_of m c d.header) d.header 1 k)
    (edit_of m (top_types m (tops d)) d.records stop k)

-- The same by a descent over the flat list of entries, of which the first stands at the position `at`.

-- how many stand at the start below one of level l
abbrev pub block : ℕ → List Entry → ℕ
block l [] = 0
block l (e ∷ es) = cond (nat_lt l e.level) (1 + block l es) 0

-- the types in the row of level l: up to the first entry of a lower level, deeper ones passed over
abbrev pub row_types : Meaning → Context → ℕ → List Entry → List (Option ℕ)
row_types m c l [] = []
row_types m c l (e ∷ es) = cond (nat_lt e.level l) [] (cond (nat_lt l e.level) (row_types m c l es) (typed m c e.tag ∷ row_types m c l es))

abbrev pub edit_row : Meaning → Context → List (Option ℕ) → ℕ → List Entry → ℕ → ℕ → Edit
edit_row m c all l [] at k = Withheld
edit_row m c all l (e ∷ es) at k =
    let inside = below m c e.tag in
    let stop = at + 1 + block l es in
    cond (nat_lt e.level l) Withheld
    (cond (nat_lt l e.level) (edit_row m c all l es (at + 1) k)
    (cond (k == at)
    (first_edit m c all e.tag at stop)
    (cond (nat_lt k stop)
    (raised m c all e.tag e.payload at stop (edit_row m inside (row_types m inside (l + 1) es) (l + 1) es (at + 1) k))
    (edit_row m c all l es (at + 1) k))))

-- the entries of a dataset without the trailer's
abbrev pub body : List Entry → List Entry
body es = take (length es - 1) es

abbrev pub edit_flat : Meaning → List Entry → ℕ → Edit
edit_flat m es k =
    let c = below m Top HEAD in
    let inside = drop 1 (body es) in
    cond (nat_lt k (1 + block 0 inside))
    (edit_row m c (row_types m c 1 inside) 1 inside 1 k)
    (edit_row m Top (row_types m Top 0 (body es)) 0 inside 1 k)

-- An edit done to entries.

abbrev pub without : {A : Type 0} → ℕ → ℕ → List A → List A
without from to xs = take from xs ++ drop to xs

abbrev pub no_entry : Entry
no_entry = entry 0 None [] none

abbrev pub voided_entry : List ℕ → Entry → Entry
voided_entry i e = entry e.level e.identifier e.tag (voided_payload i e.payload)

abbrev pub emptied_entry : Entry → Entry
emptied_entry e = entry e.level e.identifier e.tag (without_content e.payload)

-- the identifier of the record at a position; a substructure has none
abbrev pub went : List Entry → ℕ → Option (List ℕ)
went es from = (get_or es from no_entry).identifier

abbrev pub voided_by : Option (List ℕ) → List Entry → List Entry
voided_by None es = es
voided_by (Some i) es = map (voided_entry i) es

abbrev pub applied : Edit → List Entry → List Entry
applied Withheld es = es
applied (Deleted from to) es = voided_by (went es from) (without from to es)
applied (Cleared place to) es = without (place + 1) to (slice_set es place (emptied_entry (slice_index_or es place no_entry)))

-- how many entries go
abbrev pub dropped : Edit → ℕ
dropped Withheld = 0
dropped (Deleted from to) = to - from
dropped (Cleared place to) = to - (place + 1)

-- An edit done to cards. The entries are those that the cards file.

-- what code reads where no card stands
abbrev pub no_card : Card
no_card = record { byte = 0; state = Filed }

abbrev pub voided_card : Card → Card
voided_card c = record { byte = c.byte; state = Voided }

-- a card whose entry points to i
abbrev pub marked_card : List ℕ → Payload → Card → Card
marked_card i none c = c
marked_card i (text t more) c = c
marked_card i void c = c
marked_card i (pointer j) c = cond (bytes_eq i j) (voided_card c) c

abbrev pub marked : List ℕ → List Entry → List Card → List Card
marked i [] cs = cs
marked i (e ∷ es) [] = []
marked i (e ∷ es) (c ∷ cs) = marked_card i e.payload c ∷ marked i es cs

abbrev pub marked_by : Option (List ℕ) → List Entry → List Card → List Card
marked_by None es cs = cs
marked_by (Some i) es cs = marked i es cs

abbrev pub emptied_state : Payload → State
emptied_state none = Emptied
emptied_state (text t more) = Emptied
emptied_state void = Voided
emptied_state (pointer i) = Voided

abbrev pub emptied_card : Payload → Card → Card
emptied_card p c = record { byte = c.byte; state = emptied_state p }

abbrev pub applied_cards : Edit → List Entry → List Card → List Card
applied_cards Withheld es cs = cs
applied_cards (Deleted from to) es cs = without from to (marked_by (went es from) es cs) ++ replicate (to - from) blank
applied_cards (Cleared place to) es cs = without (place + 1) to (slice_set cs place (emptied_card (get_or es place no_entry).payload (slice_index_or cs place no_card))) ++ replicate (to - (place + 1)) blank

-- what a removal answers that does this edit
abbrev pub edit_reply : Edit → Reply
edit_reply Withheld = refused 23
edit_reply (Deleted from to) = number (to - from)
edit_reply (Cleared place to) = number (to - (place + 1))

-- the drawer after a removal of card k from the dataset that it holds
abbrev pub drawer_after : Meaning → Dataset → List Card → ℕ → List Card
drawer_after m d cards k = cond (k == 0 || nat_le (card_count d) (k + 1)) cards (applied_cards (edit m d k) (entries d) cards)
