-- What a card shows of its entry. Assumes nothing.
use Rattle.std.proofs.Common.{◌≡◌, ℕ, zero, suc, ◌+◌, ◌<◌, ◌≤◌, min, Bool, true, false, ◌⊎◌, List, [], ◌∷◌, ◌++◌, length, get_or, Some, None, Decides, Option, sym, refl, ap, ◌∙◌, inl, inr, arith}
use Rattle.std.specs.List.{AllByRecursion, slice_get}
use Rattle.std.proofs.ByRecursion.{All-get_or}
use Rattle.std.proofs.lemmas.Option.{slice_get-get_or, slice_get_past}
use Rattle.std.proofs.lemmas.Bool.Decides.{not_from_Decides}
use Rattle.model.specs.declared.State.{State}
use Rattle.model.specs.declared.State.TheVariants.{Voided, Emptied}
use Rattle.model.specs.Lines.{Line, line_of, nothing}
use Rattle.model.specs.Datasets.{CONT, Payload, none, text, void, pointer, first_value, further, continuations, entry, Entry, Dataset, IsDataset, entries, all_lines}
use Rattle.model.specs.Files.{Placed, Lined, at}
use Rattle.model.specs.Cards.{StandsAt, after}
use Rattle.model.specs.Refusals.{lines_of}
use Rattle.model.specs.Edits.{no_entry}
use Rattle.model.specs.Removal.{card_count}
use Rattle.model.specs.Runs.{Reply, refused, seen, line, shown, shown_payload, look_reply, more_reply}
use Rattle.model.proofs.Entries.{Settled, all_settled}
use Rattle.lines.specs.declared.line.Payload as shown_line
use Rattle.lines.specs.declared.line.Payload.TheVariants as payload
use Rattle.lines.specs.declared.line.Line as lines
use Rattle.lines.specs.Shown.{value_of, Shows}
use Rattle.looking.specs.Looking.{ContinuedAt}
use Rattle.looking.proofs.Placing.{Stood, stood}
use Rattle.viewing.specs.Answers.{bytes_in, payload_of}

clash : {A : Type 0} → ◌≡◌ {A = ℕ} 0 1 → A
clash e = absurd (omega arith)

-- The first line of a payload

-- a line with a value shows it
pub value_shown : (v : shown_line.Payload) (p : Payload) → (v ≡ payload.None → ⊥) → value_of v ≡ first_value p → payload_of v ≡ shown_payload p
value_shown payload.None p some e = absurd (some refl)
value_shown payload.Void none some e = clash (cc)
value_shown payload.Void void some e = refl
value_shown payload.Void (pointer i) some e = clash (cc)
value_shown payload.Void (text [] more) some e = clash (cc)
value_shown payload.Void (text (c ∷ cs) more) some e = clash (cc)
value_shown (payload.Pointer x) none some e = clash (cc)
value_shown (payload.Pointer x) void some e = clash (cc)
value_shown (payload.Pointer x) (pointer i) some e = let same : x.now ≡ i = cc in ap pointer same
value_shown (payload.Pointer x) (text [] more) some e = clash (cc)
value_shown (payload.Pointer x) (text (c ∷ cs) more) some e = clash (cc)
value_shown (payload.Text x) none some e = clash (cc)
value_shown (payload.Text x) void some e = clash (cc)
value_shown (payload.Text x) (pointer i) some e = clash (cc)
value_shown (payload.Text x) (text [] more) some e = clash (cc)
value_shown (payload.Text x) (text (c ∷ cs) more) some e = let same : x.now ≡ c ∷ cs = cc in ap (λ t. text t []) same

-- one without is a text that goes on, or nothing
pub continued_shown : (p : Payload) → nothing ≡ first_value p → Settled p → (further p ≡ [] → ⊥) → text [] [] ≡ shown_payload p
continued_shown none e s some = absurd (some refl)
continued_shown void e s some = clash (cc)
continued_shown (pointer i) e s some = clash (cc)
continued_shown (text [] more) e s some = refl
continued_shown (text (c ∷ cs) more) e s some = clash (cc)

pub alone_shown : (p : Payload) → nothing ≡ first_value p → Settled p → ((t : List ℕ) (ts : List (List ℕ)) → further p ≡ t ∷ ts → ⊥) → none ≡ shown_payload p
alone_shown none e s lone = refl
alone_shown void e s lone = clash (cc)
alone_shown (pointer i) e s lone = clash (cc)
alone_shown (text [] []) e s lone = absurd (s refl)
alone_shown (text [] (t ∷ ts)) e s lone = absurd (lone t ts refl)
alone_shown (text (c ∷ cs) more) e s lone = clash (cc)

module _ (file : List ℕ) (byte : ℕ) (b : Bool) (k : ContinuedAt file byte b) (ps : List Placed) (e : Entry) (l : Lined file ps) (s : StandsAt ps byte e) where
  there : Stood ps byte e
  there = stood ps byte e s

  decided : Decides b ((there.place + 1 < length ps) × ((at (lines_of ps) (there.place + 1)).tag ≡ CONT))
  decided = k ps there.place l there.within there.begins

  pub goes_on : b ≡ true → further e.payload ≡ [] → ⊥
  goes_on t bare = there.alone bare (decided.0 t)

  pub stands_alone : b ≡ false → (t : List ℕ) (ts : List (List ℕ)) → further e.payload ≡ t ∷ ts → ⊥
  stands_alone f t ts is = not_from_Decides b decided f (there.followed t ts is)

-- The face

pub face_right : (e : Entry) (v : lines.Line) (p : shown_line.Payload) (filed : Payload) → e.level ≤ 63 → Shows v (line_of e.level e.identifier e.tag (first_value filed)) → payload_of p ≡ shown_payload e.payload → entry v.level (bytes_in v.identifier) v.tag.now (payload_of p) ≡ shown e
face_right e v p filed low s is =
    let level : v.level ≡ e.level = s.level ∙ (let z : min 100 e.level ≡ e.level = omega arith in z) in
    λ i. entry (level i) (s.identifier i) (s.tag i) (is i)

-- The entry of a card

own_level : (es : List Entry) (k : ℕ) → k < length es → AllByRecursion (λ l. l.level ≤ 63) (all_lines es) → (get_or es k no_entry).level ≤ 63
own_level [] k h a = absurd (omega arith)
own_level (e ∷ es) zero h a = a.0
own_level (e ∷ es) (suc k) h a = own_level es k (omega arith) (behind (continuations (e.level + 1) (further e.payload)) a.1)
  where
    behind : (ls : List Line) → AllByRecursion (λ l. l.level ≤ 63) (ls ++ all_lines es) → AllByRecursion (λ l. l.level ≤ 63) (all_lines es)
    behind [] b = b
    behind (l ∷ ls) b = behind ls b.1

module _ (d : Dataset) (is : IsDataset d) (k : ℕ) (inside : k < card_count d) where
  pub card_shallow : (get_or (entries d) k no_entry).level ≤ 63
  card_shallow = own_level (entries d) k inside is.shallow

  pub card_settled : Settled (get_or (entries d) k no_entry).payload
  card_settled = All-get_or (λ e. Settled e.payload) (entries d) k no_entry inside (all_settled d is)

-- What is answered

pub look_inside : (d : Dataset) (k : ℕ) (f : Entry) → k < card_count d → f ≡ shown (get_or (entries d) k no_entry) → seen f ≡ look_reply d k
look_inside d k f h e = ap seen e ∙ ap (λ (o : Option Entry). elim o as (λ _. Reply) [ None ↦ refused 24 | Some x ↦ seen (shown x) ]) (sym (slice_get-get_or (entries d) k no_entry h))

pub look_past : (d : Dataset) (k : ℕ) → card_count d ≤ k → refused 24 ≡ look_reply d k
look_past d k h = ap (λ (o : Option Entry). elim o as (λ _. Reply) [ None ↦ refused 24 | Some x ↦ seen (shown x) ]) (sym (slice_get_past (entries d) k h))

pub more_inside : (d : Dataset) (k j : ℕ) (o : Option (List ℕ)) → k < card_count d → o ≡ slice_get (further (get_or (entries d) k no_entry).payload) j → line o ≡ more_reply d k j
more_inside d k j o h e = ap line e ∙ ap (λ (o : Option Entry). elim o as (λ _. Reply) [ None ↦ refused 24 | Some x ↦ line (slice_get (further x.payload) j) ]) (sym (slice_get-get_or (entries d) k no_entry h))

pub more_past : (d : Dataset) (k j : ℕ) → card_count d ≤ k → refused 24 ≡ more_reply d k j
more_past d k j h = ap (λ (o : Option Entry). elim o as (λ _. Reply) [ None ↦ refused 24 | Some x ↦ line (slice_get (further x.payload) j) ]) (sym (slice_get_past (entries d) k h))

-- a card that is not as filed has no further line
pub none_further : (s : State) (filed p : Payload) → (s ≡ Voided) ⊎ (s ≡ Emptied) → p ≡ after s filed → (j : ℕ) → None ≡ slice_get (further p) j
none_further s filed p (inl is) e j = ap (λ x. slice_get (further x) j) (sym (e ∙ ap (λ (x : State). after x filed) is))
none_further s filed p (inr is) e j = ap (λ x. slice_get (further x) j) (sym (e ∙ ap (λ (x : State). after x filed) is))
