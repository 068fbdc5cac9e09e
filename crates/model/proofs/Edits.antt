-- What a removal leaves has the entries that its edit leaves. Assumes nothing.
use Rattle.std.proofs.Common.{◌≡◌, ℕ, zero, suc, ◌+◌, ◌-◌, ◌<◌, ◌≤◌, Bool, true, false, cond, ◌&&◌, eqb, ltb, List, [], ◌∷◌, ◌++◌, map, length, get_or, drop, set, Some, None, Option, sym, refl, ap, ◌∙◌, subst, ap₂, subst₂, inl, inr, append_assoc, arith, length-append, take_at, drop_at}
use mathlib.Core.List.{map-append}
use lib.ListN.{length-map}
use lib.Seq.{get_or_at, set_at}
use Rattle.std.proofs.lemmas.Bool.{cases_lt, cond-true, cond-false, eq-eqb, ne_eqb, lt-ltb, le-ltb, and_from, and_left, and_right}
use Rattle.model.specs.declared.Context.{Context}
use Rattle.model.specs.declared.Context.TheVariants.{Top}
use Rattle.model.specs.declared.Edit.{Edit}
use Rattle.model.specs.declared.Edit.TheVariants.{Withheld, Deleted, Cleared}
use Rattle.model.specs.Books.{Meaning}
use Rattle.model.specs.Datasets.{Payload, none, text, void, pointer, Structures, end, next, Record, Dataset, HEAD, TRLR, tops, Entry, entry, entries_at, entries_of, entries}
use Rattle.model.specs.Rules.{below, types_of, top_types}
use Rattle.model.specs.Removal.{Fate, goes, stays_empty, held, fate, left_bare, is_end, size, without_content, first_removed, kept, then, removed_in, Left, without_substructures, with_subs, record_removed, record_kept, removed_of, voided, voided_record, settled, card_count, removed}
use Rattle.model.specs.Edits.{first_edit, raised, edit_in, edit_of, edit, without, no_entry, voided_entry, emptied_entry, voided_by, applied, dropped}
use Rattle.model.proofs.Cuts.{never}

-- Lists of entries, of which the first stands at the position `at`

-- without those from one position up to another; the first of them is named who
pub record Without (at : ℕ) (es left : List Entry) (from to : ℕ) (who : Option (List ℕ)) : Type 0 where
  pub before : List Entry
  pub first : Entry
  pub more : List Entry
  pub after : List Entry
  pub are : es ≡ before ++ (first ∷ more ++ after)
  pub leaves : left ≡ before ++ after
  pub starts : from ≡ at + length before
  pub stops : to ≡ from + length (first ∷ more)
  pub named : first.identifier ≡ who

-- with one emptied, and without those behind it up to another
pub record ClearedAt (at : ℕ) (es left : List Entry) (place to : ℕ) : Type 0 where
  pub before : List Entry
  pub first : Entry
  pub more : List Entry
  pub after : List Entry
  pub are : es ≡ before ++ (first ∷ more ++ after)
  pub leaves : left ≡ before ++ (emptied_entry first ∷ after)
  pub starts : place ≡ at + length before
  pub stops : to ≡ place + length (first ∷ more)

split_back : (es before : List Entry) (first : Entry) (more after post : List Entry) → es ≡ before ++ (first ∷ more ++ after) → es ++ post ≡ before ++ (first ∷ more ++ (after ++ post))
split_back es before first more after post are = ap (λ l. l ++ post) are ∙ append_assoc before (first ∷ more ++ after) post ∙ ap (λ l. before ++ l) (append_assoc (first ∷ more) after post)

split_front : (pre es before rest : List Entry) → es ≡ before ++ rest → pre ++ es ≡ pre ++ before ++ rest
split_front pre es before rest are = ap (λ l. pre ++ l) are ∙ sym (append_assoc pre before rest)

without_back : (post : List Entry) (at : ℕ) (es left : List Entry) (from to : ℕ) (who : Option (List ℕ)) → Without at es left from to who → Without at (es ++ post) (left ++ post) from to who
without_back post at es left from to who w = record {
  before = w.before;
  first = w.first;
  more = w.more;
  after = w.after ++ post;
  are = split_back es w.before w.first w.more w.after post w.are;
  leaves = ap (λ l. l ++ post) w.leaves ∙ append_assoc w.before w.after post;
  starts = w.starts;
  stops = w.stops;
  named = w.named;
}

without_front : (pre : List Entry) (at high : ℕ) (es left : List Entry) (from to : ℕ) (who : Option (List ℕ)) → high ≡ at + length pre → Without high es left from to who → Without at (pre ++ es) (pre ++ left) from to who
without_front pre at high es left from to who long w = record {
  before = pre ++ w.before;
  first = w.first;
  more = w.more;
  after = w.after;
  are = split_front pre es w.before (w.first ∷ w.more ++ w.after) w.are;
  leaves = split_front pre left w.before w.after w.leaves;
  starts = omega (arith, length-append pre w.before, w.starts);
  stops = w.stops;
  named = w.named;
}

cleared_back : (post : List Entry) (at : ℕ) (es left : List Entry) (place to : ℕ) → ClearedAt at es left place to → ClearedAt at (es ++ post) (left ++ post) place to
cleared_back post at es left place to w = record {
  before = w.before;
  first = w.first;
  more = w.more;
  after = w.after ++ post;
  are = split_back es w.before w.first w.more w.after post w.are;
  leaves = ap (λ l. l ++ post) w.leaves ∙ append_assoc w.before (emptied_entry w.first ∷ w.after) post;
  starts = w.starts;
  stops = w.stops;
}

cleared_front : (pre : List Entry) (at high : ℕ) (es left : List Entry) (place to : ℕ) → high ≡ at + length pre → ClearedAt high es left place to → ClearedAt at (pre ++ es) (pre ++ left) place to
cleared_front pre at high es left place to long w = record {
  before = pre ++ w.before;
  first = w.first;
  more = w.more;
  after = w.after;
  are = split_front pre es w.before (w.first ∷ w.more ++ w.after) w.are;
  leaves = split_front pre left w.before (emptied_entry w.first ∷ w.after) w.leaves;
  starts = omega (arith, length-append pre w.before, w.starts);
  stops = w.stops;
}

-- A removal and an edit agree: both are held, or the edit of the entries es, of which the first stands at `at`, gives what is left.
pub data Agree {X : Type 0} (lay : X → List Entry) (who : X → Option (List ℕ)) (at k : ℕ) (es : List Entry) : Option X → Edit → Type 0 where
  both_held : Agree lay who at k es None Withheld
  both_out : {x : X} {from to : ℕ} → Without at es (lay x) from to (who x) → from ≤ k → k < to → Agree lay who at k es (Some x) (Deleted from to)
  both_bare : {x : X} {place to : ℕ} → ClearedAt at es (lay x) place to → who x ≡ None → place ≤ k → k < to → Agree lay who at k es (Some x) (Cleared place to)

pub size_is : (level : ℕ) (s : Structures) → length (entries_at level s) ≡ size s
size_is level end = refl
size_is level (next tag p subs rest) = omega (arith, length-append (entries_at (level + 1) subs) (entries_at level rest), size_is (level + 1) subs, size_is level rest)

-- what is left of a row is nothing, just where all of it went
bare_parts : (m : Meaning) (c : Context) (tag : List ℕ) (p : Payload) (s : Structures) → left_bare m c tag p s ≡ (is_end s && left_bare m c tag p end)
bare_parts m c tag p end = refl
bare_parts m c tag none (next t q subs rest) = refl
bare_parts m c tag (text first more) (next t q subs rest) = refl
bare_parts m c tag void (next t q subs rest) = refl
bare_parts m c tag (pointer i) (next t q subs rest) = refl

without_long : (at : ℕ) (es left : List Entry) (from to : ℕ) (who : Option (List ℕ)) (w : Without at es left from to who) → (length es ≡ length w.before + (length (w.first ∷ w.more) + length w.after)) × (length left ≡ length w.before + length w.after)
without_long at es left from to who w =
    (ap length w.are ∙ length-append w.before (w.first ∷ w.more ++ w.after) ∙ ap (λ n. length w.before + n) (length-append (w.first ∷ w.more) w.after), ap length w.leaves ∙ length-append w.before w.after)

cleared_long : (at : ℕ) (es left : List Entry) (place to : ℕ) (w : ClearedAt at es left place to) → (length es ≡ length w.before + (length (w.first ∷ w.more) + length w.after)) × (length left ≡ length w.before + (length w.after + 1))
cleared_long at es left place to w =
    (ap length w.are ∙ length-append w.before (w.first ∷ w.more ++ w.after) ∙ ap (λ n. length w.before + n) (length-append (w.first ∷ w.more) w.after), omega (arith, ap length w.leaves, length-append w.before (emptied_entry w.first ∷ w.after)))

all_went : (level at : ℕ) (subs left : Structures) (from to : ℕ) (who : Option (List ℕ)) → Without (at + 1) (entries_at level subs) (entries_at level left) from to who → is_end left ≡ (eqb from (at + 1) && eqb to (at + 1 + size subs))
all_went level at subs end from to who w =
    let (long, less) = without_long (at + 1) (entries_at level subs) [] from to who w in
    let all = size_is level subs in
    let starts = w.starts in
    let stops = w.stops in
    sym (and_from (eqb from (at + 1)) (eqb to (at + 1 + size subs)) (eq-eqb from (at + 1) (omega arith)) (eq-eqb to (at + 1 + size subs) (omega arith)))
all_went level at subs (next tag p inner rest) from to who w =
    let (long, less) = without_long (at + 1) (entries_at level subs) (entries_at level (next tag p inner rest)) from to who w in
    let all = size_is level subs in
    let starts = w.starts in
    let stops = w.stops in
    elim (cases_lt 0 (length w.before)) [
      | inl h ↦ sym (and_left (eqb from (at + 1)) (eqb to (at + 1 + size subs)) (ne_eqb from (at + 1) (λ e. omega arith)))
      | inr h ↦ sym (and_right (eqb from (at + 1)) (eqb to (at + 1 + size subs)) (ne_eqb to (at + 1 + size subs) (λ e. omega arith)))
    ]

still_some : (level at : ℕ) (es : List Entry) (left : Structures) (place to : ℕ) → ClearedAt at es (entries_at level left) place to → is_end left ≡ false
still_some level at es end place to w = let (long, less) = cleared_long at es [] place to w in absurd (omega arith)
still_some level at es (next tag p subs rest) place to w = refl

module _ {X : Type 0} {lay : X → List Entry} {who : X → Option (List ℕ)} {at k : ℕ} {es : List Entry} where
  agree_alike : (o o' : Option X) → o ≡ o' → (x x' : Edit) → x ≡ x' → Agree lay who at k es o' x' → Agree lay who at k es o x
  agree_alike o o' p x x' q a = subst₂ (Agree lay who at k es) (sym p) (sym q) a

  agree_if : (b b' : Bool) → b ≡ b' → (o o' : Option X) (x x' : Edit) → Agree lay who at k es o x → Agree lay who at k es o' x' → Agree lay who at k es (cond b o o') (cond b' x x')
  agree_if b b' p o o' x x' a a' = subst (λ t. Agree lay who at k es (cond b o o') (cond t x x')) p (go b)
    where
      go : (t : Bool) → Agree lay who at k es (cond t o o') (cond t x x')
      go true = a
      go false = a'

-- Rows

abbrev AgreeIn : ℕ → ℕ → ℕ → Structures → Option Structures → Edit → Type 0
AgreeIn level at k s o x = Agree (entries_at level) (λ t. None) at k (entries_at level s) o x

module _ (m : Meaning) where
  module _ (c : Context) (all : List (Option ℕ)) (tag : List ℕ) (p : Payload) (subs rest : Structures) (level at k : ℕ) (low : at ≤ k) (high : k < at + 1 + size subs) where
    agree_first : AgreeIn level at k (next tag p subs rest) (first_removed m c all tag p rest) (first_edit m c all tag at (at + 1 + size subs))
    agree_first = go (fate m c all tag)
      where
        go : (f : Fate) → AgreeIn level at k (next tag p subs rest) (elim f as (λ _. Option Structures) [ goes ↦ Some rest | stays_empty ↦ Some (next tag (without_content p) end rest) | held ↦ None ]) (elim f as (λ _. Edit) [ goes ↦ Deleted at (at + 1 + size subs) | stays_empty ↦ Cleared at (at + 1 + size subs) | held ↦ Withheld ])
        go goes = both_out (record { before = []; first = entry level None tag p; more = entries_at (level + 1) subs; after = entries_at level rest; are = refl; leaves = refl; starts = omega arith; stops = omega (arith, size_is (level + 1) subs); named = refl }) low high
        go stays_empty = both_bare (record { before = []; first = entry level None tag p; more = entries_at (level + 1) subs; after = entries_at level rest; are = refl; leaves = refl; starts = omega arith; stops = omega (arith, size_is (level + 1) subs) }) refl low high
        go held = both_held

    agree_kept : (o : Option Structures) (x : Edit) → AgreeIn (level + 1) (at + 1) k subs o x → AgreeIn level at k (next tag p subs rest) (then o (kept m c all tag p rest)) (raised m c all tag p at (at + 1 + size subs) x)
    agree_kept o x both_held = both_held
    agree_kept o x (both_out {x = left} {from = from} {to = to} w below-k above-k) =
        let first = entry level None tag p ∷ [] in
        agree_if (left_bare m c tag p left) _ (bare_parts m c tag p left ∙ ap (λ b. b && left_bare m c tag p end) (all_went (level + 1) at subs left from to None w)) (first_removed m c all tag p rest) (Some (next tag p left rest)) _ (Deleted from to) agree_first (both_out (without_front first at (at + 1) _ _ from to None refl (without_back (entries_at level rest) (at + 1) _ _ from to None w)) below-k above-k)
    agree_kept o x (both_bare {x = left} {place = place} {to = to} w none-went below-k above-k) =
        let first = entry level None tag p ∷ [] in
        agree_if (left_bare m c tag p left) false (bare_parts m c tag p left ∙ ap (λ b. b && left_bare m c tag p end) (still_some (level + 1) (at + 1) _ left place to w)) (first_removed m c all tag p rest) (Some (next tag p left rest)) _ (Cleared place to) agree_first (both_bare (cleared_front first at (at + 1) _ _ place to refl (cleared_back (entries_at level rest) (at + 1) _ _ place to w)) none-went below-k above-k)

  agree_later : (tag : List ℕ) (p : Payload) (subs rest : Structures) (level at k : ℕ) (o : Option Structures) (x : Edit) → AgreeIn level (at + 1 + size subs) k rest o x → AgreeIn level at k (next tag p subs rest) (then o (λ rs. Some (next tag p subs rs))) x
  agree_later tag p subs rest level at k o x both_held = both_held
  agree_later tag p subs rest level at k o x (both_out {from = from} {to = to} w below-k above-k) = both_out (without_front (entry level None tag p ∷ entries_at (level + 1) subs) at (at + 1 + size subs) _ _ from to None (omega (arith, size_is (level + 1) subs)) w) below-k above-k
  agree_later tag p subs rest level at k o x (both_bare {place = place} {to = to} w none-went below-k above-k) = both_bare (cleared_front (entry level None tag p ∷ entries_at (level + 1) subs) at (at + 1 + size subs) _ _ place to (omega (arith, size_is (level + 1) subs)) w) none-went below-k above-k

  pub agree_in : (c : Context) (all : List (Option ℕ)) (s : Structures) (level at j k : ℕ) → k ≡ at + j → j < size s → AgreeIn level at k s (removed_in m c all s j) (edit_in m c all s at k)
  agree_in c all end level at j k is inside = absurd (omega arith)
  agree_in c all (next tag p subs rest) level at zero k is inside =
      agree_alike (first_removed m c all tag p rest) (first_removed m c all tag p rest) refl _ _ (cond-true (eqb k at) _ _ (eq-eqb k at (omega arith))) (agree_first c all tag p subs rest level at k (omega arith) (omega arith))
  agree_in c all (next tag p subs rest) level at (suc i) k is inside =
      elim (cases_lt i (size subs)) [
        | inl h ↦ agree_alike _ _ (cond-true (ltb i (size subs)) _ _ (lt-ltb i (size subs) h)) _ _ (cond-false (eqb k at) _ _ (ne_eqb k at (λ e. omega arith)) ∙ cond-true (ltb k (at + 1 + size subs)) _ _ (lt-ltb k (at + 1 + size subs) (omega arith))) (agree_kept c all tag p subs rest level at k (omega arith) (omega arith) _ _ (agree_in (below m c tag) (types_of m (below m c tag) subs) subs (level + 1) (at + 1) i k (omega arith) h))
        | inr h ↦ agree_alike _ _ (cond-false (ltb i (size subs)) _ _ (le-ltb i (size subs) h)) _ _ (cond-false (eqb k at) _ _ (ne_eqb k at (λ e. omega arith)) ∙ cond-false (ltb k (at + 1 + size subs)) _ _ (le-ltb k (at + 1 + size subs) (omega arith))) (agree_later tag p subs rest level at k _ _ (agree_in c all rest level (at + 1 + size subs) (i - size subs) k (omega arith) (omega arith)))
      ]

-- Records

abbrev AgreeOf : ℕ → ℕ → List Record → Option Left → Edit → Type 0
AgreeOf at k rs o x = Agree (λ (left : Left). entries_of left.0) (λ (left : Left). left.1) at k (entries_of rs) o x

module _ (m : Meaning) (all : List (Option ℕ)) where
  module _ (r : Record) (rs : List Record) (at k : ℕ) (low : at ≤ k) (high : k < at + 1 + size r.subs) where
    agree_record : AgreeOf at k (r ∷ rs) (record_removed m all r rs) (first_edit m Top all r.tag at (at + 1 + size r.subs))
    agree_record = go (fate m Top all r.tag)
      where
        go : (f : Fate) → AgreeOf at k (r ∷ rs) (elim f as (λ _. Option Left) [ goes ↦ Some (rs, r.identifier) | stays_empty ↦ Some (without_substructures r ∷ rs, None) | held ↦ None ]) (elim f as (λ _. Edit) [ goes ↦ Deleted at (at + 1 + size r.subs) | stays_empty ↦ Cleared at (at + 1 + size r.subs) | held ↦ Withheld ])
        go goes = both_out (record { before = []; first = entry 0 r.identifier r.tag r.payload; more = entries_at 1 r.subs; after = entries_of rs; are = refl; leaves = refl; starts = omega arith; stops = omega (arith, size_is 1 r.subs); named = refl }) low high
        go stays_empty = both_bare (record { before = []; first = entry 0 r.identifier r.tag r.payload; more = entries_at 1 r.subs; after = entries_of rs; are = refl; leaves = refl; starts = omega arith; stops = omega (arith, size_is 1 r.subs) }) refl low high
        go held = both_held

    agree_record_kept : (o : Option Structures) (x : Edit) → AgreeIn 1 (at + 1) k r.subs o x → AgreeOf at k (r ∷ rs) (then o (record_kept m all r rs)) (raised m Top all r.tag r.payload at (at + 1 + size r.subs) x)
    agree_record_kept o x both_held = both_held
    agree_record_kept o x (both_out {x = left} {from = from} {to = to} w below-k above-k) =
        let first = entry 0 r.identifier r.tag r.payload ∷ [] in
        agree_if (left_bare m Top r.tag r.payload left) _ (bare_parts m Top r.tag r.payload left ∙ ap (λ b. b && left_bare m Top r.tag r.payload end) (all_went 1 at r.subs left from to None w)) (record_removed m all r rs) (Some (with_subs r left ∷ rs, None)) _ (Deleted from to) agree_record (both_out (without_front first at (at + 1) _ _ from to None refl (without_back (entries_of rs) (at + 1) _ _ from to None w)) below-k above-k)
    agree_record_kept o x (both_bare {x = left} {place = place} {to = to} w none-went below-k above-k) =
        let first = entry 0 r.identifier r.tag r.payload ∷ [] in
        agree_if (left_bare m Top r.tag r.payload left) false (bare_parts m Top r.tag r.payload left ∙ ap (λ b. b && left_bare m Top r.tag r.payload end) (still_some 1 (at + 1) _ left place to w)) (record_removed m all r rs) (Some (with_subs r left ∷ rs, None)) _ (Cleared place to) agree_record (both_bare (cleared_front first at (at + 1) _ _ place to refl (cleared_back (entries_of rs) (at + 1) _ _ place to w)) none-went below-k above-k)

  agree_record_later : (r : Record) (rs : List Record) (at k : ℕ) (o : Option Left) (x : Edit) → AgreeOf (at + 1 + size r.subs) k rs o x → AgreeOf at k (r ∷ rs) (then o (λ left. Some (r ∷ left.0, left.1))) x
  agree_record_later r rs at k o x both_held = both_held
  agree_record_later r rs at k o x (both_out {x = left} {from = from} {to = to} w below-k above-k) = both_out (without_front (entry 0 r.identifier r.tag r.payload ∷ entries_at 1 r.subs) at (at + 1 + size r.subs) _ _ from to left.1 (omega (arith, size_is 1 r.subs)) w) below-k above-k
  agree_record_later r rs at k o x (both_bare {place = place} {to = to} w none-went below-k above-k) = both_bare (cleared_front (entry 0 r.identifier r.tag r.payload ∷ entries_at 1 r.subs) at (at + 1 + size r.subs) _ _ place to (omega (arith, size_is 1 r.subs)) w) none-went below-k above-k

  pub agree_of : (rs : List Record) (at j k : ℕ) → k ≡ at + j → j < length (entries_of rs) → AgreeOf at k rs (removed_of m all rs j) (edit_of m all rs at k)
  agree_of [] at j k is inside = absurd (omega arith)
  agree_of (r ∷ rs) at zero k is inside =
      agree_alike (record_removed m all r rs) (record_removed m all r rs) refl _ _ (cond-true (eqb k at) _ _ (eq-eqb k at (omega arith))) (agree_record r rs at k (omega arith) (omega arith))
  agree_of (r ∷ rs) at (suc i) k is inside =
      let c : Context = below m Top r.tag in
      elim (cases_lt i (size r.subs)) [
        | inl h ↦ agree_alike _ _ (cond-true (ltb i (size r.subs)) _ _ (lt-ltb i (size r.subs) h)) _ _ (cond-false (eqb k at) _ _ (ne_eqb k at (λ e. omega arith)) ∙ cond-true (ltb k (at + 1 + size r.subs)) _ _ (lt-ltb k (at + 1 + size r.subs) (omega arith))) (agree_record_kept r rs at k (omega arith) (omega arith) _ _ (agree_in m c (types_of m c r.subs) r.subs 1 (at + 1) i k (omega arith) h))
        | inr h ↦
            let long = length-append (entries_at 1 r.subs) (entries_of rs) in
            let mine = size_is 1 r.subs in
            agree_alike _ _ (cond-false (ltb i (size r.subs)) _ _ (le-ltb i (size r.subs) h)) _ _ (cond-false (eqb k at) _ _ (ne_eqb k at (λ e. omega arith)) ∙ cond-false (ltb k (at + 1 + size r.subs)) _ _ (le-ltb k (at + 1 + size r.subs) (omega arith))) (agree_record_later r rs at k _ _ (agree_of rs (at + 1 + size r.subs) (i - size r.subs) k (omega arith) (omega arith)))
      ]

-- Edits of the whole list

pub without_at : {A : Type 0} (a mid b : List A) (from to : ℕ) → length a ≡ from → length a + length mid ≡ to → without from to (a ++ (mid ++ b)) ≡ a ++ b
without_at a mid b from to starts stops = ap₂ (λ x y. x ++ y) (take_at a (mid ++ b) from starts) (ap (drop to) (sym (append_assoc a mid b)) ∙ drop_at (a ++ mid) b to (length-append a mid ∙ stops))

applied_out : (es left : List Entry) (from to : ℕ) (who : Option (List ℕ)) → Without 0 es left from to who → applied (Deleted from to) es ≡ voided_by who left
applied_out es left from to who w =
    let starts = w.starts in
    let stops = w.stops in
    subst (λ l. applied (Deleted from to) l ≡ voided_by who left) (sym w.are) (ap₂ voided_by (ap (λ e. e.identifier) (get_or_at w.before w.first (w.more ++ w.after) no_entry from (omega arith)) ∙ w.named) (without_at w.before (w.first ∷ w.more) w.after from to (omega arith) (omega arith) ∙ sym w.leaves))

applied_bare : (es left : List Entry) (place to : ℕ) → ClearedAt 0 es left place to → applied (Cleared place to) es ≡ left
applied_bare es left place to w =
    let starts = w.starts in
    let stops = w.stops in
    let x = emptied_entry w.first in
    let start = w.before ++ x ∷ [] in
    let there : length w.before ≡ place = omega arith in
    let one : length start ≡ place + 1 = length-append w.before (x ∷ []) ∙ omega arith in
    let found = get_or_at w.before w.first (w.more ++ w.after) no_entry place there in
    let done : set (w.before ++ (w.first ∷ w.more ++ w.after)) place (emptied_entry (get_or (w.before ++ (w.first ∷ w.more ++ w.after)) place no_entry)) ≡ start ++ (w.more ++ w.after) = ap (λ e. set (w.before ++ (w.first ∷ w.more ++ w.after)) place (emptied_entry e)) found ∙ set_at w.before w.first (w.more ++ w.after) x place there ∙ sym (append_assoc w.before (x ∷ []) (w.more ++ w.after)) in
    subst (λ l. applied (Cleared place to) l ≡ left) (sym w.are) (ap (without (place + 1) to) done ∙ without_at start w.more w.after (place + 1) to one (omega arith) ∙ append_assoc w.before (x ∷ []) w.after ∙ sym w.leaves)

entries_voided_at : (i : List ℕ) (level : ℕ) (s : Structures) → entries_at level (voided i s) ≡ map (voided_entry i) (entries_at level s)
entries_voided_at i level end = refl
entries_voided_at i level (next tag p subs rest) =
    let first : Entry = voided_entry i (entry level None tag p) in
    ap₂ (λ x y. first ∷ x ++ y) (entries_voided_at i (level + 1) subs) (entries_voided_at i level rest) ∙ ap (λ l. first ∷ l) (sym (map-append (voided_entry i) (entries_at (level + 1) subs) (entries_at level rest)))

entries_voided_of : (i : List ℕ) (rs : List Record) → entries_of (map (voided_record i) rs) ≡ map (voided_entry i) (entries_of rs)
entries_voided_of i [] = refl
entries_voided_of i (r ∷ rs) =
    let first : Entry = voided_entry i (entry 0 r.identifier r.tag r.payload) in
    ap₂ (λ x y. first ∷ x ++ y) (entries_voided_at i 1 r.subs) (entries_voided_of i rs) ∙ ap (λ l. first ∷ l) (sym (map-append (voided_entry i) (entries_at 1 r.subs) (entries_of rs)))

pub entries_settled : (h : Structures) (rs : List Record) (who : Option (List ℕ)) → entries (settled h (rs, who)) ≡ voided_by who (entries (settled h (rs, None)))
entries_settled h rs None = refl
entries_settled h rs (Some i) =
    let plain : Dataset = settled h (rs, None) in
    ap (λ l. l ++ entry 0 None TRLR none ∷ []) (entries_voided_of i (tops plain)) ∙ sym (map-append (voided_entry i) (entries_of (tops plain)) (entry 0 None TRLR none ∷ []))

voided_by_long : (who : Option (List ℕ)) (es : List Entry) → length (voided_by who es) ≡ length es
voided_by_long None es = refl
voided_by_long (Some i) es = length-map es (voided_entry i)

-- what an edit reaches: neither the header's entry nor the trailer's
pub record Reach (d : Dataset) (k from to : ℕ) : Type 0 where
  pub first : 1 ≤ from
  pub low : from ≤ k
  pub high : k < to
  pub last : to < card_count d

pub data Outcome (d : Dataset) (k : ℕ) : Option Dataset → Edit → Type 0 where
  not_done : Outcome d k None Withheld
  done_out : {e : Dataset} {from to : ℕ} → Reach d k from to → entries e ≡ applied (Deleted from to) (entries d) → card_count e + (to - from) ≡ card_count d → Outcome d k (Some e) (Deleted from to)
  done_bare : {e : Dataset} {place to : ℕ} → Reach d k place to → entries e ≡ applied (Cleared place to) (entries d) → card_count e + (to - (place + 1)) ≡ card_count d → Outcome d k (Some e) (Cleared place to)

-- an edit of some entries between others is one of the whole list
whole_out : (d : Dataset) (k : ℕ) (pre es post : List Entry) (at : ℕ) → entries d ≡ pre ++ es ++ post → at ≡ length pre → 1 ≤ at → 1 ≤ length post → (left : List Entry) (from to : ℕ) (who : Option (List ℕ)) → Without at es left from to who → from ≤ k → k < to → (e : Dataset) → entries e ≡ voided_by who (pre ++ left ++ post) → Outcome d k (Some e) (Deleted from to)
whole_out d k pre es post at are long some more left from to who w low high e is =
    let (all, less) = without_long at es left from to who w in
    let starts = w.starts in
    let stops = w.stops in
    let count = ap length are ∙ length-append (pre ++ es) post in
    let front = length-append pre es in
    let wide = without_back post 0 (pre ++ es) (pre ++ left) from to who (without_front pre 0 at es left from to who (omega arith) w) in
    let short = ap length is ∙ voided_by_long who (pre ++ left ++ post) ∙ length-append (pre ++ left) post in
    let front' = length-append pre left in
    done_out (record { first = omega arith; low = low; high = high; last = omega arith }) (is ∙ sym (ap (applied (Deleted from to)) are ∙ applied_out (pre ++ es ++ post) (pre ++ left ++ post) from to who wide)) (omega arith)

whole_bare : (d : Dataset) (k : ℕ) (pre es post : List Entry) (at : ℕ) → entries d ≡ pre ++ es ++ post → at ≡ length pre → 1 ≤ at → 1 ≤ length post → (left : List Entry) (place to : ℕ) → ClearedAt at es left place to → place ≤ k → k < to → (e : Dataset) → entries e ≡ pre ++ left ++ post → Outcome d k (Some e) (Cleared place to)
whole_bare d k pre es post at are long some more left place to w low high e is =
    let (all, less) = cleared_long at es left place to w in
    let starts = w.starts in
    let stops = w.stops in
    let count = ap length are ∙ length-append (pre ++ es) post in
    let front = length-append pre es in
    let wide = cleared_back post 0 (pre ++ es) (pre ++ left) place to (cleared_front pre 0 at es left place to (omega arith) w) in
    let short = ap length is ∙ length-append (pre ++ left) post in
    let front' = length-append pre left in
    done_bare (record { first = omega arith; low = low; high = high; last = omega arith }) (is ∙ sym (ap (applied (Cleared place to)) are ∙ applied_bare (pre ++ es ++ post) (pre ++ left ++ post) place to wide)) (omega arith)

module _ (d : Dataset) (k : ℕ) where
  outcome_header : (o : Option Structures) (x : Edit) → AgreeIn 1 1 k d.header o x → Outcome d k (then o (λ header. Some (record { header = header; records = d.records }))) x
  outcome_header o x both_held = not_done
  outcome_header o x (both_out {x = header} {from = from} {to = to} w low high) =
      let e : Dataset = record { header = header; records = d.records } in
      let head : Entry = entry 0 None HEAD none in
      let last = entry 0 None TRLR none ∷ [] in
      let rest = entries_of d.records in
      whole_out d k (head ∷ []) (entries_at 1 d.header) (rest ++ last) 1 (ap (λ l. head ∷ l) (append_assoc (entries_at 1 d.header) rest last)) refl (omega arith) (omega (arith, length-append rest last)) (entries_at 1 header) from to None w low high e (ap (λ l. head ∷ l) (append_assoc (entries_at 1 header) rest last))
  outcome_header o x (both_bare {x = header} {place = place} {to = to} w none-went low high) =
      let e : Dataset = record { header = header; records = d.records } in
      let head : Entry = entry 0 None HEAD none in
      let last = entry 0 None TRLR none ∷ [] in
      let rest = entries_of d.records in
      whole_bare d k (head ∷ []) (entries_at 1 d.header) (rest ++ last) 1 (ap (λ l. head ∷ l) (append_assoc (entries_at 1 d.header) rest last)) refl (omega arith) (omega (arith, length-append rest last)) (entries_at 1 header) place to w low high e (ap (λ l. head ∷ l) (append_assoc (entries_at 1 header) rest last))

  outcome_records : (o : Option Left) (x : Edit) → AgreeOf (1 + size d.header) k d.records o x → Outcome d k (then o (λ left. Some (settled d.header left))) x
  outcome_records o x both_held = not_done
  outcome_records o x (both_out {x = left} {from = from} {to = to} w low high) =
      let head : Entry = entry 0 None HEAD none in
      let last = entry 0 None TRLR none ∷ [] in
      whole_out d k (head ∷ entries_at 1 d.header) (entries_of d.records) last (1 + size d.header) refl (omega (arith, size_is 1 d.header)) (omega arith) (omega arith) (entries_of left.0) from to left.1 w low high (settled d.header left) (entries_settled d.header left.0 left.1)
  outcome_records o x (both_bare {x = left} {place = place} {to = to} w none-went low high) =
      let head : Entry = entry 0 None HEAD none in
      let last = entry 0 None TRLR none ∷ [] in
      whole_bare d k (head ∷ entries_at 1 d.header) (entries_of d.records) last (1 + size d.header) refl (omega (arith, size_is 1 d.header)) (omega arith) (omega arith) (entries_of left.0) place to w low high (settled d.header left) (entries_settled d.header left.0 left.1 ∙ ap (λ o. voided_by o (entries (settled d.header (left.0, None)))) none-went)

pub outcome : (m : Meaning) (d : Dataset) (k : ℕ) → 1 ≤ k → k + 1 < card_count d → Outcome d k (removed m d k) (edit m d k)
outcome m d k low high =
    let c : Context = below m Top HEAD in
    let h = size d.header in
    elim (cases_lt (k - 1) h) [
      | inl i ↦ subst₂ (Outcome d k) (sym (cond-true (ltb (k - 1) h) _ _ (lt-ltb (k - 1) h i))) (sym (cond-true (ltb k (1 + h)) _ _ (lt-ltb k (1 + h) (omega arith)))) (outcome_header d k _ _ (agree_in m c (types_of m c d.header) d.header 1 1 (k - 1) k (omega arith) i))
      | inr i ↦
          let mine = size_is 1 d.header in
          let tops_long = length-append (entries_at 1 d.header) (entries_of d.records) in
          let all = length-append (entries_of (tops d)) (entry 0 None TRLR none ∷ []) in
          subst₂ (Outcome d k) (sym (cond-false (ltb (k - 1) h) _ _ (le-ltb (k - 1) h i))) (sym (cond-false (ltb k (1 + h)) _ _ (le-ltb k (1 + h) (omega arith)))) (outcome_records d k _ _ (agree_of m (top_types m (tops d)) d.records (1 + h) (k - 1 - h) k (omega arith) (omega arith)))
    ]

-- The statements

outcome_held : (d : Dataset) (k : ℕ) (o : Option Dataset) (x : Edit) → Outcome d k o x → o ≡ None → x ≡ Withheld
outcome_held d k o x not_done e = refl
outcome_held d k o x (done_out {e = left} r is n) e = never left (sym e)
outcome_held d k o x (done_bare {e = left} r is n) e = never left (sym e)

outcome_none : (d : Dataset) (k : ℕ) (o : Option Dataset) (x : Edit) → Outcome d k o x → x ≡ Withheld → o ≡ None
outcome_none d k o x not_done e = refl
outcome_none d k o x (done_out {from = from} {to = to} r is n) e = let z : ◌≡◌ {A = ℕ} 0 1 = cc in absurd (omega arith)
outcome_none d k o x (done_bare {place = place} {to = to} r is n) e = let z : ◌≡◌ {A = ℕ} 0 1 = cc in absurd (omega arith)

outcome_entries : (d : Dataset) (k : ℕ) (o : Option Dataset) (x : Edit) → Outcome d k o x → (e : Dataset) → o ≡ Some e → (entries e ≡ applied x (entries d)) × (card_count e + dropped x ≡ card_count d)
outcome_entries d k o x not_done e is = never e is
outcome_entries d k o x (done_out {e = left} r laid n) e is = let same : left ≡ e = cc in subst (λ f. (entries f ≡ applied x (entries d)) × (card_count f + dropped x ≡ card_count d)) same (laid, n)
outcome_entries d k o x (done_bare {e = left} r laid n) e is = let same : left ≡ e = cc in subst (λ f. (entries f ≡ applied x (entries d)) × (card_count f + dropped x ≡ card_count d)) same (laid, n)

outcome_out : (d : Dataset) (k : ℕ) (o : Option Dataset) (x : Edit) → Outcome d k o x → (from to : ℕ) → x ≡ Deleted from to → Reach d k from to
outcome_out d k o x not_done from to is = let z : ◌≡◌ {A = ℕ} 0 1 = cc in absurd (omega arith)
outcome_out d k o x (done_out {from = a} {to = b} r laid n) from to is = let p : a ≡ from = cc in let q : b ≡ to = cc in subst₂ (Reach d k) p q r
outcome_out d k o x (done_bare {place = a} {to = b} r laid n) from to is = let z : ◌≡◌ {A = ℕ} 0 1 = cc in absurd (omega arith)

outcome_bare : (d : Dataset) (k : ℕ) (o : Option Dataset) (x : Edit) → Outcome d k o x → (place to : ℕ) → x ≡ Cleared place to → Reach d k place to
outcome_bare d k o x not_done place to is = let z : ◌≡◌ {A = ℕ} 0 1 = cc in absurd (omega arith)
outcome_bare d k o x (done_out {from = a} {to = b} r laid n) place to is = let z : ◌≡◌ {A = ℕ} 0 1 = cc in absurd (omega arith)
outcome_bare d k o x (done_bare {place = a} {to = b} r laid n) place to is = let p : a ≡ place = cc in let q : b ≡ to = cc in subst₂ (Reach d k) p q r

module _ (m : Meaning) (d : Dataset) (k : ℕ) (low : 1 ≤ k) (high : k + 1 < card_count d) where
  -- a removal is held just where its edit is
  pub held_edit : removed m d k ≡ None → edit m d k ≡ Withheld
  held_edit is = outcome_held d k (removed m d k) (edit m d k) (outcome m d k low high) is

  pub edit_held : edit m d k ≡ Withheld → removed m d k ≡ None
  edit_held is = outcome_none d k (removed m d k) (edit m d k) (outcome m d k low high) is

  -- else the edit gives the entries of what is left, and their number
  pub edit_entries : (e : Dataset) → removed m d k ≡ Some e → entries e ≡ applied (edit m d k) (entries d)
  edit_entries e is = (outcome_entries d k (removed m d k) (edit m d k) (outcome m d k low high) e is).0

  pub edit_count : (e : Dataset) → removed m d k ≡ Some e → card_count d - card_count e ≡ dropped (edit m d k)
  edit_count e is = omega (arith, (outcome_entries d k (removed m d k) (edit m d k) (outcome m d k low high) e is).1)

  -- it reaches neither the header's entry nor the trailer's
  pub deleted_reach : (from to : ℕ) → edit m d k ≡ Deleted from to → Reach d k from to
  deleted_reach from to is = outcome_out d k (removed m d k) (edit m d k) (outcome m d k low high) from to is

  pub cleared_reach : (place to : ℕ) → edit m d k ≡ Cleared place to → Reach d k place to
  cleared_reach place to is = outcome_bare d k (removed m d k) (edit m d k) (outcome m d k low high) place to is
