-- Cards to which the edit of a removal is done hold what it leaves. Assumes nothing.
use Rattle.std.proofs.Common.{◌≡◌, ℕ, zero, suc, ◌+◌, ◌-◌, ◌<◌, ◌≤◌, Bool, true, false, cond, ◌||◌, eqb, leb, List, [], ◌∷◌, ◌++◌, map, length, get_or, take, drop, set, replicate, Some, None, Option, sym, refl, ap, ◌∙◌, subst, ap₂, append_assoc, arith, length-append, length-drop, length-set, length-take, length-take-le, get_or-drop, get_or-take, get_or-append-add}
use mathlib.Core.List.{map-append}
use lib.ListN.{length-replicate, get_or-append}
use lib.Seq.{take-append-le, drop-append-le, set-append_left, map-set_same}
use Rattle.std.specs.List.{AllByRecursion}
use Rattle.std.proofs.ByRecursion.{All-append, All-take, All-drop}
use Rattle.std.proofs.lemmas.List.{take-map, drop-map}
use Rattle.std.proofs.lemmas.Bool.{cond-false, or_from, ne_eqb, lt-leb}
use Rattle.std.specs.Str.{bytes_eq}
use Rattle.model.specs.declared.Card.{Card}
use Rattle.model.specs.declared.State.{State}
use Rattle.model.specs.declared.State.TheVariants.{Filed, Voided, Emptied, Blank}
use Rattle.model.specs.declared.Edit.{Edit}
use Rattle.model.specs.declared.Edit.TheVariants.{Withheld, Deleted, Cleared}
use Rattle.model.specs.Books.{Meaning}
use Rattle.model.specs.Datasets.{Payload, none, text, void, pointer, Dataset, IsDataset, Entry, entry, entries}
use Rattle.model.specs.Files.{Placed}
use Rattle.model.specs.Cards.{blank, Blanks, Points, after, Allowed, Files, FilesAll, Rising, Holds}
use Rattle.model.specs.Removal.{without_content, voided_payload, card_count, removed}
use Rattle.model.specs.Runs.{Reply, refused, number, after_removal, remove_reply}
use Rattle.model.specs.Edits.{edit, without, no_entry, no_card, voided_entry, emptied_entry, went, voided_by, applied, voided_card, marked_card, marked, marked_by, emptied_card, applied_cards, edit_reply}
use Rattle.model.proofs.Cuts.{never, all_cuts}
use Rattle.model.proofs.Shaping.{cut_dataset}
use Rattle.model.proofs.Drawers.{files_long}
use Rattle.model.proofs.Edits.{Outcome, not_done, done_out, done_bare, outcome}

-- One card

filed_points : (s : State) (filed p : Payload) → Allowed s filed → p ≡ after s filed → Points p → Points filed
filed_points Filed filed p a shows points = subst Points shows points
filed_points Voided filed p a shows points = a
filed_points Emptied filed p a shows points = absurd (subst Points shows points)
filed_points Blank filed p a shows points = absurd a

filed_no_pointer : (s : State) (filed p : Payload) → Allowed s filed → p ≡ after s filed → (Points p → ⊥) → Points filed → ⊥
filed_no_pointer Filed filed p a shows other points = other (subst Points (sym shows) points)
filed_no_pointer Voided filed p a shows other points = other (subst Points (sym shows) tt)
filed_no_pointer Emptied filed p a shows other points = a points
filed_no_pointer Blank filed p a shows other points = a

module _ (ps : List Placed) (c : Card) (e : Entry) (f : Files ps c e) where
  files_marked_card : (i : List ℕ) → Files ps (marked_card i e.payload c) (voided_entry i e)
  files_marked_card i = go e.payload f.shows
    where
      go : (p : Payload) → p ≡ after c.state f.filed → Files ps (marked_card i p c) (entry e.level e.identifier e.tag (voided_payload i p))
      go none shows = record { filed = f.filed; stands = f.stands; allowed = f.allowed; shows = shows }
      go (text t more) shows = record { filed = f.filed; stands = f.stands; allowed = f.allowed; shows = shows }
      go void shows = record { filed = f.filed; stands = f.stands; allowed = f.allowed; shows = shows }
      go (pointer j) shows = here (bytes_eq i j)
        where
          here : (b : Bool) → Files ps (cond b (voided_card c) c) (entry e.level e.identifier e.tag (cond b void (pointer j)))
          here true = record { filed = f.filed; stands = f.stands; allowed = filed_points c.state f.filed (pointer j) f.allowed shows tt; shows = refl }
          here false = record { filed = f.filed; stands = f.stands; allowed = f.allowed; shows = shows }

  files_emptied_card : Files ps (emptied_card e.payload c) (emptied_entry e)
  files_emptied_card = go e.payload f.shows
    where
      go : (p : Payload) → p ≡ after c.state f.filed → Files ps (emptied_card p c) (entry e.level e.identifier e.tag (without_content p))
      go none shows = record { filed = f.filed; stands = f.stands; allowed = filed_no_pointer c.state f.filed none f.allowed shows (λ points. points); shows = refl }
      go (text t more) shows = record { filed = f.filed; stands = f.stands; allowed = filed_no_pointer c.state f.filed (text t more) f.allowed shows (λ points. points); shows = refl }
      go void shows = record { filed = f.filed; stands = f.stands; allowed = filed_points c.state f.filed void f.allowed shows tt; shows = refl }
      go (pointer j) shows = record { filed = f.filed; stands = f.stands; allowed = filed_points c.state f.filed (pointer j) f.allowed shows tt; shows = refl }

-- All of them

module _ (ps : List Placed) where
  files_take : (n : ℕ) (cs : List Card) (es : List Entry) → FilesAll ps cs es → FilesAll ps (take n cs) (take n es)
  files_take zero cs es f = tt
  files_take (suc n) [] [] f = tt
  files_take (suc n) [] (e ∷ es) f = absurd f
  files_take (suc n) (c ∷ cs) [] f = absurd f
  files_take (suc n) (c ∷ cs) (e ∷ es) f = (f.0, files_take n cs es f.1)

  files_drop : (n : ℕ) (cs : List Card) (es : List Entry) → FilesAll ps cs es → FilesAll ps (drop n cs) (drop n es)
  files_drop zero cs es f = f
  files_drop (suc n) [] [] f = tt
  files_drop (suc n) [] (e ∷ es) f = absurd f
  files_drop (suc n) (c ∷ cs) [] f = absurd f
  files_drop (suc n) (c ∷ cs) (e ∷ es) f = files_drop n cs es f.1

  files_append : (cs : List Card) (es : List Entry) (ds : List Card) (fs : List Entry) → FilesAll ps cs es → FilesAll ps ds fs → FilesAll ps (cs ++ ds) (es ++ fs)
  files_append [] [] ds fs f g = g
  files_append [] (e ∷ es) ds fs f g = absurd f
  files_append (c ∷ cs) [] ds fs f g = absurd f
  files_append (c ∷ cs) (e ∷ es) ds fs f g = (f.0, files_append cs es ds fs f.1 g)

  pub files_without : (from to : ℕ) (cs : List Card) (es : List Entry) → FilesAll ps cs es → FilesAll ps (without from to cs) (without from to es)
  files_without from to cs es f = files_append (take from cs) (take from es) (drop to cs) (drop to es) (files_take from cs es f) (files_drop to cs es f)

  files_marked : (i : List ℕ) (cs : List Card) (es : List Entry) → FilesAll ps cs es → FilesAll ps (marked i es cs) (map (voided_entry i) es)
  files_marked i [] [] f = tt
  files_marked i [] (e ∷ es) f = absurd f
  files_marked i (c ∷ cs) [] f = absurd f
  files_marked i (c ∷ cs) (e ∷ es) f = (files_marked_card ps c e f.0 i, files_marked i cs es f.1)

  files_marked_by : (who : Option (List ℕ)) (cs : List Card) (es : List Entry) → FilesAll ps cs es → FilesAll ps (marked_by who es cs) (voided_by who es)
  files_marked_by None cs es f = f
  files_marked_by (Some i) cs es f = files_marked i cs es f

  files_emptied : (n : ℕ) (cs : List Card) (es : List Entry) → FilesAll ps cs es → FilesAll ps (set cs n (emptied_card (get_or es n no_entry).payload (get_or cs n no_card))) (set es n (emptied_entry (get_or es n no_entry)))
  files_emptied n [] [] f = tt
  files_emptied n [] (e ∷ es) f = absurd f
  files_emptied n (c ∷ cs) [] f = absurd f
  files_emptied zero (c ∷ cs) (e ∷ es) f = (files_emptied_card ps c e f.0, f.1)
  files_emptied (suc n) (c ∷ cs) (e ∷ es) f = (f.0, files_emptied n cs es f.1)

voided_without : (who : Option (List ℕ)) (from to : ℕ) (es : List Entry) → without from to (voided_by who es) ≡ voided_by who (without from to es)
voided_without None from to es = refl
voided_without (Some i) from to es = ap₂ (λ x y. x ++ y) (take-map (voided_entry i) from es) (drop-map (voided_entry i) to es) ∙ sym (map-append (voided_entry i) (take from es) (drop to es))

-- Rising bytes

abbrev bytes : List Card → List ℕ
bytes cs = map (λ c. c.byte) cs

abbrev Climbs : List ℕ → Type 0
Climbs [] = Unit {0}
Climbs (b ∷ bs) = AllByRecursion (λ x. b < x) bs × Climbs bs

lower : (a b : ℕ) (bs : List ℕ) → a < b → AllByRecursion (λ x. b < x) bs → AllByRecursion (λ x. a < x) bs
lower a b [] h above = tt
lower a b (x ∷ bs) h above = (omega (arith, above.0), lower a b bs h above.1)

rising_climbs : (cs : List Card) → Rising cs → Climbs (bytes cs)
rising_climbs [] r = tt
rising_climbs (c ∷ []) r = (tt, tt)
rising_climbs (c ∷ d ∷ cs) r = let more = rising_climbs (d ∷ cs) r.1 in ((r.0, lower c.byte d.byte (bytes cs) r.0 more.0), more)

climbs_rising : (cs : List Card) → Climbs (bytes cs) → Rising cs
climbs_rising [] r = tt
climbs_rising (c ∷ []) r = tt
climbs_rising (c ∷ d ∷ cs) r = (r.0.0, climbs_rising (d ∷ cs) r.1)

climbs_drop : (n : ℕ) (bs : List ℕ) → Climbs bs → Climbs (drop n bs)
climbs_drop zero bs r = r
climbs_drop (suc n) [] r = tt
climbs_drop (suc n) (b ∷ bs) r = climbs_drop n bs r.1

climbs_without : (from to : ℕ) (bs : List ℕ) → from ≤ to → Climbs bs → Climbs (without from to bs)
climbs_without zero to bs h r = climbs_drop to bs r
climbs_without (suc from) zero bs h r = absurd (omega arith)
climbs_without (suc from) (suc to) [] h r = tt
climbs_without (suc from) (suc to) (b ∷ bs) h r =
    (All-append (λ x. b < x) (take from bs) (drop to bs) (All-take (λ x. b < x) from bs r.0) (All-drop (λ x. b < x) to bs r.0), climbs_without from to bs (omega arith) r.1)

bytes_without : (from to : ℕ) (cs : List Card) → bytes (without from to cs) ≡ without from to (bytes cs)
bytes_without from to cs = map-append (λ c. c.byte) (take from cs) (drop to cs) ∙ ap₂ (λ x y. x ++ y) (sym (take-map (λ c. c.byte) from cs)) (sym (drop-map (λ c. c.byte) to cs))

-- cards with the same bytes, without some of them
rising_without : (from to : ℕ) (cs ds : List Card) → from ≤ to → bytes ds ≡ bytes cs → Rising cs → Rising (without from to ds)
rising_without from to cs ds h same_bytes r =
    climbs_rising (without from to ds) (subst Climbs (ap (without from to) (sym same_bytes) ∙ sym (bytes_without from to ds)) (climbs_without from to (bytes cs) h (rising_climbs cs r)))

bytes_marked_card : (i : List ℕ) (p : Payload) (c : Card) → (marked_card i p c).byte ≡ c.byte
bytes_marked_card i none c = refl
bytes_marked_card i (text t more) c = refl
bytes_marked_card i void c = refl
bytes_marked_card i (pointer j) c = go (bytes_eq i j)
  where
    go : (b : Bool) → (cond b (voided_card c) c).byte ≡ c.byte
    go true = refl
    go false = refl

bytes_marked : (i : List ℕ) (es : List Entry) (cs : List Card) → bytes (marked i es cs) ≡ bytes cs
bytes_marked i [] cs = refl
bytes_marked i (e ∷ es) [] = refl
bytes_marked i (e ∷ es) (c ∷ cs) = ap₂ (λ b bs. b ∷ bs) (bytes_marked_card i e.payload c) (bytes_marked i es cs)

bytes_marked_by : (who : Option (List ℕ)) (es : List Entry) (cs : List Card) → bytes (marked_by who es cs) ≡ bytes cs
bytes_marked_by None es cs = refl
bytes_marked_by (Some i) es cs = bytes_marked i es cs

-- The blank cards behind them

without_append : {A : Type 0} (from to : ℕ) (xs ys : List A) → from ≤ to → to ≤ length xs → without from to (xs ++ ys) ≡ without from to xs ++ ys
without_append from to xs ys order inside = ap₂ (λ x y. x ++ y) (take-append-le from xs ys (omega arith)) (drop-append-le to xs ys inside) ∙ sym (append_assoc (take from xs) (drop to xs) ys)

pub length_without : {A : Type 0} (from to : ℕ) (xs : List A) → from ≤ to → to ≤ length xs → length (without from to xs) + (to - from) ≡ length xs
length_without from to xs order inside = omega (arith, length-append (take from xs) (drop to xs), length-take from xs, length-drop to xs)

marked_append : (i : List ℕ) (es : List Entry) (cs ds : List Card) → length cs ≡ length es → marked i es (cs ++ ds) ≡ marked i es cs ++ ds
marked_append i [] [] ds long = refl
marked_append i [] (c ∷ cs) ds long = absurd (omega arith)
marked_append i (e ∷ es) [] ds long = absurd (omega arith)
marked_append i (e ∷ es) (c ∷ cs) ds long = ap (λ l. marked_card i e.payload c ∷ l) (marked_append i es cs ds (omega arith))

marked_by_append : (who : Option (List ℕ)) (es : List Entry) (cs ds : List Card) → length cs ≡ length es → marked_by who es (cs ++ ds) ≡ marked_by who es cs ++ ds
marked_by_append None es cs ds long = refl
marked_by_append (Some i) es cs ds long = marked_append i es cs ds long

pub length_marked : (i : List ℕ) (es : List Entry) (cs : List Card) → length (marked i es cs) ≡ length cs
length_marked i [] cs = refl
length_marked i (e ∷ es) [] = refl
length_marked i (e ∷ es) (c ∷ cs) = ap suc (length_marked i es cs)

length_marked_by : (who : Option (List ℕ)) (es : List Entry) (cs : List Card) → length (marked_by who es cs) ≡ length cs
length_marked_by None es cs = refl
length_marked_by (Some i) es cs = length_marked i es cs

blanks_replicate : (n : ℕ) → Blanks (replicate n blank)
blanks_replicate zero = tt
blanks_replicate (suc n) = (refl, blanks_replicate n)

-- The drawer

module _ (file : List ℕ) (cards : List Card) (d : Dataset) (h : Holds file cards d) where
  named_long : length h.named ≡ card_count d
  named_long = files_long h.placed h.named (entries d) h.files

  pub held_room : card_count d ≤ length cards
  held_room = omega (arith, named_long, ap length h.are, length-append h.named h.blanks)

  -- some cards with the bytes of those that name lines take their place, but for those from one position up to another
  holds_changed : (e : Dataset) (ds : List Card) (from to : ℕ) → from ≤ to → to ≤ card_count d → IsDataset e → bytes ds ≡ bytes h.named → length ds ≡ length h.named → FilesAll h.placed (without from to ds) (entries e) → Holds file (without from to (ds ++ h.blanks) ++ replicate (to - from) blank) e
  holds_changed e ds from to order inside is same_bytes long files = record {
    placed = h.placed;
    passes = h.passes;
    named = without from to ds;
    blanks = h.blanks ++ replicate (to - from) blank;
    are = ap (λ l. l ++ replicate (to - from) blank) (without_append from to ds h.blanks order (omega (arith, named_long))) ∙ append_assoc (without from to ds) h.blanks (replicate (to - from) blank);
    few = omega (arith, length_without from to ds order (omega (arith, named_long)), h.few);
    rest_blank = All-append (λ c. c ≡ blank) h.blanks (replicate (to - from) blank) h.rest_blank (blanks_replicate (to - from));
    rising = rising_without from to h.named ds order same_bytes h.rising;
    files = files;
    is = is;
  }

  module _ (e : Dataset) (is : IsDataset e) where
    holds_out : (from to : ℕ) → from ≤ to → to ≤ card_count d → entries e ≡ applied (Deleted from to) (entries d) → Holds file (applied_cards (Deleted from to) (entries d) cards) e
    holds_out from to order inside laid =
        let es = entries d in
        let who = went es from in
        let ds = marked_by who es h.named in
        let cards_are : marked_by who es cards ≡ ds ++ h.blanks = ap (marked_by who es) h.are ∙ marked_by_append who es h.named h.blanks named_long in
        let files : FilesAll h.placed (without from to ds) (entries e) = subst (FilesAll h.placed (without from to ds)) (voided_without who from to es ∙ sym laid) (files_without h.placed from to ds (voided_by who es) (files_marked_by h.placed who h.named es h.files)) in
        subst (λ l. Holds file (without from to l ++ replicate (to - from) blank) e) (sym cards_are) (holds_changed e ds from to order inside is (bytes_marked_by who es h.named) (length_marked_by who es h.named) files)

    holds_bare : (place to : ℕ) → place < to → to ≤ card_count d → entries e ≡ applied (Cleared place to) (entries d) → Holds file (applied_cards (Cleared place to) (entries d) cards) e
    holds_bare place to order inside laid =
        let es = entries d in
        let p = (get_or es place no_entry).payload in
        let ds = set h.named place (emptied_card p (get_or h.named place no_card)) in
        let there : place < length h.named = omega (arith, named_long) in
        let cards_are : set cards place (emptied_card p (get_or cards place no_card)) ≡ ds ++ h.blanks = ap (λ l. set l place (emptied_card p (get_or l place no_card))) h.are ∙ ap (λ c. set (h.named ++ h.blanks) place (emptied_card p c)) (get_or-append h.named h.blanks no_card place there) ∙ set-append_left h.named h.blanks place (emptied_card p (get_or h.named place no_card)) there in
        let files : FilesAll h.placed (without (place + 1) to ds) (entries e) = subst (FilesAll h.placed (without (place + 1) to ds)) (sym laid) (files_without h.placed (place + 1) to ds (set es place (emptied_entry (get_or es place no_entry))) (files_emptied h.placed place h.named es h.files)) in
        subst (λ l. Holds file (without (place + 1) to l ++ replicate (to - (place + 1)) blank) e) (sym cards_are) (holds_changed e ds (place + 1) to (omega arith) inside is (map-set_same (λ c. c.byte) h.named place (emptied_card p (get_or h.named place no_card)) no_card refl) (length-set h.named place (emptied_card p (get_or h.named place no_card))) files)

  holds_outcome : (k : ℕ) (o : Option Dataset) (x : Edit) → Outcome d k o x → (e : Dataset) → o ≡ Some e → IsDataset e → Holds file (applied_cards x (entries d) cards) e
  holds_outcome k o x not_done e is good = never e is
  holds_outcome k o x (done_out {e = left} {from = from} {to = to} r laid n) e is good = let same : left ≡ e = cc in holds_out e good from to (omega (arith, r)) (omega (arith, r)) (ap entries (sym same) ∙ laid)
  holds_outcome k o x (done_bare {e = left} {place = place} {to = to} r laid n) e is good = let same : left ≡ e = cc in holds_bare e good place to (omega (arith, r)) (omega (arith, r)) (ap entries (sym same) ∙ laid)

  long_outcome : (k : ℕ) (o : Option Dataset) (x : Edit) → Outcome d k o x → length (applied_cards x (entries d) cards) ≡ length cards
  long_outcome k o x not_done = refl
  long_outcome k o x (done_out {from = from} {to = to} r laid n) =
      let ds = marked_by (went (entries d) from) (entries d) cards in
      let long = length_marked_by (went (entries d) from) (entries d) cards in
      let room = held_room in
      length-append (without from to ds) (replicate (to - from) blank) ∙ omega (arith, length-replicate (to - from) blank, length_without from to ds (omega arith) (omega arith))
  long_outcome k o x (done_bare {place = place} {to = to} r laid n) =
      let v = emptied_card (get_or (entries d) place no_entry).payload (get_or cards place no_card) in
      let ds = set cards place v in
      let long = length-set cards place v in
      let room = held_room in
      length-append (without (place + 1) to ds) (replicate (to - (place + 1)) blank) ∙ omega (arith, length-replicate (to - (place + 1)) blank, length_without (place + 1) to ds (omega arith) (omega arith))

  module _ (m : Meaning) (k : ℕ) (low : 1 ≤ k) (high : k + 1 < card_count d) where
    pub holds_edited : (e : Dataset) → removed m d k ≡ Some e → Holds file (applied_cards (edit m d k) (entries d) cards) e
    holds_edited e is = holds_outcome k (removed m d k) (edit m d k) (outcome m d k low high) e is (cut_dataset m d h.is (all_cuts m d e k is))

    pub long_edited : length (applied_cards (edit m d k) (entries d) cards) ≡ length cards
    long_edited = long_outcome k (removed m d k) (edit m d k) (outcome m d k low high)

-- What a removal in range answers and leaves, by its edit

reply_outcome : (d : Dataset) (k : ℕ) (o : Option Dataset) (x : Edit) → Outcome d k o x → elim o as (λ _. Reply) [ None ↦ refused 23 | Some e ↦ number (card_count d - card_count e) ] ≡ edit_reply x
reply_outcome d k o x not_done = refl
reply_outcome d k o x (done_out {e = e} {from = from} {to = to} r laid n) = ap number (omega (arith, r))
reply_outcome d k o x (done_bare {e = e} {place = place} {to = to} r laid n) = ap number (omega (arith, r))

in_range : (d : Dataset) (k : ℕ) → 1 ≤ k → k + 1 < card_count d → (eqb k 0 || leb (card_count d) (k + 1)) ≡ false
in_range d k low high = or_from (eqb k 0) (leb (card_count d) (k + 1)) (ne_eqb k 0 (λ e. omega arith)) (lt-leb (card_count d) (k + 1) high)

pub reply_edited : (m : Meaning) (d : Dataset) (k : ℕ) → 1 ≤ k → k + 1 < card_count d → remove_reply m d k ≡ edit_reply (edit m d k)
reply_edited m d k low high = cond-false (eqb k 0 || leb (card_count d) (k + 1)) (refused 22) _ (in_range d k low high) ∙ reply_outcome d k (removed m d k) (edit m d k) (outcome m d k low high)

pub holds_after : (file : List ℕ) (cards : List Card) (d : Dataset) → Holds file cards d → (m : Meaning) (k : ℕ) → 1 ≤ k → k + 1 < card_count d → Holds file (applied_cards (edit m d k) (entries d) cards) (after_removal m d k)
holds_after file cards d h m k low high = subst (Holds file (applied_cards (edit m d k) (entries d) cards)) (sym (cond-false (eqb k 0 || leb (card_count d) (k + 1)) d _ (in_range d k low high))) (go (removed m d k) refl)
  where
    held : (o : Option Dataset) (x : Edit) → Outcome d k o x → o ≡ None → Holds file (applied_cards x (entries d) cards) d
    held o x not_done e = h
    held o x (done_out {e = left} r laid n) e = never left (sym e)
    held o x (done_bare {e = left} r laid n) e = never left (sym e)

    go : (o : Option Dataset) → removed m d k ≡ o → Holds file (applied_cards (edit m d k) (entries d) cards) (elim o as (λ _. Dataset) [ None ↦ d | Some e ↦ e ])
    go None is = held (removed m d k) (edit m d k) (outcome m d k low high) is
    go (Some e) is = holds_edited file cards d h m k low high e is

-- For a loop over the cards

-- each card by itself, those behind the entries too
pub marked_at : (i : List ℕ) (es : List Entry) (cs : List Card) (n : ℕ) → n < length cs → get_or (marked i es cs) n no_card ≡ marked_card i (get_or es n no_entry).payload (get_or cs n no_card)
marked_at i [] cs n inside = refl
marked_at i (e ∷ es) [] n inside = absurd (omega arith)
marked_at i (e ∷ es) (c ∷ cs) zero inside = refl
marked_at i (e ∷ es) (c ∷ cs) (suc n) inside = marked_at i es cs n (omega arith)

-- the range may go first
marked_take : (i : List ℕ) (n : ℕ) (es : List Entry) (cs : List Card) → take n (marked i es cs) ≡ marked i (take n es) (take n cs)
marked_take i zero es cs = refl
marked_take i (suc n) [] cs = refl
marked_take i (suc n) (e ∷ es) [] = refl
marked_take i (suc n) (e ∷ es) (c ∷ cs) = ap (λ l. marked_card i e.payload c ∷ l) (marked_take i n es cs)

marked_drop : (i : List ℕ) (n : ℕ) (es : List Entry) (cs : List Card) → drop n (marked i es cs) ≡ marked i (drop n es) (drop n cs)
marked_drop i zero es cs = refl
marked_drop i (suc n) [] cs = refl
marked_drop i (suc n) (e ∷ es) [] = go (drop n es)
  where
    go : (fs : List Entry) → ◌≡◌ {A = List Card} [] (marked i fs [])
    go [] = refl
    go (f ∷ fs) = refl
marked_drop i (suc n) (e ∷ es) (c ∷ cs) = marked_drop i n es cs

marked_join : (i : List ℕ) (es fs : List Entry) (cs ds : List Card) → length cs ≡ length es → marked i (es ++ fs) (cs ++ ds) ≡ marked i es cs ++ marked i fs ds
marked_join i [] fs [] ds long = refl
marked_join i [] fs (c ∷ cs) ds long = absurd (omega arith)
marked_join i (e ∷ es) fs [] ds long = absurd (omega arith)
marked_join i (e ∷ es) fs (c ∷ cs) ds long = ap (λ l. marked_card i e.payload c ∷ l) (marked_join i es fs cs ds (omega arith))

pub marked_without : (i : List ℕ) (from to : ℕ) (es : List Entry) (cs : List Card) → from ≤ length es → length es ≤ length cs → without from to (marked i es cs) ≡ marked i (without from to es) (without from to cs)
marked_without i from to es cs inside room =
    ap₂ (λ x y. x ++ y) (marked_take i from es cs) (marked_drop i to es cs) ∙ sym (marked_join i (take from es) (drop to es) (take from cs) (drop to cs) (omega (arith, length-take from es, length-take from cs)))

pub without_at_front : {A : Type 0} (from to : ℕ) (xs : List A) (n : ℕ) (d : A) → n < from → from ≤ length xs → get_or (without from to xs) n d ≡ get_or xs n d
without_at_front from to xs n d low inside = get_or-append (take from xs) (drop to xs) d n (omega (arith, length-take from xs)) ∙ get_or-take from xs n d low

pub without_at_back : {A : Type 0} (from to : ℕ) (xs : List A) (n : ℕ) (d : A) → from ≤ length xs → get_or (without from to xs) (from + n) d ≡ get_or xs (to + n) d
without_at_back from to xs n d inside = ap (λ j. get_or (without from to xs) (j + n) d) (sym (length-take-le from xs inside)) ∙ get_or-append-add (take from xs) (drop to xs) n d ∙ get_or-drop to xs n d

-- a removal that is refused for its edit leaves the cards
pub refused_same : (x : Edit) (n : ℕ) (es : List Entry) (cs : List Card) → edit_reply x ≡ refused n → applied_cards x es cs ≡ cs
refused_same Withheld n es cs is = refl
refused_same (Deleted from to) n es cs is = let z : ◌≡◌ {A = ℕ} 0 1 = cc in absurd (omega arith)
refused_same (Cleared place to) n es cs is = let z : ◌≡◌ {A = ℕ} 0 1 = cc in absurd (omega arith)

-- a loop that marks the cards one by one has done so to the first j
marked_next : (i : List ℕ) (es : List Entry) (cs : List Card) (j : ℕ) → j < length es → set (marked i (take j es) cs) j (marked_card i (get_or es j no_entry).payload (get_or cs j no_card)) ≡ marked i (take (suc j) es) cs
marked_next i [] cs j inside = absurd (omega arith)
marked_next i (e ∷ es) [] zero inside = refl
marked_next i (e ∷ es) [] (suc j) inside = refl
marked_next i (e ∷ es) (c ∷ cs) zero inside = refl
marked_next i (e ∷ es) (c ∷ cs) (suc j) inside = ap (λ l. marked_card i e.payload c ∷ l) (marked_next i es cs j (omega arith))

pub marked_more : (i : List ℕ) (es : List Entry) (cs : List Card) (j : ℕ) → j < length es → set (marked i (take j es) cs) j (marked_card i (get_or es j no_entry).payload (get_or cs j no_card)) ≡ marked i (take (j + 1) es) cs
marked_more i es cs j inside = let one : suc j ≡ j + 1 = omega arith in marked_next i es cs j inside ∙ ap (λ n. marked i (take n es) cs) one

-- and those from j on are as they were
pub marked_ahead : (i : List ℕ) (es : List Entry) (cs : List Card) (j : ℕ) (d : Card) → get_or (marked i (take j es) cs) j d ≡ get_or cs j d
marked_ahead i es cs zero d = refl
marked_ahead i [] cs (suc j) d = refl
marked_ahead i (e ∷ es) [] (suc j) d = refl
marked_ahead i (e ∷ es) (c ∷ cs) (suc j) d = marked_ahead i es cs j d
