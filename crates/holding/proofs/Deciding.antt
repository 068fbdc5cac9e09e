-- Cards that hold a dataset, and what a dataset says of the cards that hold it. Assumes nothing.
use Rattle.std.proofs.Common.{◌≡◌, ℕ, zero, suc, ◌+◌, ◌<◌, ◌≤◌, List, [], ◌∷◌, ◌++◌, map, length, get_or, None, sym, refl, ap, ◌∙◌, subst, append_assoc, arith, length-append}
use lib.ListN.{length-map}
use Rattle.std.specs.List.{AllByRecursion}
use Rattle.std.proofs.lemmas.List.{get_or_at, get_or_default}
use Rattle.model.specs.declared.Card.{Card}
use Rattle.model.specs.declared.State.{State}
use Rattle.model.specs.declared.State.TheVariants.{Filed, Voided, Emptied, Blank}
use Rattle.model.specs.Lines.{Line, nothing, line_of}
use Rattle.model.specs.Datasets.{Dataset, HEAD, TRLR, Payload, none, Entry, entry, entries, first_value, further, continuations, entry_lines, all_lines, lines, OwnTag, IsDataset}
use Rattle.model.specs.Files.{Placed, Lined, Ordered, Throughout, at, Passes}
use Rattle.model.specs.Cards.{blank, Blanks, after, Files, FilesAll, Rising, Holds}
use Rattle.model.specs.Refusals.{lines_of, others_from, others, levels, first, last, steps, named, continued, room, apart, aimed, Keeps12, Keeps13}
use Rattle.model.specs.LineTurns.{placed_at, RulesKept}
use Rattle.model.specs.Index.{card_line}
use Rattle.model.proofs.Drawers.{files_long}
use Rattle.model.proofs.Entries.{all_settled, all_lines_once}
use Rattle.model.proofs.Filing.{files_all_once}
use Rattle.model.proofs.Growing.{Stepping, Shaped, entries_shaped}
use Rattle.model.proofs.Grouping.{lines_dataset}
use Rattle.model.proofs.Names.{every_left}
use Rattle.model.proofs.Ordering.{own_line, framed_lines, entries_framed, dataset_ordered}
use Rattle.model.proofs.Reading.{places, length_places, others_entries}
use Rattle.model.proofs.Walking.{Shallow, framed, framed_ordered}
use Rattle.naming.specs.Naming.{left_by, CardShows, CardsShow}
use Rattle.looking.proofs.Placing.{stood}
use Rattle.holding.specs.Standing.{card, LineOn, OnLine, OnLines, AllowedValue, Fits}
use Rattle.holding.proofs.Keeping.{line_once, there_allowed, Kept}

-- What cards that file entries show

files_at : (ps : List Placed) (cs : List Card) (es : List Entry) → FilesAll ps cs es → (k : ℕ) (x : Entry) → k < length cs → Files ps (card cs k) (get_or es k x)
files_at ps [] [] f k x h = absurd (omega arith)
files_at ps [] (e ∷ es) f k x h = absurd f
files_at ps (c ∷ cs) [] f k x h = absurd f
files_at ps (c ∷ cs) (e ∷ es) f zero x h = f.0
files_at ps (c ∷ cs) (e ∷ es) f (suc k) x h = files_at ps cs es f.1 k x (omega arith)

filed_line : (ps : List Placed) (c : Card) (e : Entry) (f : Files ps c e) → LineOn ps c.byte (line_of e.level e.identifier e.tag (first_value f.filed))
filed_line ps c e f = let t = stood ps c.byte _ f.stands in (t.place, t.within, t.begins, t.line)

filed_on : (ps : List Placed) (c : Card) (e : Entry) → Files ps c e → OnLine ps c.byte
filed_on ps c e f =
    let t = stood ps c.byte _ f.stands in
    (t.place, t.within, t.begins, λ tag. f.stands.no_continuation (sym (ap (λ (l : Line). l.tag) t.line) ∙ tag))

one : (k : ℕ) → suc k + 1 ≡ suc (k + 1)
one k = omega arith

rising_at : (cs : List Card) → Rising cs → (k : ℕ) → k + 1 < length cs → (card cs k).byte < (card cs (k + 1)).byte
rising_at [] r k h = absurd (omega arith)
rising_at (c ∷ []) r k h = absurd (omega arith)
rising_at (c ∷ d ∷ cs) r zero h = r.0
rising_at (c ∷ d ∷ cs) r (suc k) h = subst (λ n. (card (d ∷ cs) k).byte < (card (c ∷ d ∷ cs) n).byte) (sym (one k)) (rising_at (d ∷ cs) r.1 k (omega arith))

rising_from : (cs : List Card) → ((k : ℕ) → k + 1 < length cs → (card cs k).byte < (card cs (k + 1)).byte) → Rising cs
rising_from [] h = tt
rising_from (c ∷ []) h = tt
rising_from (c ∷ d ∷ cs) h = (h 0 (omega arith), rising_from (d ∷ cs) (λ k l. subst (λ n. (card (d ∷ cs) k).byte < (card (c ∷ d ∷ cs) n).byte) (one k) (h (suc k) (omega arith))))

pub filed_on_lines : (ps : List Placed) (cs : List Card) (es : List Entry) → FilesAll ps cs es → Rising cs → OnLines ps cs
filed_on_lines ps cs es f r = record { lines = λ k h. filed_on ps (card cs k) (get_or es k (entry 0 None [] none)) (files_at ps cs es f k (entry 0 None [] none) h); rising = rising_at cs r }

stepping_push : (l : ℕ) (es : List Entry) → Stepping l es → Stepping l (es ++ entry 0 None TRLR none ∷ [])
stepping_push l [] s = (omega arith, tt)
stepping_push l (e ∷ es) s = (s.0, stepping_push e.level es s.1)

step_at : (e : Entry) (es : List Entry) (x : Entry) → Stepping e.level es → (k : ℕ) → k + 1 < length (e ∷ es) → (get_or (e ∷ es) (k + 1) x).level ≤ (get_or (e ∷ es) k x).level + 1
step_at e [] x s k h = absurd (omega arith)
step_at e (f ∷ es) x s zero h = s.0
step_at e (f ∷ es) x s (suc k) h = subst (λ n. (get_or (e ∷ f ∷ es) n x).level ≤ (get_or (f ∷ es) k x).level + 1) (sym (one k)) (step_at f es x s.1 k (omega arith))

nobody : Entry
nobody = entry 0 None [] none

-- the line on a filed card's byte
line_is : (file : List ℕ) (ps : List Placed) (c : Card) (e : Entry) (f : Files ps c e) (m : Line) → Lined file ps → LineOn ps c.byte m → m ≡ line_of e.level e.identifier e.tag (first_value f.filed)
line_is file ps c e f m l on = line_once file ps c.byte m _ l on (filed_line ps c e f)

level_is : (file : List ℕ) (ps : List Placed) (c : Card) (e : Entry) (m : Line) → Files ps c e → Lined file ps → LineOn ps c.byte m → m.level ≡ e.level
level_is file ps c e m f l on = ap (λ (k : Line). k.level) (line_is file ps c e f m l on)

tag_is : (file : List ℕ) (ps : List Placed) (c : Card) (e : Entry) (m : Line) → Files ps c e → Lined file ps → LineOn ps c.byte m → m.tag ≡ e.tag
tag_is file ps c e m f l on = ap (λ (k : Line). k.tag) (line_is file ps c e f m l on)

pub held_fits : (file : List ℕ) (ps : List Placed) (cs : List Card) (d : Dataset) → Lined file ps → FilesAll ps cs (entries d) → IsDataset d → Fits ps cs
held_fits file ps cs d l f is = record {
  some = omega (arith, long, many);
  header = λ m on. let low : 0 < length cs = omega (arith, long, many) in let q = files_at ps cs (entries d) f 0 nobody low in (level_is file ps (card cs 0) _ m q l on, tag_is file ps (card cs 0) _ m q l on);
  each = λ k h. record {
    allowed = λ m on. let q = files_at ps cs (entries d) f k nobody h in subst (λ (n : Line). AllowedValue (card cs k).state n.value) (sym (line_is file ps (card cs k) _ q m l on)) (there_allowed (card cs k).state q.filed q.allowed);
    followed = record {
      step = λ lt m n on on'.
          let a = level_is file ps (card cs k) _ m (files_at ps cs (entries d) f k nobody h) l on in
          let b = level_is file ps (card cs (k + 1)) _ n (files_at ps cs (entries d) f (k + 1) nobody lt) l on' in
          let z = steps_all k (omega (arith, long)) in
          omega arith;
      trailer = λ end m on.
          let q = files_at ps cs (entries d) f k nobody h in
          let e = last_all k (omega (arith, long)) in
          (level_is file ps (card cs k) _ m q l on ∙ ap (λ (x : Entry). x.level) e, tag_is file ps (card cs k) _ m q l on ∙ ap (λ (x : Entry). x.tag) e);
    };
  };
}
  where
    shaped : Shaped (entries d)
    shaped = entries_shaped d is.records_tagged

    long : length cs ≡ length (entries d)
    long = files_long ps cs (entries d) f

    many : length (entries d) ≡ suc (length shaped.middle + 1)
    many = ap length shaped.are ∙ ap suc (length-append shaped.middle (entry 0 None TRLR none ∷ []))

    steps_all : (k : ℕ) → k + 1 < length (entries d) → (get_or (entries d) (k + 1) nobody).level ≤ (get_or (entries d) k nobody).level + 1
    steps_all k h = subst (λ es. (get_or es (k + 1) nobody).level ≤ (get_or es k nobody).level + 1) (sym shaped.are) (step_at (entry 0 None HEAD none) (shaped.middle ++ entry 0 None TRLR none ∷ []) nobody (stepping_push 0 shaped.middle shaped.stepping) k (omega (arith, ap length shaped.are)))

    last_all : (k : ℕ) → k + 1 ≡ length (entries d) → get_or (entries d) k nobody ≡ entry 0 None TRLR none
    last_all k h = ap (λ es. get_or es k nobody) shaped.are ∙ get_or_at (entry 0 None HEAD none ∷ shaped.middle) (entry 0 None TRLR none) [] nobody k (omega (arith, many))

pub ordered_rules : (n : ℕ) (qs : List Placed) → Ordered (lines_of qs) → RulesKept 11 n qs
ordered_rules n qs o levels h i l = o.levels i (omega (arith, length-map qs (λ q. q.line)))
ordered_rules n qs o first h i l = o.first i (omega (arith, length-map qs (λ q. q.line)))
ordered_rules n qs o last h i l = o.last i (omega (arith, length-map qs (λ q. q.line)))
ordered_rules n qs o steps h i l = o.steps i (omega (arith, length-map qs (λ q. q.line)))
ordered_rules n qs o named h i l = o.named i (omega (arith, length-map qs (λ q. q.line)))
ordered_rules n qs o continued h i l = o.continued i (omega (arith, length-map qs (λ q. q.line)))
ordered_rules n qs o room h i l = absurd (omega arith)
ordered_rules n qs o apart h i l = absurd (omega arith)
ordered_rules n qs o aimed h i l = absurd (omega arith)

-- The lines that the cards leave

abbrev pub as_placed : List Line → List Placed
as_placed ls = map (λ l. placed_at 0 l []) ls

lines_back : (ls : List Line) → lines_of (as_placed ls) ≡ ls
lines_back [] = refl
lines_back (l ∷ ls) = ap (λ xs. l ∷ xs) (lines_back ls)

module _ (file : List ℕ) (ps : List Placed) (p : Passes file ps) (cs : List Card) (es : List Entry) (kept : Kept file ps p cs es) (shaped : Shaped es) where
  pub ordered : Ordered (all_lines es)
  ordered =
      let mid = shaped.middle in
      let own = every_left OwnTag mid (entry 0 None TRLR none ∷ []) (subst (AllByRecursion OwnTag) shaped.are kept.own).1 in
      let is : all_lines es ≡ framed (all_lines mid) = ap all_lines shaped.are ∙ framed_lines mid in
      let shallow = every_left Shallow (all_lines mid) _ (subst (AllByRecursion Shallow) is kept.shallow).1 in
      subst Ordered (sym is) (framed_ordered (all_lines mid) (entries_framed mid shaped.stepping shaped.named shaped.tagged own shallow))

  pub kept_rules : (n : ℕ) → RulesKept 11 n (as_placed (all_lines es))
  kept_rules n = ordered_rules n (as_placed (all_lines es)) (subst Ordered (sym (lines_back (all_lines es))) ordered)

  -- one dataset at most has them
  pub same_entries : (d : Dataset) → FilesAll ps cs (entries d) → IsDataset d → es ≡ entries d
  same_entries d f is = files_all_once ps (length p.lined.mark) cs es (entries d) p.lined.placed kept.settled (all_settled d is) kept.files f

  pub holds_names : (d : Dataset) → FilesAll ps cs (entries d) → IsDataset d → Throughout Keeps12 (lines_of (as_placed (all_lines es))) × Throughout Keeps13 (lines_of (as_placed (all_lines es)))
  holds_names d f is =
      let same : lines d ≡ lines_of (as_placed (all_lines es)) = ap all_lines (sym (same_entries d f is)) ∙ sym (lines_back (all_lines es)) in
      let o = dataset_ordered d is in
      (subst (Throughout Keeps12) same o.1, subst (Throughout Keeps13) same o.2)

  pub record Held-dataset (cards blanks : List Card) : Type 0 where
    pub dataset : Dataset
    pub holds : Holds file cards dataset
    pub lines_are : lines_of (as_placed (all_lines es)) ≡ lines dataset
    pub many : length cs ≡ length (entries dataset)

  pub names_hold : (cards blanks : List Card) → OnLines ps cs → cards ≡ cs ++ blanks → length cs ≤ 65535 → Blanks blanks → Throughout Keeps12 (lines_of (as_placed (all_lines es))) → Throughout Keeps13 (lines_of (as_placed (all_lines es))) → Held-dataset cards blanks
  names_hold cards blanks ons are few b k12 k13 =
      let back = lines_back (all_lines es) in
      let (d, is, same) = lines_dataset (all_lines es) kept.fine ordered (subst (Throughout Keeps12) back k12) (subst (Throughout Keeps13) back k13) in
      let entries_are : entries d ≡ es = all_lines_once (entries d) es is.tagged kept.own (all_settled d is) kept.settled same in
      let files = subst (FilesAll ps cs) (sym entries_are) kept.files in
      record {
        dataset = d;
        holds = record { placed = ps; passes = p; named = cs; blanks = blanks; are = are; few = few; rest_blank = b; rising = rising_from cs ons.rising; files = files; is = is };
        lines_are = back ∙ sym same;
        many = files_long ps cs (entries d) files;
      }

-- What the cards show of them

length_continuations : (level : ℕ) (ts : List (List ℕ)) → length (continuations level ts) ≡ length ts
length_continuations level [] = refl
length_continuations level (t ∷ ts) = ap suc (length_continuations level ts)

places_line : (before : List Line) (n : ℕ) (es : List Entry) (k : ℕ) (x : Entry) → length before ≡ n → k < length es → at (before ++ all_lines es) (get_or (places n es) k 0) ≡ own_line (get_or es k x)
places_line before n [] k x b h = absurd (omega arith)
places_line before n (e ∷ es) zero x b h = get_or_at before (own_line e) (continuations (e.level + 1) (further e.payload) ++ all_lines es) (line_of 0 None [] nothing) n b
places_line before n (e ∷ es) (suc k) x b h =
    let long : length (before ++ entry_lines e) ≡ n + 1 + length (further e.payload) = omega (arith, length-append before (entry_lines e), length_continuations (e.level + 1) (further e.payload)) in
    ap (λ ls. at ls (get_or (places (n + 1 + length (further e.payload)) es) k 0)) (sym (append_assoc before (entry_lines e) (all_lines es))) ∙ places_line (before ++ entry_lines e) (n + 1 + length (further e.payload)) es k x long (omega arith)

value_left : (s : State) (p : Payload) → first_value (after s p) ≡ left_by s (first_value p)
value_left Filed p = refl
value_left Voided p = refl
value_left Emptied p = refl
value_left Blank p = refl

pub cards_show : (file : List ℕ) (ps : List Placed) (p : Passes file ps) (cs : List Card) (es : List Entry) → Kept file ps p cs es → CardsShow file cs (as_placed (all_lines es))
cards_show file ps p cs es kept = record {
  many = long ∙ sym (length_places 0 es) ∙ ap length (sym are);
  each = λ k d h. subst (λ c. CardShows file c (card_line (as_placed (all_lines es)) k)) (get_or_default cs k blank d h) (shows k h);
}
  where
    long : length cs ≡ length es
    long = files_long ps cs es kept.files

    are : others (as_placed (all_lines es)) ≡ places 0 es
    are = ap (others_from 0) (lines_back (all_lines es)) ∙ others_entries 0 es kept.own

    own : (k : ℕ) → k < length cs → card_line (as_placed (all_lines es)) k ≡ own_line (get_or es k nobody)
    own k h = (λ i. at (lines_back (all_lines es) i) (get_or (are i) k 0)) ∙ places_line [] 0 es k nobody refl (omega (arith, long))

    shows : (k : ℕ) → k < length cs → CardShows file (card cs k) (card_line (as_placed (all_lines es)) k)
    shows k h =
        let f = files_at ps cs es kept.files k nobody h in
        let t = stood ps (card cs k).byte _ f.stands in
        record {
          placed = ps;
          lined = p.lined;
          place = t.place;
          within = t.within;
          begins = t.begins;
          identifier = ap (λ (l : Line). l.identifier) (own k h) ∙ sym (ap (λ (l : Line). l.identifier) t.line);
          value = ap (λ (l : Line). l.value) (own k h) ∙ ap first_value f.shows ∙ value_left (card cs k).state f.filed ∙ ap (left_by (card cs k).state) (sym (ap (λ (l : Line). l.value) t.line));
        }
