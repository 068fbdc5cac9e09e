-- Cards that name lines in their order, and fit one another, file entries in order. Assumes nothing.
use Rattle.std.proofs.Common.{◌≡◌, ℕ, zero, suc, ◌+◌, ◌<◌, ◌≤◌, List, [], ◌∷◌, ◌++◌, length, None, sym, refl, ap, ◌∙◌, subst, inl, inr, arith}
use lib.ListN.{length-map}
use Rattle.std.specs.List.{AllByRecursion, ContainsAt as Has}
use Rattle.std.specs.Str.{bytes_eq}
use Rattle.std.proofs.ByRecursion.{All-append, All-from_get_or}
use Rattle.std.proofs.lemmas.Slice.Eq.{bytes_eq-Decides}
use Rattle.std.proofs.lemmas.Bool.{cases_lt, cases_order, cond_both}
use Rattle.model.specs.declared.Card.{Card}
use Rattle.model.specs.declared.State.{State}
use Rattle.model.specs.declared.State.TheVariants.{Filed, Voided, Emptied, Blank}
use Rattle.model.specs.Lines.{Line, GoodLine, nothing, line_of}
use Rattle.model.specs.Datasets.{HEAD, TRLR, CONT, Payload, none, text, void, pointer, Entry, entry, text_value, first_value, further, entry_lines, all_lines, OwnTag}
use Rattle.model.specs.Files.{Placed, GoodPlaced, Lined, InPlace, bytes_of, at, IsPointer, Passes}
use Rattle.model.specs.Cards.{blank, Points, after, Allowed, StandsAt, Files, FilesAll}
use Rattle.model.specs.Refusals.{lines_of, byte_at}
use Rattle.model.proofs.Filing.{bytes_positive}
use Rattle.model.proofs.Names.{has_cons, has_here, has_there, every_left, every_right}
use Rattle.model.proofs.Entries.{Settled}
use Rattle.model.proofs.Growing.{Stepping, Named, TopTag, Shaped}
use Rattle.model.proofs.Ordering.{own_line}
use Rattle.model.proofs.Reading.{filed, card_of, files_from}
use Rattle.model.proofs.Walking.{Shallow, head_not_trlr}
use Rattle.looking.proofs.Placing.{Stood, stood}
use Rattle.holding.specs.Standing.{card, LineOn, OnLine, OnLines, AllowedValue, Top, FitsAt, Fits}
use Rattle.holding.proofs.Merging.{later}
use Rattle.holding.proofs.Groups.{ordered_grown}
use Rattle.holding.proofs.Fitted.{line_on}

-- A byte is that of one line

bytes_rise : (from : ℕ) (ps : List Placed) (i j : ℕ) → InPlace from ps → i < j → j < length ps → byte_at ps i < byte_at ps j
bytes_rise from [] i j h l m = absurd (omega arith)
bytes_rise from (p ∷ ps) i zero h l m = absurd (omega arith)
bytes_rise from (p ∷ ps) zero (suc j) h l m = let z = later (from + length (bytes_of p)) ps j h.1 (omega arith) in let e = h.0 in omega (arith, bytes_positive p)
bytes_rise from (p ∷ ps) (suc i) (suc j) h l m = bytes_rise (from + length (bytes_of p)) ps i j h.1 (omega arith) (omega arith)

pub place_once : (file : List ℕ) (ps : List Placed) (i j : ℕ) → Lined file ps → i < length ps → j < length ps → byte_at ps i ≡ byte_at ps j → i ≡ j
place_once file ps i j l h k e = elim (cases_order i j) [
  | inl q ↦ q
  | inr (inl q) ↦ absurd (omega (arith, bytes_rise (length l.mark) ps i j l.placed q k))
  | inr (inr q) ↦ absurd (omega (arith, bytes_rise (length l.mark) ps j i l.placed q h))
]

pub line_once : (file : List ℕ) (ps : List Placed) (b : ℕ) (l m : Line) → Lined file ps → LineOn ps b l → LineOn ps b m → l ≡ m
line_once file ps b l m p (i, h, e, is) (j, k, f, js) = sym is ∙ ap (at (lines_of ps)) (place_once file ps i j p h k (e ∙ sym f)) ∙ js

-- The entry of a line

pub record Good (ps : List Placed) (b : ℕ) (e : Entry) : Type 0 where
  pub files : Files ps (card_of b) e
  pub own : OwnTag e
  pub settled : Settled e.payload
  pub fine : AllByRecursion GoodLine (entry_lines e)
  pub shallow : AllByRecursion Shallow (entry_lines e)

good_lines : (ps : List Placed) → AllByRecursion GoodPlaced ps → AllByRecursion GoodLine (lines_of ps)
good_lines [] g = tt
good_lines (p ∷ ps) g = (g.0.good, good_lines ps g.1)

parts : (P : Line → Type 0) (es : List Entry) → AllByRecursion P (all_lines es) → AllByRecursion (λ e. AllByRecursion P (entry_lines e)) es
parts P [] h = tt
parts P (e ∷ es) h = (every_left P (entry_lines e) (all_lines es) h, parts P es (every_right P (entry_lines e) (all_lines es) h))

filed_has : (ps : List Placed) (i : ℕ) → i < length ps → ((at (lines_of ps) i).tag ≡ CONT → ⊥) → Has (filed ps) (card_of (byte_at ps i))
filed_has [] i h n = absurd (omega arith)
filed_has (p ∷ ps) zero h n = cond_both (bytes_eq p.line.tag CONT) (filed ps) (card_of p.byte ∷ filed ps) (λ cs. Has cs (card_of p.byte)) (λ e. absurd (n ((bytes_eq-Decides p.line.tag CONT).0 e))) (λ e. has_here (card_of p.byte) (filed ps) (card_of p.byte) refl)
filed_has (p ∷ ps) (suc i) h n =
    let there = filed_has ps i (omega arith) n in
    cond_both (bytes_eq p.line.tag CONT) (filed ps) (card_of p.byte ∷ filed ps) (λ cs. Has cs (card_of (byte_at ps i))) (λ e. there) (λ e. has_there (card_of p.byte) (filed ps) (card_of (byte_at ps i)) there)

lookup : (ps : List Placed) (P : Entry → Type 0) (fs : List Card) (es : List Entry) (c : Card) → FilesAll ps fs es → AllByRecursion P es → Has fs c → (e : Entry) × Files ps c e × P e
lookup ps P [] [] c f a h = absurd (let low = h.1 in omega arith)
lookup ps P [] (e ∷ es) c f a h = absurd f
lookup ps P (d ∷ fs) [] c f a h = absurd f
lookup ps P (d ∷ fs) (e ∷ es) c f a h = elim (has_cons d fs c h) [
  | inl q ↦ (e, subst (λ x. Files ps x e) q f.0, a.0)
  | inr q ↦ lookup ps P fs es c f.1 a.1 q
]

both : (P Q : Entry → Type 0) (es : List Entry) → AllByRecursion P es → AllByRecursion Q es → AllByRecursion (λ e. P e × Q e) es
both P Q [] a b = tt
both P Q (e ∷ es) a b = ((a.0, b.0), both P Q es a.1 b.1)

entry_at : (file : List ℕ) (ps : List Placed) (b : ℕ) → Passes file ps → OnLine ps b → (e : Entry) × Good ps b e
entry_at file ps b p (i, h, is, tag) =
    let (es, are, shaped, own, settled) = ordered_grown (lines_of ps) (good_lines ps p.lined.good) p.ordered in
    let files = files_from ps [] ps es refl (sym are) own in
    let fine = parts GoodLine es (subst (AllByRecursion GoodLine) (sym are) (good_lines ps p.lined.good)) in
    let shallow = parts Shallow es (subst (AllByRecursion Shallow) (sym are) (All-from_get_or Shallow (lines_of ps) (line_of 0 None [] nothing) (λ j k. p.ordered.levels j k))) in
    let facts = both (λ e. OwnTag e × Settled e.payload) (λ e. AllByRecursion GoodLine (entry_lines e) × AllByRecursion Shallow (entry_lines e)) es (both OwnTag (λ e. Settled e.payload) es own settled) (both (λ e. AllByRecursion GoodLine (entry_lines e)) (λ e. AllByRecursion Shallow (entry_lines e)) es fine shallow) in
    let (e, f, q) = lookup ps (λ e. (OwnTag e × Settled e.payload) × (AllByRecursion GoodLine (entry_lines e) × AllByRecursion Shallow (entry_lines e))) (filed ps) es (card_of (byte_at ps i)) files facts (filed_has ps i h tag) in
    (e, record { files = subst (λ x. Files ps (card_of x) e) is f; own = q.0.0; settled = q.0.1; fine = q.1.0; shallow = q.1.1 })

-- What a card leaves of it

abbrev pub left_of : Card → Entry → Entry
left_of c e = entry e.level e.identifier e.tag (after c.state e.payload)

text_aims_not : (t : List ℕ) → IsPointer (text_value t) → ⊥
text_aims_not [] h = h
text_aims_not (c ∷ cs) h = h

pub points_there : (p : Payload) → IsPointer (first_value p) → Points p
points_there none h = h
points_there (text t more) h = absurd (text_aims_not t h)
points_there void h = tt
points_there (pointer i) h = tt

pub there_points : (p : Payload) → Points p → IsPointer (first_value p)
there_points none h = h
there_points (text t more) h = absurd h
there_points void h = tt
there_points (pointer i) h = tt

pub allowed_there : (s : State) (p : Payload) → AllowedValue s (first_value p) → Allowed s p
allowed_there Filed p h = tt
allowed_there Voided p h = points_there p h
allowed_there Emptied p h = λ q. h (there_points p q)
allowed_there Blank p h = h

pub there_allowed : (s : State) (p : Payload) → Allowed s p → AllowedValue s (first_value p)
there_allowed Filed p h = tt
there_allowed Voided p h = there_points p h
there_allowed Emptied p h = λ q. h (points_there p q)
there_allowed Blank p h = h

settled_after : (s : State) (p : Payload) → Settled p → Settled (after s p)
settled_after Filed p h = h
settled_after Voided p h = λ e. let z : ◌≡◌ {A = ℕ} 0 1 = cc in omega arith
settled_after Emptied p h = λ e. let z : ◌≡◌ {A = ℕ} 0 1 = cc in omega arith
settled_after Blank p h = h

fine_after : (s : State) (e : Entry) → AllByRecursion GoodLine (entry_lines e) → AllByRecursion GoodLine (entry_lines (entry e.level e.identifier e.tag (after s e.payload)))
fine_after Filed e h = h
fine_after Voided e h = (record { identified = h.0.identified; tagged = h.0.tagged; valued = tt }, tt)
fine_after Emptied e h = (record { identified = h.0.identified; tagged = h.0.tagged; valued = tt }, tt)
fine_after Blank e h = h

shallow_after : (s : State) (e : Entry) → AllByRecursion Shallow (entry_lines e) → AllByRecursion Shallow (entry_lines (entry e.level e.identifier e.tag (after s e.payload)))
shallow_after Filed e h = h
shallow_after Voided e h = (h.0, tt)
shallow_after Emptied e h = (h.0, tt)
shallow_after Blank e h = h

-- the line of a good entry
good_line : (ps : List Placed) (b : ℕ) (e : Entry) → Good ps b e → LineOn ps b (own_line e)
good_line ps b e g =
    let t = stood ps b _ g.files.stands in
    (t.place, t.within, t.begins, t.line ∙ ap (λ p. line_of e.level e.identifier e.tag (first_value p)) (sym g.files.shows))

good_alone : (ps : List Placed) (b : ℕ) (e : Entry) → Good ps b e → (i : ℕ) → i < length ps → byte_at ps i ≡ b → (file : List ℕ) → Lined file ps → ((i + 1 < length ps) × ((at (lines_of ps) (i + 1)).tag ≡ CONT) → ⊥) → further e.payload ≡ []
good_alone ps b e g i h is file l apart = go (further g.files.filed) refl
  where
    t : Stood ps b (entry e.level e.identifier e.tag g.files.filed)
    t = stood ps b _ g.files.stands

    same : t.place ≡ i
    same = place_once file ps t.place i l t.within h (t.begins ∙ sym is)

    go : (ts : List (List ℕ)) → further g.files.filed ≡ ts → further e.payload ≡ []
    go [] q = ap further g.files.shows ∙ q
    go (x ∷ ts) q = absurd (apart (subst (λ n. (n + 1 < length ps) × ((at (lines_of ps) (n + 1)).tag ≡ CONT)) same (t.followed x ts q)))

pub kept_files : (ps : List Placed) (c : Card) (e : Entry) → Good ps c.byte e → Allowed c.state e.payload → Files ps c (left_of c e)
kept_files ps c e g a = record {
  filed = e.payload;
  stands = subst (λ p. StandsAt ps c.byte (entry e.level e.identifier e.tag p)) (sym g.files.shows) g.files.stands;
  allowed = a;
  shows = refl;
}

-- an entry that has no payload
bare : (p : Payload) → Settled p → first_value p ≡ nothing → further p ≡ [] → p ≡ none
bare none s v f = refl
bare (text [] []) s v f = absurd (s refl)
bare (text [] (t ∷ ts)) s v f = absurd (omega (arith, ap length f))
bare (text (c ∷ cs) more) s v f = absurd (let z : ◌≡◌ {A = ℕ} 0 1 = cc in omega arith)
bare void s v f = absurd (let z : ◌≡◌ {A = ℕ} 0 1 = cc in omega arith)
bare (pointer i) s v f = absurd (let z : ◌≡◌ {A = ℕ} 0 1 = cc in omega arith)

bare_after : (s : State) (p : Payload) → p ≡ none → Allowed s p → after s p ≡ none
bare_after Filed p e a = e
bare_after Voided p e a = absurd (subst Points e a)
bare_after Emptied p e a = refl
bare_after Blank p e a = e

-- The cards one after the other

module _ (file : List ℕ) (ps : List Placed) (p : Passes file ps) where
  abbrev Sound : Card → Type 0
  Sound c = OnLine ps c.byte × ((l : Line) → LineOn ps c.byte l → AllowedValue c.state l.value)

  abbrev Next : Card → Card → Type 0
  Next c d = (c.byte < d.byte) × ((l m : Line) → LineOn ps c.byte l → LineOn ps d.byte m → m.level ≤ l.level + 1)

  abbrev Chain : List Card → Type 0
  Chain [] = ⊥
  Chain (c ∷ []) = (l : Line) → LineOn ps c.byte l → Top TRLR l
  Chain (c ∷ d ∷ cs) = Next c d × Chain (d ∷ cs)

  chain : (c : Card) (cs : List Card) → OnLines ps (c ∷ cs) → ((k : ℕ) → k < length (c ∷ cs) → FitsAt ps (c ∷ cs) k) → Chain (c ∷ cs)
  chain c [] ons fits = (fits 0 (omega arith)).followed.trailer (omega arith)
  chain c (d ∷ cs) ons fits = (
    (ons.rising 0 (omega arith), (fits 0 (omega arith)).followed.step (omega arith)),
    chain d cs (record {
      lines = λ k h. ons.lines (suc k) (omega arith);
      rising = λ k h. subst (λ n. (card (d ∷ cs) k).byte < (card (c ∷ d ∷ cs) n).byte) (one k) (ons.rising (suc k) (omega arith));
    }) (λ k h. let f = fits (suc k) (omega arith) in record {
      allowed = f.allowed;
      followed = record {
        step = λ q. subst (λ n. (l m : Line) → LineOn ps (card (d ∷ cs) k).byte l → LineOn ps (card (c ∷ d ∷ cs) n).byte m → m.level ≤ l.level + 1) (one k) (f.followed.step (omega arith));
        trailer = λ q. f.followed.trailer (omega arith);
      };
    }),
  )
    where
      one : (k : ℕ) → suc k + 1 ≡ suc (k + 1)
      one k = omega arith

  sounds : (cs : List Card) → OnLines ps cs → ((k : ℕ) → k < length cs → FitsAt ps cs k) → AllByRecursion Sound cs
  sounds cs ons fits = All-from_get_or Sound cs blank (λ k h. (ons.lines k h, (fits k h).allowed))

  -- the trailer's and the header's entries
  last_line : (i : ℕ) → i < length ps → (at (lines_of ps) i).level ≡ 0 → (at (lines_of ps) i).tag ≡ TRLR → i + 1 ≡ length ps
  last_line i h z t = elim (cases_lt (i + 1) (length ps)) [
    | inl q ↦ absurd ((p.ordered.last i (let n = length-map ps (λ q. q.line) in omega arith)).1 (let n = length-map ps (λ q. q.line) in omega arith) z t)
    | inr q ↦ omega arith
  ]

  first_line : (i : ℕ) → i < length ps → (at (lines_of ps) i).level ≡ 0 → (at (lines_of ps) i).tag ≡ HEAD → i ≡ 0
  first_line zero h z t = refl
  first_line (suc i) h z t = absurd ((p.ordered.first (suc i) (let n = length-map ps (λ q. q.line) in omega arith)).1 (omega arith) z t)

  pub record Kept (cs : List Card) (es : List Entry) : Type 0 where
    pub files : FilesAll ps cs es
    pub own : AllByRecursion OwnTag es
    pub settled : AllByRecursion (λ e. Settled e.payload) es
    pub fine : AllByRecursion GoodLine (all_lines es)
    pub shallow : AllByRecursion Shallow (all_lines es)

  kept_none : Kept [] []
  kept_none = record { files = tt; own = tt; settled = tt; fine = tt; shallow = tt }

  kept_cons : (c : Card) (e : Entry) (cs : List Card) (es : List Entry) → Good ps c.byte e → Allowed c.state e.payload → Kept cs es → Kept (c ∷ cs) (left_of c e ∷ es)
  kept_cons c e cs es g a k = record {
    files = (kept_files ps c e g a, k.files);
    own = (record { no_continuation = g.own.no_continuation; no_joint = g.own.no_joint }, k.own);
    settled = (settled_after c.state e.payload g.settled, k.settled);
    fine = All-append GoodLine (entry_lines (left_of c e)) (all_lines es) (fine_after c.state e g.fine) k.fine;
    shallow = All-append Shallow (entry_lines (left_of c e)) (all_lines es) (shallow_after c.state e g.shallow) k.shallow;
  }

  allowed_good : (c : Card) (e : Entry) → Good ps c.byte e → Sound c → Allowed c.state e.payload
  allowed_good c e g s = allowed_there c.state e.payload (s.1 (own_line e) (good_line ps c.byte e g))

  trailer_entry : (c : Card) (e : Entry) → Good ps c.byte e → Sound c → ((l : Line) → LineOn ps c.byte l → Top TRLR l) → left_of c e ≡ entry 0 None TRLR none
  trailer_entry c e g s t =
      let (i, h, is, line) = good_line ps c.byte e g in
      let (level, tag) = t (own_line e) (i, h, is, line) in
      let end = last_line i h (ap (λ (l : Line). l.level) line ∙ level) (ap (λ (l : Line). l.tag) line ∙ tag) in
      let n = length-map ps (λ q. q.line) in
      let whole : own_line e ≡ line_of 0 None TRLR nothing = sym line ∙ (p.ordered.last i (omega arith)).0 (omega arith) in
      let alone = good_alone ps c.byte e g i h is file p.lined (λ q. let low = q.0 in omega arith) in
      let empty = bare e.payload g.settled (ap (λ (l : Line). l.value) whole) alone in
      let named = ap (λ (l : Line). l.identifier) whole in
      let payload = bare_after c.state e.payload empty (allowed_good c e g s) in
      λ j. entry (level j) (named j) (tag j) (payload j)

  header_entry : (c : Card) (e : Entry) → Good ps c.byte e → Sound c → ((l : Line) → LineOn ps c.byte l → Top HEAD l) → (left_of c e ≡ entry 0 None HEAD none) × (byte_at ps 0 ≡ c.byte)
  header_entry c e g s t =
      let (i, h, is, line) = good_line ps c.byte e g in
      let (level, tag) = t (own_line e) (i, h, is, line) in
      let start = first_line i h (ap (λ (l : Line). l.level) line ∙ level) (ap (λ (l : Line). l.tag) line ∙ tag) in
      let n = length-map ps (λ q. q.line) in
      let whole : own_line e ≡ line_of 0 None HEAD nothing = sym line ∙ (p.ordered.first i (omega arith)).0 start in
      let alone = good_alone ps c.byte e g i h is file p.lined (λ q. let (j, last, cont) = (p.ordered.continued (i + 1) (let low = q.0 in omega arith)).1 q.1 in let b = last.before in let z = cont.not_first in omega arith) in
      let empty = bare e.payload g.settled (ap (λ (l : Line). l.value) whole) alone in
      let named = ap (λ (l : Line). l.identifier) whole in
      let payload = bare_after c.state e.payload empty (allowed_good c e g s) in
      ((λ j. entry (level j) (named j) (tag j) (payload j)), ap (byte_at ps) (sym start) ∙ is)

  -- behind the header
  record Tailed (l : ℕ) (cs : List Card) : Type 0 where
    es : List Entry
    kept : Kept cs es
    middle : List Entry
    are : es ≡ middle ++ entry 0 None TRLR none ∷ []
    stepping : Stepping l middle
    named : Named middle
    tagged : AllByRecursion TopTag middle

  unnamed : (c : Card) (e : Entry) → Good ps c.byte e → 0 < e.level → e.identifier ≡ None
  unnamed c e g low =
      let (i, h, is, line) = good_line ps c.byte e g in
      let n = length-map ps (λ q. q.line) in
      sym (ap (λ (l : Line). l.identifier) line) ∙ p.ordered.named i (omega arith) (let z = ap (λ (l : Line). l.level) line in omega arith)

  inner : (c d : Card) (e : Entry) → Good ps c.byte e → OnLine ps d.byte → c.byte < d.byte → byte_at ps 0 < c.byte → TopTag (left_of c e)
  inner c d e g (j, k, js, _) up low =
      let (i, h, is, line) = good_line ps c.byte e g in
      record {
        no_header = λ z t. let start = first_line i h (ap (λ (l : Line). l.level) line ∙ z) (ap (λ (l : Line). l.tag) line ∙ t) in omega (arith, ap (byte_at ps) start);
        no_trailer = λ z t.
            let end = last_line i h (ap (λ (l : Line). l.level) line ∙ z) (ap (λ (l : Line). l.tag) line ∙ t) in
            elim (cases_order j i) [
              | inl q ↦ omega (arith, ap (byte_at ps) q)
              | inr (inl q) ↦ omega (arith, bytes_rise (length p.lined.mark) ps j i p.lined.placed q h)
              | inr (inr q) ↦ omega arith
            ];
      }

  tailed : (l : ℕ) (c : Card) (cs : List Card) → AllByRecursion Sound (c ∷ cs) → Chain (c ∷ cs) → byte_at ps 0 < c.byte → ((m : Line) → LineOn ps c.byte m → m.level ≤ l + 1) → Tailed l (c ∷ cs)
  tailed l c [] s t low step =
      let (e, g) = entry_at file ps c.byte p s.0.0 in
      record {
        es = left_of c e ∷ [];
        kept = kept_cons c e [] [] g (allowed_good c e g s.0) kept_none;
        middle = [];
        are = λ j. trailer_entry c e g s.0 t j ∷ [];
        stepping = tt;
        named = tt;
        tagged = tt;
      }
  tailed l c (d ∷ cs) s t low step =
      let (e, g) = entry_at file ps c.byte p s.0.0 in
      let on = good_line ps c.byte e g in
      let up = t.0.0 in
      let r = tailed e.level d cs s.1 t.1 (omega arith) (λ m om. t.0.1 (own_line e) m on om) in
      record {
        es = left_of c e ∷ r.es;
        kept = kept_cons c e (d ∷ cs) r.es g (allowed_good c e g s.0) r.kept;
        middle = left_of c e ∷ r.middle;
        are = ap (λ xs. left_of c e ∷ xs) r.are;
        stepping = (step (own_line e) on, r.stepping);
        named = (unnamed c e g, r.named);
        tagged = (inner c d e g s.1.0.0 up low, r.tagged);
      }

  pub record Framed-cards (cs : List Card) : Type 0 where
    pub es : List Entry
    pub kept : Kept cs es
    pub shaped : Shaped es

  pub framed_cards : (cs : List Card) → OnLines ps cs → Fits ps cs → Framed-cards cs
  framed_cards [] ons f = absurd (let some = f.some in omega arith)
  framed_cards (c ∷ []) ons f =
      let (l, on) = line_on ps c.byte (ons.lines 0 (omega arith)) in
      absurd (head_not_trlr (sym (f.header l on).1 ∙ ((f.each 0 (omega arith)).followed.trailer (omega arith) l on).1))
  framed_cards (c ∷ d ∷ cs) ons f =
      let s = sounds (c ∷ d ∷ cs) ons f.each in
      let t = chain c (d ∷ cs) ons f.each in
      let (e, g) = entry_at file ps c.byte p s.0.0 in
      let on = good_line ps c.byte e g in
      let (head, start) = header_entry c e g s.0 f.header in
      let level : e.level ≡ 0 = (f.header (own_line e) on).0 in
      let up = t.0.0 in
      let r = tailed 0 d cs s.1 t.1 (omega arith) (λ m om. let z = t.0.1 (own_line e) m on om in omega arith) in
      record {
        es = left_of c e ∷ r.es;
        kept = kept_cons c e (d ∷ cs) r.es g (allowed_good c e g s.0) r.kept;
        shaped = record { middle = r.middle; are = λ j. head j ∷ r.are j; stepping = r.stepping; named = r.named; tagged = r.tagged };
      }
