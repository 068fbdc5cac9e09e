-- Each call takes the drawer and the plain run on together. Assumes nothing.
use Rattle.std.proofs.Common.{◌≡◌, ℕ, List, [], ◌∷◌, length, Some, None, Option, sym, refl, ap, ◌∙◌, subst, inl, inr, arith}
use Rattle.model.specs.declared.Card.{Card}
use Rattle.model.specs.declared.Call.{Call}
use Rattle.model.specs.declared.Call.TheVariants.{Read, Remove, Open, Count, Look, More, Size, Write}
use Rattle.model.specs.Datasets.{Dataset, written}
use Rattle.model.specs.Books.{Meaning, Lawful}
use Rattle.model.specs.Rules.{Belongs}
use Rattle.model.specs.Cards.{Holds}
use Rattle.model.specs.Removal.{card_count}
use Rattle.model.specs.Refusals.{Refuses}
use Rattle.model.specs.declared.Fault.{Fault}
use Rattle.model.specs.Runs.{ReadsAs, Plain, PlainRead, PlainStep, Reply, refused, number, reply, after_removal, written_over}
use Rattle.model.specs.Calls.{Event, Removing, Viewing, Performs, PerformsEvent, buffer_after}
use Rattle.model.specs.Laws.{Chain, Answered, Runs, Shows, ReadsBack, Faithful, BelongsKept, WrittenHasLines}
use Rattle.model.proofs.Drawers.{blanks_unheld, held_few, after_belongs}

-- the drawer is as the plain run has it
pub record Kept (m : Meaning) (file : List ℕ) (room : ℕ) (cards : List Card) (s : Plain) : Type 0 where
  pub long : length cards ≡ room
  pub shows : Shows file cards s
  pub belongs : (d : Dataset) → s ≡ Some d → Belongs m d

abbrev pub Step : Meaning → List ℕ → ℕ → Plain → Event → List Card → Type 0
Step m file room s e mid = (t : Plain) × PlainStep m file room e.call s t × Answered m file room s t e × Kept m file room mid t

abbrev event : Call → List ℕ → Reply → List ℕ → Event
event c b a l = record { call = c; buffer = b; answer = a; left = l }

none_is_no_some : {A : Type 0} (o : Option A) (x : A) → o ≡ None → o ≡ Some x → ⊥
none_is_no_some o x p q = let z : ◌≡◌ {A = ℕ} 0 1 = cc in omega arith

-- Reading

read_step : (m : Meaning) (file : List ℕ) (room : ℕ) (cards mid : List Card) (s : Plain) (e : Event) → e.call ≡ Read → length cards ≡ room → PerformsEvent m file cards e mid → Step m file room s e mid
read_step m file room cards mid s e call long p =
    let did : Performs m file cards e mid Read = subst (Performs m file cards e mid) call p in
    let left : e.left ≡ buffer_after s e.call e.buffer = subst (λ c. e.left ≡ buffer_after s c e.buffer) (sym call) did.1 in
    let no_reply : (r : Reply) → reply m s (length e.buffer) e.call ≡ Some r → e.answer ≡ r = λ r q. absurd (none_is_no_some (reply m s (length e.buffer) e.call) r (ap (reply m s (length e.buffer)) call) q) in
    elim did.0 [
      | inl a ↦
          let reads : ReadsAs m file room a.dataset = subst (λ n. ReadsAs m file n a.dataset) long a.reads in
          (Some a.dataset, subst (λ c. PlainStep m file room c s (Some a.dataset)) (sym call) reads, (λ _. (a.counted, subst (λ n. (g : Fault) → Refuses m file n g → ⊥) long a.unlisted), no_reply, left), record { long = did.2 ∙ long; shows = a.holds; belongs = λ d q. subst (λ o. elim o as (λ _. Type 0) [ None ↦ Belongs m d | Some x ↦ Belongs m x ]) q reads.belongs })
      | inr b ↦
          (None, subst (λ c. PlainStep m file room c s None) (sym call) (subst (λ n. PlainRead m file n None) long b.none), (λ _. (b.fault, b.answered, subst (λ n. Refuses m file n b.fault) long b.listed, subst (λ n. (g : Fault) → Refuses m file n g → g ≡ b.fault) long b.only), no_reply, left), record { long = did.2 ∙ long; shows = b.blanks; belongs = λ d q. absurd (none_is_no_some None d refl q) })
    ]

-- Every other call

answered : (m : Meaning) (file : List ℕ) (room : ℕ) (s t : Plain) (e : Event) → reply m s (length e.buffer) e.call ≡ Some e.answer → e.left ≡ buffer_after s e.call e.buffer → Answered m file room s t e
answered m file room s t e says left =
    (λ q. absurd (none_is_no_some (reply m s (length e.buffer) e.call) e.answer (ap (reply m s (length e.buffer)) q) says), λ r q. cc, left)

kept_same : (m : Meaning) (file : List ℕ) (room : ℕ) (cards out : List Card) (s : Plain) → out ≡ cards → Kept m file room cards s → Kept m file room out s
kept_same m file room cards out s same k = subst (λ c. Kept m file room c s) (sym same) k

view_says : (m : Meaning) (file : List ℕ) (cards out : List Card) (s : Plain) (e : Event) → reply m None (length e.buffer) e.call ≡ Some (refused 20) → Viewing m file cards e out → Shows file cards s → reply m s (length e.buffer) e.call ≡ Some e.answer
view_says m file cards out None e without v shows = let a = (v.unheld (blanks_unheld file cards shows)).0 in cc
view_says m file cards out (Some d) e without v shows = v.held d shows

view_step : (m : Meaning) (file : List ℕ) (room : ℕ) (cards out : List Card) (s : Plain) (e : Event) → reply m None (length e.buffer) e.call ≡ Some (refused 20) → PlainStep m file room e.call s s → Viewing m file cards e out → Kept m file room cards s → e.left ≡ buffer_after s e.call e.buffer → Step m file room s e out
view_step m file room cards out s e without stays v k left =
    (s, stays, answered m file room s s e (view_says m file cards out s e without v k.shows) left, kept_same m file room cards out s v.cards_same k)

write_left : (m : Meaning) (file : List ℕ) (cards out : List Card) (s : Plain) (e : Event) → Shows file cards s → Viewing m file cards e out → ((d : Dataset) → Holds file cards d → e.left ≡ written_over d e.buffer) → e.left ≡ buffer_after s Write e.buffer
write_left m file cards out None e shows v w = (v.unheld (blanks_unheld file cards shows)).1
write_left m file cards out (Some d) e shows v w = w d shows

module _ (belongs_kept : BelongsKept) (m : Meaning) (lawful : Lawful m) (file : List ℕ) (room : ℕ) where
  remove_step : (cards out : List Card) (s : Plain) (e : Event) (k : ℕ) → e.call ≡ Remove k → Removing m file cards k e out → Kept m file room cards s → Step m file room s e out
  remove_step cards out None e k call r before =
      let did = r.unheld (blanks_unheld file cards before.shows) in
      let says : reply m None (length e.buffer) e.call ≡ Some e.answer = ap (reply m None (length e.buffer)) call ∙ ap {B = Option Reply} Some (sym did.0) in
      (None, subst (λ c. PlainStep m file room c None None) (sym call) refl, answered m file room None None e says (subst (λ c. e.left ≡ buffer_after None c e.buffer) (sym call) r.buffer_same), kept_same m file room cards out None did.1 before)
  remove_step cards out (Some d) e k call r before =
      let b = before.belongs d refl in
      let did = r.own d before.shows b in
      let then = Some (after_removal m d k) in
      let says : reply m (Some d) (length e.buffer) e.call ≡ Some e.answer = ap (reply m (Some d) (length e.buffer)) call ∙ ap {B = Option Reply} Some (sym did.0) in
      let after : Belongs m (after_removal m d k) = after_belongs belongs_kept m lawful d k before.shows.is b in
      (then, subst (λ c. PlainStep m file room c (Some d) then) (sym call) refl, answered m file room (Some d) then e says (subst (λ c. e.left ≡ buffer_after (Some d) c e.buffer) (sym call) r.buffer_same), record { long = r.long ∙ before.long; shows = did.1; belongs = λ x q. (let same : after_removal m d k ≡ x = cc in subst (Belongs m) same after) })

  -- by the call, apart from the rest of the event
  step_at : (cards out : List Card) (s : Plain) (c : Call) (buffer : List ℕ) (answer : Reply) (left : List ℕ) → PerformsEvent m file cards (event c buffer answer left) out → Kept m file room cards s → Step m file room s (event c buffer answer left) out
  step_at cards out s Read b a l p k = read_step m file room cards out s (event Read b a l) refl k.long p
  step_at cards out s (Remove n) b a l p k = remove_step cards out s (event (Remove n) b a l) n refl p k
  step_at cards out s Open b a l p k = view_step m file room cards out s (event Open b a l) refl refl p.0 k p.1
  step_at cards out s Count b a l p k = view_step m file room cards out s (event Count b a l) refl refl p.0 k p.1
  step_at cards out s (Look n) b a l p k = view_step m file room cards out s (event (Look n) b a l) refl refl p.0 k p.1
  step_at cards out s (More n j) b a l p k = view_step m file room cards out s (event (More n j) b a l) refl refl p.0 k p.1
  step_at cards out s Size b a l p k = view_step m file room cards out s (event Size b a l) refl refl p.0 k p.1
  step_at cards out s Write b a l p k = let e = event Write b a l in view_step m file room cards out s e refl refl p.0 k (write_left m file cards out s e k.shows p.0 p.1)

  pub step : (cards out : List Card) (s : Plain) (e : Event) → PerformsEvent m file cards e out → Kept m file room cards s → Step m file room s e out
  step cards out s e = step_at cards out s e.call e.buffer e.answer e.left

  pub run : (es : List Event) (cards out : List Card) (s : Plain) → Kept m file room cards s → Chain PerformsEvent m file cards es out → (t : Plain) × Runs m file room s es t × Kept m file room out t
  run [] cards out s k chain = (s, refl, kept_same m file room cards out s chain k)
  run (e ∷ es) cards out s k chain =
      let one = step cards chain.0 s e chain.1 k in
      let more = run es chain.0 out one.0 one.3 chain.2 in
      (more.0, (one.0, one.1, one.2, more.1), more.2)

reads_back : WrittenHasLines → (m : Meaning) (file : List ℕ) (drawer : List Card) (d : Dataset) → Holds file drawer d → Belongs m d → ReadsBack PerformsEvent m d
reads_back has_lines m file drawer d holds belongs cards out e call short enough p =
    let did : Performs m (written d) cards e out Read = subst (Performs m (written d) cards e out) call p in
    let lined = has_lines d holds.is in
    let few = held_few file drawer d holds in
    elim did.0 [
      | inl a ↦ (let same : d ≡ a.dataset = a.only d holds.is lined in (a.counted ∙ ap (λ x. number (card_count x)) (sym same), subst (Holds (written d) out) (sym same) a.holds))
      | inr b ↦ absurd (b.none d (record { is = holds.is; belongs = belongs; has_lines = lined; within = record { short = short; few = omega arith } }))
    ]

pub faithful : BelongsKept → WrittenHasLines → (m : Meaning) → Lawful m → Faithful PerformsEvent m
faithful belongs_kept has_lines m lawful file cards out first es call chain =
    let room = length cards in
    let one = read_step m file room cards chain.0 None first call refl chain.1 in
    let more = run belongs_kept m lawful file room es chain.0 out one.0 one.3 chain.2 in
    (more.0, (one.0, one.1, one.2, more.1), more.2.shows, λ d q. (let b = more.2.belongs d q in (b, reads_back has_lines m file out d (subst (Shows file out) q more.2.shows) b)))
