-- What was removed leaves no trace in a plain run, nor in a faithful drawer. Assumes nothing.
use Rattle.std.proofs.Common.{◌≡◌, ℕ, ◌-◌, Bool, true, false, cond, ◌||◌, ltb, List, [], ◌∷◌, ◌++◌, map, length, drop, Some, None, sym, refl, ap, ◌∙◌, subst, ap₂, inl, inr, arith}
use lib.Seq.{take-append_seam}
use Rattle.std.specs.List.{AllByRecursion}
use Rattle.model.specs.declared.Call.{Call}
use Rattle.model.specs.declared.Call.TheVariants.{Read, Remove, Open, Count, Look, More, Size, Write}
use Rattle.model.specs.Datasets.{Dataset, Record, written}
use Rattle.model.specs.Books.{Meaning}
use Rattle.model.specs.Removal.{removed, settled, card_count}
use Rattle.model.specs.Runs.{ReadsAs, Plain, PlainRead, PlainStep, Reply, refused, number, opened, reply, after_removal, remove_reply, look_reply, more_reply, write_reply}
use Rattle.model.specs.Calls.{Event, buffer_after}
use Rattle.model.specs.Laws.{Performing, Answered, Runs, Faithful, alike, answers, NoReading, written_by, put, buffers, lefts, Side, NoTrace, LinesOnce}
use Rattle.model.proofs.Drawers.{removal_cases}
use Rattle.model.proofs.Voids.{settled_same}

-- Every call but reading is a function of the state.

abbrev after_call : Meaning → Plain → Call → Plain
after_call m s Read = s
after_call m s (Remove k) = elim s [ None ↦ None | Some d ↦ Some (after_removal m d k) ]
after_call m s Open = s
after_call m s Count = s
after_call m s (Look k) = s
after_call m s (More k j) = s
after_call m s Size = s
after_call m s Write = s

step_is : (m : Meaning) (file : List ℕ) (room : ℕ) (c : Call) (s t : Plain) → (c ≡ Read → ⊥) → PlainStep m file room c s t → t ≡ after_call m s c
step_is m file room Read s t other p = absurd (other refl)
step_is m file room (Remove k) s t other p = p
step_is m file room Open s t other p = p
step_is m file room Count s t other p = p
step_is m file room (Look k) s t other p = p
step_is m file room (More k j) s t other p = p
step_is m file room Size s t other p = p
step_is m file room Write s t other p = p

pub reply_some : (m : Meaning) (s : Plain) (n : ℕ) (c : Call) → (c ≡ Read → ⊥) → (r : Reply) × (reply m s n c ≡ Some r)
reply_some m s n Read other = absurd (other refl)
reply_some m None n (Remove k) other = (refused 20, refl)
reply_some m (Some d) n (Remove k) other = (remove_reply m d k, refl)
reply_some m None n Open other = (refused 20, refl)
reply_some m (Some d) n Open other = (opened, refl)
reply_some m None n Count other = (refused 20, refl)
reply_some m (Some d) n Count other = (number (card_count d), refl)
reply_some m None n (Look k) other = (refused 20, refl)
reply_some m (Some d) n (Look k) other = (look_reply d k, refl)
reply_some m None n (More k j) other = (refused 20, refl)
reply_some m (Some d) n (More k j) other = (more_reply d k j, refl)
reply_some m None n Size other = (refused 20, refl)
reply_some m (Some d) n Size other = (number (length (written d)), refl)
reply_some m None n Write other = (refused 20, refl)
reply_some m (Some d) n Write other = (write_reply d n, refl)

-- what a write puts, by the state and the buffer's length
abbrev put_of : Plain → ℕ → Call → List ℕ
put_of s n Read = []
put_of s n (Remove k) = []
put_of s n Open = []
put_of s n Count = []
put_of s n (Look k) = []
put_of s n (More k j) = []
put_of s n Size = []
put_of None n Write = []
put_of (Some d) n Write = cond (ltb 16777216 (length (written d))) [] (cond (ltb n (length (written d))) [] (written d))

write_puts : (long small : Bool) (w rest buffer : List ℕ) → written_by (cond long (refused 25) (cond small (refused 26) (number (length w)))) (cond (long || small) buffer (w ++ rest)) ≡ cond long [] (cond small [] w)
write_puts true small w rest buffer = refl
write_puts false true w rest buffer = refl
write_puts false false w rest buffer = take-append_seam w rest

abbrev event : Call → List ℕ → Reply → List ℕ → Event
event c b a l = record { call = c; buffer = b; answer = a; left = l }

put_at : (m : Meaning) (s : Plain) (c : Call) (b : List ℕ) (a : Reply) (l : List ℕ) → ((r : Reply) → reply m s (length b) c ≡ Some r → a ≡ r) → l ≡ buffer_after s c b → put (event c b a l) ≡ put_of s (length b) c
put_at m s Read b a l says left = refl
put_at m s (Remove k) b a l says left = refl
put_at m s Open b a l says left = refl
put_at m s Count b a l says left = refl
put_at m s (Look k) b a l says left = refl
put_at m s (More k j) b a l says left = refl
put_at m s Size b a l says left = refl
put_at m None Write b a l says left = ap (λ x. written_by x l) (says (refused 20) refl)
put_at m (Some d) Write b a l says left =
    let w = written d in
    ap₂ written_by (says (write_reply d (length b)) refl) left ∙ write_puts (ltb 16777216 (length w)) (ltb (length b) (length w)) w (drop (length w) b) b

put_is : (m : Meaning) (file : List ℕ) (room : ℕ) (s t : Plain) (e : Event) → Answered m file room s t e → put e ≡ put_of s (length e.buffer) e.call
put_is m file room s t e says = put_at m s e.call e.buffer e.answer e.left says.1 says.2

-- Two runs from one state, over calls that are alike

pub record Same (xs ys : List Event) : Type 0 where
  pub same_answers : answers xs ≡ answers ys
  pub same_put : map put xs ≡ map put ys
  pub same_left : buffers xs ≡ buffers ys → lefts xs ≡ lefts ys

alike_head : (x y : Event) (xs ys : List Event) → alike (x ∷ xs) ≡ alike (y ∷ ys) → (x.call ≡ y.call) × (length x.buffer ≡ length y.buffer) × (alike xs ≡ alike ys)
alike_head x y xs ys e =
    let first : ◌≡◌ {A = Call × ℕ} (x.call, length x.buffer) (y.call, length y.buffer) = cc in
    let more : alike xs ≡ alike ys = cc in
    (ap {A = Call × ℕ} (λ p. p.0) first, ap {A = Call × ℕ} (λ p. p.1) first, more)

pub same_runs : (m : Meaning) (file₁ file₂ : List ℕ) (room₁ room₂ : ℕ) (s t₁ t₂ : Plain) (xs ys : List Event) → NoReading xs → NoReading ys → alike xs ≡ alike ys → Runs m file₁ room₁ s xs t₁ → Runs m file₂ room₂ s ys t₂ → Same xs ys
same_runs m file₁ file₂ room₁ room₂ s t₁ t₂ [] [] n₁ n₂ a r₁ r₂ = record { same_answers = refl; same_put = refl; same_left = λ _. refl }
same_runs m file₁ file₂ room₁ room₂ s t₁ t₂ [] (y ∷ ys) n₁ n₂ a r₁ r₂ = absurd (let z : ◌≡◌ {A = ℕ} 0 1 = cc in omega arith)
same_runs m file₁ file₂ room₁ room₂ s t₁ t₂ (x ∷ xs) [] n₁ n₂ a r₁ r₂ = absurd (let z : ◌≡◌ {A = ℕ} 0 1 = cc in omega arith)
same_runs m file₁ file₂ room₁ room₂ s t₁ t₂ (x ∷ xs) (y ∷ ys) n₁ n₂ a r₁ r₂ =
    let h = alike_head x y xs ys a in
    let some = reply_some m s (length x.buffer) x.call n₁.0 in
    let asked : reply m s (length y.buffer) y.call ≡ reply m s (length x.buffer) x.call = ap₂ (reply m s) (sym h.1) (sym h.0) in
    let answer : x.answer ≡ y.answer = r₁.2.1 some.0 some.1 ∙ sym (r₂.2.1 some.0 (asked ∙ some.1)) in
    let puts : put x ≡ put y = put_is m file₁ room₁ s r₁.0 x r₁.2 ∙ ap₂ (put_of s) h.1 h.0 ∙ sym (put_is m file₂ room₂ s r₂.0 y r₂.2) in
    let state : r₂.0 ≡ r₁.0 = step_is m file₂ room₂ y.call s r₂.0 n₂.0 r₂.1 ∙ ap (after_call m s) (sym h.0) ∙ sym (step_is m file₁ room₁ x.call s r₁.0 n₁.0 r₁.1) in
    let more = same_runs m file₁ file₂ room₁ room₂ r₁.0 t₁ t₂ xs ys n₁.1 n₂.1 h.2 r₁.3 (subst (λ u. Runs m file₂ room₂ u ys t₂) state r₂.3) in
    record {
      same_answers = ap₂ {C = List Reply} (λ u us. u ∷ us) answer more.same_answers;
      same_put = ap₂ {C = List (List ℕ)} (λ u us. u ∷ us) puts more.same_put;
      same_left = λ q. (
          let b : x.buffer ≡ y.buffer = cc in
          let bs : buffers xs ≡ buffers ys = cc in
          let l : x.left ≡ y.left = r₁.2.2 ∙ ap₂ (buffer_after s) h.0 b ∙ sym r₂.2.2 in
          ap₂ {C = List (List ℕ)} (λ u us. u ∷ us) l (more.same_left bs));
    }

-- The run of one side

pub runs_parts : (m : Meaning) (file : List ℕ) (room : ℕ) (xs ys : List Event) (s t : Plain) → Runs m file room s (xs ++ ys) t → (u : Plain) × Runs m file room s xs u × Runs m file room u ys t
runs_parts m file room [] ys s t r = (s, refl, r)
runs_parts m file room (x ∷ xs) ys s t r = let more = runs_parts m file room xs ys r.0 t r.3 in (more.0, (r.0, r.1, r.2, more.1), more.2)

abbrev NoneGranted : Event → Type 0
NoneGranted e = (k n : ℕ) → e.call ≡ Remove k → e.answer ≡ number n → ⊥

quiet_call : (m : Meaning) (d : Dataset) (n : ℕ) (c : Call) (a : Reply) → ((k n : ℕ) → c ≡ Remove k → a ≡ number n → ⊥) → ((r : Reply) → reply m (Some d) n c ≡ Some r → a ≡ r) → after_call m (Some d) c ≡ Some d
quiet_call m d n Read a none says = refl
quiet_call m d n (Remove k) a none says =
    elim (removal_cases m d k) [
      | inl i ↦ ap {B = Plain} Some i.after_same
      | inr g ↦ absurd (none k (card_count d - card_count g.remains) refl (says (remove_reply m d k) refl ∙ g.answers))
    ]
quiet_call m d n Open a none says = refl
quiet_call m d n Count a none says = refl
quiet_call m d n (Look k) a none says = refl
quiet_call m d n (More k j) a none says = refl
quiet_call m d n Size a none says = refl
quiet_call m d n Write a none says = refl

quiet_run : (m : Meaning) (file : List ℕ) (room : ℕ) (d : Dataset) (es : List Event) (t : Plain) → NoReading es → AllByRecursion NoneGranted es → Runs m file room (Some d) es t → t ≡ Some d
quiet_run m file room d [] t n g r = r
quiet_run m file room d (e ∷ es) t n g r =
    let same : r.0 ≡ Some d = step_is m file room e.call (Some d) r.0 n.0 r.1 ∙ quiet_call m d (length e.buffer) e.call e.answer g.0 r.2.1 in
    quiet_run m file room d es t n.1 g.1 (subst (λ s. Runs m file room s es t) same r.3)

-- the removal leaves what it takes out
taken : (m : Meaning) (d left : Dataset) (k n : ℕ) → remove_reply m d k ≡ number n → removed m d k ≡ Some left → after_removal m d k ≡ left
taken m d left k n granted took =
    elim (removal_cases m d k) [
      | inl i ↦ absurd (i.not_granted n granted)
      | inr g ↦ (let same : g.remains ≡ left = (let a = g.is_removed in cc) in g.after_is ∙ same)
    ]

pub read_is : LinesOnce → (m : Meaning) (file : List ℕ) (room : ℕ) (d : Dataset) (s : Plain) → ReadsAs m file room d → PlainRead m file room s → s ≡ Some d
read_is once m file room d None reads p = absurd (p d reads)
read_is once m file room d (Some e) reads p = ap {B = Plain} Some (once file e d p.is reads.is p.has_lines reads.has_lines)

-- each part of a side takes the run on, to what is left
read_run : LinesOnce → (m : Meaning) (file : List ℕ) (room : ℕ) (d : Dataset) (e : Event) (es : List Event) (t : Plain) → ReadsAs m file room d → e.call ≡ Read → Runs m file room None (e ∷ es) t → Runs m file room (Some d) es t
read_run once m file room d e es t reads call r =
    subst (λ s. Runs m file room s es t) (read_is once m file room d r.0 reads (subst (λ c. PlainStep m file room c None r.0) call r.1)) r.3

removal_run : (m : Meaning) (file : List ℕ) (room : ℕ) (d left : Dataset) (k n : ℕ) (e : Event) (es : List Event) (t : Plain) → e.call ≡ Remove k → e.answer ≡ number n → removed m d k ≡ Some left → Runs m file room (Some d) (e ∷ es) t → Runs m file room (Some left) es t
removal_run m file room d left k n e es t call granted took r =
    let mid : r.0 ≡ Some (after_removal m d k) = subst (λ c. PlainStep m file room c (Some d) r.0) call r.1 in
    let answer : e.answer ≡ remove_reply m d k = r.2.1 (remove_reply m d k) (ap (reply m (Some d) (length e.buffer)) call) in
    subst (λ s. Runs m file room s es t) (mid ∙ ap {B = Plain} Some (taken m d left k n (sym answer ∙ granted) took)) r.3

quiet_front : (m : Meaning) (file : List ℕ) (room : ℕ) (d : Dataset) (quiet more : List Event) (t : Plain) → NoReading quiet → AllByRecursion NoneGranted quiet → Runs m file room (Some d) (quiet ++ more) t → Runs m file room (Some d) more t
quiet_front m file room d quiet more t n g r =
    let parts = runs_parts m file room quiet more (Some d) t r in
    subst (λ s. Runs m file room s more t) (quiet_run m file room d quiet parts.0 n g parts.1) parts.2

abbrev without : Dataset → List Record → Record → List Record → Dataset
without d before r after = settled d.header (before ++ after, r.identifier)

side_run : LinesOnce → (P : Performing) (m : Meaning) → Faithful P m → (file : List ℕ) (d : Dataset) (before : List Record) (r : Record) (after : List Record) (later : List Event) (side : Side P m file d before r after later) → (t : Plain) × Runs m file (length side.drawer) (Some (without d before r after)) later t
side_run once P m faithful file d before r after later side =
    let room = length side.drawer in
    let rest = side.removal ∷ later in
    let all = faithful file side.drawer side.out side.first (side.quiet ++ rest) side.reading side.chain in
    let begun = read_run once m file room d side.first (side.quiet ++ rest) all.0 side.accepted side.reading all.1 in
    let still = quiet_front m file room d side.quiet rest all.0 side.once side.none_granted begun in
    (all.0, removal_run m file room d (without d before r after) side.card side.granted.0 side.removal later all.0 side.removing side.granted.1 side.took still)

-- what does its calls faithfully leaves no trace
pub traceless : LinesOnce → (P : Performing) (m : Meaning) → Faithful P m → NoTrace P m
traceless once P m faithful file₁ file₂ d₁ d₂ t later₁ later₂ side₁ side₂ same-calls =
    let one = side_run once P m faithful file₁ d₁ t.before t.one t.after later₁ side₁ in
    let two = side_run once P m faithful file₂ d₂ t.before t.other t.after later₂ side₂ in
    let left = settled_same d₁ d₂ t side₁.accepted.is side₂.accepted.is in
    let room = length side₂.drawer in
    let other : Runs m file₂ room (Some (without d₁ t.before t.one t.after)) later₂ two.0 = subst (λ x. Runs m file₂ room (Some x) later₂ two.0) (sym left) two.1 in
    let same = same_runs m file₁ file₂ (length side₁.drawer) room (Some (without d₁ t.before t.one t.after)) one.0 two.0 later₁ later₂ side₁.no_more side₂.no_more same-calls one.1 other in
    (same.same_answers, same.same_put, same.same_left)
