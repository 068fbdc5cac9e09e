-- The promises over whole runs, and what they say all the while. Assumes nothing.
use Rattle.std.proofs.Common.{◌≡◌, ℕ, ◌≤◌, Bool, true, false, cond, ◌||◌, ltb, List, [], ◌∷◌, ◌++◌, length, take, drop, Some, None, Option, sym, refl, ap, ◌∙◌, subst, arith}
use lib.Seq.{take-append_seam}
use Rattle.std.proofs.lemmas.Bool.{ltb-false}
use Rattle.model.specs.declared.Card.{Card}
use Rattle.model.specs.declared.Call.{Call}
use Rattle.model.specs.declared.Call.TheVariants.{Read, Remove, Open, Count, Look, More, Size, Write}
use Rattle.model.specs.Datasets.{Dataset, written}
use Rattle.model.specs.Books.{Meaning, Lawful}
use Rattle.model.specs.Rules.{Belongs}
use Rattle.model.specs.Cards.{Holds}
use Rattle.model.specs.Runs.{Plain, PlainRead, PlainStep, Reply, refused, number, reply, write_reply}
use Rattle.model.specs.Calls.{Event, PerformsEvent, buffer_after}
use Rattle.model.specs.Laws.{Performing, Chain, Runs, Shows, ReadsBack, Faithful, NoTrace, NoReading, alike, BelongsKept, WrittenHasLines, LinesOnce}
use Rattle.model.proofs.Steps.{faithful}
use Rattle.model.proofs.Traces.{read_is, reply_some, runs_parts, Same, same_runs, traceless}

pub no_trace : BelongsKept → WrittenHasLines → LinesOnce → (m : Meaning) → Lawful m → NoTrace PerformsEvent m
no_trace belongs_kept has_lines once m lawful = traceless once PerformsEvent m (faithful belongs_kept has_lines m lawful)

pub promises : BelongsKept → WrittenHasLines → LinesOnce → (m : Meaning) → Lawful m → Faithful PerformsEvent m × NoTrace PerformsEvent m
promises belongs_kept has_lines once m lawful = (faithful belongs_kept has_lines m lawful, no_trace belongs_kept has_lines once m lawful)

-- All the while: the plain run is one, and a drawer shows its state after any of the calls.

chain_parts : (P : Performing) (m : Meaning) (file : List ℕ) (xs ys : List Event) (cards out : List Card) → Chain P m file cards (xs ++ ys) out → (mid : List Card) × Chain P m file cards xs mid × Chain P m file mid ys out
chain_parts P m file [] ys cards out c = (cards, refl, c)
chain_parts P m file (x ∷ xs) ys cards out c = let more = chain_parts P m file xs ys c.0 out c.2 in (more.0, (c.0, c.1, more.1), more.2)

read_once : LinesOnce → (m : Meaning) (file : List ℕ) (room : ℕ) (t u : Plain) → PlainRead m file room t → PlainRead m file room u → t ≡ u
read_once once m file room None None p q = refl
read_once once m file room None (Some e) p q = absurd (p e q)
read_once once m file room (Some d) u p q = sym (read_is once m file room d u p q)

step_once : LinesOnce → (m : Meaning) (file : List ℕ) (room : ℕ) (c : Call) (s t u : Plain) → PlainStep m file room c s t → PlainStep m file room c s u → t ≡ u
step_once once m file room Read s t u p q = read_once once m file room t u p q
step_once once m file room (Remove k) s t u p q = p ∙ sym q
step_once once m file room Open s t u p q = p ∙ sym q
step_once once m file room Count s t u p q = p ∙ sym q
step_once once m file room (Look k) s t u p q = p ∙ sym q
step_once once m file room (More k j) s t u p q = p ∙ sym q
step_once once m file room Size s t u p q = p ∙ sym q
step_once once m file room Write s t u p q = p ∙ sym q

pub runs_once : LinesOnce → (m : Meaning) (file : List ℕ) (room : ℕ) (es : List Event) (s t u : Plain) → Runs m file room s es t → Runs m file room s es u → t ≡ u
runs_once once m file room [] s t u r q = r ∙ sym q
runs_once once m file room (e ∷ es) s t u r q =
    let same : q.0 ≡ r.0 = step_once once m file room e.call s q.0 r.0 q.1 r.1 in
    runs_once once m file room es r.0 t u r.3 (subst (λ x. Runs m file room x es u) same q.3)

-- a run that goes on, at the place where its front ends
pub record Midway (P : Performing) (m : Meaning) (file : List ℕ) (cards : List Card) (front back : List Event) (out : List Card) : Type 0 where
  pub drawer : List Card
  pub state : Plain
  pub final : Plain
  pub came : Chain P m file cards front drawer
  pub goes : Chain P m file drawer back out
  pub ran : Runs m file (length cards) None front state
  pub runs : Runs m file (length cards) state back final
  pub shows : Shows file drawer state
  pub shows_final : Shows file out final
  pub kept : (d : Dataset) → state ≡ Some d → Belongs m d × ReadsBack P m d

pub all_the_while : LinesOnce → (P : Performing) (m : Meaning) → Faithful P m → (file : List ℕ) (cards out : List Card) (first : Event) (front back : List Event) → first.call ≡ Read → Chain P m file cards (first ∷ front ++ back) out → Midway P m file cards (first ∷ front) back out
all_the_while once P m holds file cards out first front back call chain =
    let room = length cards in
    let split = chain_parts P m file (first ∷ front) back cards out chain in
    let half = holds file cards split.0 first front call split.1 in
    let whole = holds file cards out first (front ++ back) call chain in
    let parts = runs_parts m file room (first ∷ front) back None whole.0 whole.1 in
    let same : parts.0 ≡ half.0 = runs_once once m file room (first ∷ front) None parts.0 half.0 parts.1 half.1 in
    record {
      drawer = split.0;
      state = half.0;
      final = whole.0;
      came = split.1;
      goes = split.2;
      ran = half.1;
      runs = subst (λ s. Runs m file room s back whole.0) same parts.2;
      shows = half.2;
      shows_final = whole.2;
      kept = half.3;
    }

-- What a granted write left in its buffer is read back as what the drawer holds.

pub record Wrote (P : Performing) (m : Meaning) (file : List ℕ) (out : List Card) (bytes : List ℕ) : Type 0 where
  pub dataset : Dataset
  pub holds : Holds file out dataset
  pub belongs : Belongs m dataset
  pub bytes_are : bytes ≡ written dataset
  pub short : length (written dataset) ≤ 16777216
  pub reads_back : ReadsBack P m dataset

write_is_no_read : Write ≡ Read → ⊥
write_is_no_read e = let z : ◌≡◌ {A = ℕ} 0 1 = cc in omega arith

write_granted : (long small : Bool) (w rest buffer : List ℕ) (n : ℕ) → cond long (refused 25) (cond small (refused 26) (number (length w))) ≡ number n → (long ≡ false) × (take n (cond (long || small) buffer (w ++ rest)) ≡ w)
write_granted true small w rest buffer n g = absurd (let z : ◌≡◌ {A = ℕ} 0 1 = cc in omega arith)
write_granted false true w rest buffer n g = absurd (let z : ◌≡◌ {A = ℕ} 0 1 = cc in omega arith)
write_granted false false w rest buffer n g = (refl, (let same : length w ≡ n = cc in subst (λ k. take k (w ++ rest) ≡ w) same (take-append_seam w rest)))

wrote_at : (P : Performing) (m : Meaning) (file : List ℕ) (out : List Card) (s : Plain) (w : Event) (n : ℕ) → Shows file out s → ((d : Dataset) → s ≡ Some d → Belongs m d × ReadsBack P m d) → reply m s (length w.buffer) Write ≡ Some (number n) → w.left ≡ buffer_after s Write w.buffer → Wrote P m file out (take n w.left)
wrote_at P m file out None w n shows kept says left = absurd (let z : ◌≡◌ {A = ℕ} 0 1 = cc in omega arith)
wrote_at P m file out (Some d) w n shows kept says left =
    let bytes = written d in
    let b = w.buffer in
    let granted : write_reply d (length b) ≡ number n = cc in
    let did = write_granted (ltb 16777216 (length bytes)) (ltb (length b) (length bytes)) bytes (drop (length bytes) b) b n granted in
    record { dataset = d; holds = shows; belongs = (kept d refl).0; bytes_are = ap (take n) left ∙ did.1; short = ltb-false 16777216 (length bytes) did.0; reads_back = (kept d refl).1 }

-- by the state before the write, which leaves it
wrote_from : (P : Performing) (m : Meaning) (file : List ℕ) (room : ℕ) (out : List Card) (s t : Plain) (w : Event) (n : ℕ) → w.call ≡ Write → w.answer ≡ number n → Runs m file room s (w ∷ []) t → Shows file out t → ((d : Dataset) → t ≡ Some d → Belongs m d × ReadsBack P m d) → Wrote P m file out (take n w.left)
wrote_from P m file room out s t w n is-write granted r shows kept =
    let stays : t ≡ s = r.3 ∙ subst (λ c. PlainStep m file room c s r.0) is-write r.1 in
    let some = reply_some m s (length w.buffer) w.call (λ q. write_is_no_read (sym is-write ∙ q)) in
    let says : reply m s (length w.buffer) Write ≡ Some (number n) = ap (reply m s (length w.buffer)) (sym is-write) ∙ some.1 ∙ ap {B = Option Reply} Some (sym (r.2.1 some.0 some.1) ∙ granted) in
    wrote_at P m file out s w n (subst (Shows file out) stays shows) (λ d q. kept d (stays ∙ q)) says (subst (λ c. w.left ≡ buffer_after s c w.buffer) is-write r.2.2)

pub wrote : (P : Performing) (m : Meaning) → Faithful P m → (file : List ℕ) (cards out : List Card) (first : Event) (es : List Event) (w : Event) (n : ℕ) → first.call ≡ Read → w.call ≡ Write → w.answer ≡ number n → Chain P m file cards (first ∷ es ++ w ∷ []) out → Wrote P m file out (take n w.left)
wrote P m holds file cards out first es w n call is-write granted chain =
    let whole = holds file cards out first (es ++ w ∷ []) call chain in
    let parts = runs_parts m file (length cards) (first ∷ es) (w ∷ []) None whole.0 whole.1 in
    wrote_from P m file (length cards) out parts.0 whole.0 w n is-write granted parts.2 whole.2 whole.3

-- Two drawers that hold the same dataset, however each came to it, are told apart by no later call but a reading.

pub record Reached (P : Performing) (m : Meaning) (file : List ℕ) (d : Dataset) (later : List Event) : Type 0 where
  pub drawer : List Card
  pub out : List Card
  pub first : Event
  pub earlier : List Event
  pub reading : first.call ≡ Read
  pub ran : Runs m file (length drawer) None (first ∷ earlier) (Some d)
  pub no_more : NoReading later
  pub chain : Chain P m file drawer (first ∷ earlier ++ later) out

reached_run : LinesOnce → (P : Performing) (m : Meaning) → Faithful P m → (file : List ℕ) (d : Dataset) (later : List Event) (r : Reached P m file d later) → (t : Plain) × Runs m file (length r.drawer) (Some d) later t
reached_run once P m holds file d later r =
    let way = all_the_while once P m holds file r.drawer r.out r.first r.earlier later r.reading r.chain in
    let same : way.state ≡ Some d = runs_once once m file (length r.drawer) (r.first ∷ r.earlier) None way.state (Some d) way.ran r.ran in
    (way.final, subst (λ s. Runs m file (length r.drawer) s later way.final) same way.runs)

pub indistinct : LinesOnce → (P : Performing) (m : Meaning) → Faithful P m → (file₁ file₂ : List ℕ) (d : Dataset) (later₁ later₂ : List Event) → Reached P m file₁ d later₁ → Reached P m file₂ d later₂ → alike later₁ ≡ alike later₂ → Same later₁ later₂
indistinct once P m holds file₁ file₂ d later₁ later₂ one two same-calls =
    let a = reached_run once P m holds file₁ d later₁ one in
    let b = reached_run once P m holds file₂ d later₂ two in
    same_runs m file₁ file₂ (length one.drawer) (length two.drawer) (Some d) a.0 b.0 later₁ later₂ one.no_more two.no_more same-calls a.1 b.1
