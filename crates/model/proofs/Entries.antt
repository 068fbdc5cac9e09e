-- A dataset has its entries, and its lines, to itself. Assumes nothing.
use Rattle.std.proofs.Common.{◌≡◌, ℕ, ◌+◌, ◌<◌, List, [], ◌∷◌, ◌++◌, map, length, None, sym, refl, ap, ◌∙◌, ap₂, inl, inr, append_assoc, arith}
use mathlib.Core.List.{append_cancel_right, head-eq_of_cons-eq, tail-eq_of_cons-eq}
use Rattle.std.specs.List.{AllByRecursion}
use Rattle.std.proofs.ByRecursion.{All-weaker}
use Rattle.model.specs.Lines.{Line, Value}
use Rattle.model.specs.Lines as line
use Rattle.model.specs.Datasets.{Payload, none, text, void, pointer, Structures, end, next, Record, Dataset, CONT, TRLR, tops, Entry, entry, entries_at, entries_of, entries, text_value, first_value, further, continuations, entry_lines, all_lines, lines, GoodPayload, OwnTag, IsDataset}
use Rattle.model.proofs.Parts.{Begins, clash, part_once}

-- Entries

pub lower_apart : (l : ℕ) (e : Entry) → e.level ≡ l → e.level < l → ⊥
lower_apart l e p q = omega arith

pub row_starts : (l : ℕ) (d : Structures) (u : List Entry) → Begins (λ e. e.level < l) u → Begins (λ e. e.level < l + 1) (entries_at l d ++ u)
row_starts l end [] s = tt
row_starts l end (e ∷ u) s = omega arith
row_starts l (next tag p subs rest) u s = omega arith

pub row_once : (l : ℕ) (d e : Structures) (u v : List Entry) → Begins (λ x. x.level < l) u → Begins (λ x. x.level < l) v → entries_at l d ++ u ≡ entries_at l e ++ v → (d ≡ e) × (u ≡ v)
row_once l end end u v s t e = (refl, e)
row_once l end (next tag p subs rest) u v s t e = absurd (clash (λ x. x.level ≡ l) (λ x. x.level < l) (lower_apart l) (entry l None tag p) _ u refl s e)
row_once l (next tag p subs rest) end u v s t e = absurd (clash (λ x. x.level ≡ l) (λ x. x.level < l) (lower_apart l) (entry l None tag p) _ v refl t (sym e))
row_once l (next tag p subs rest) (next tag' p' subs' rest') u v s t e =
    let first : entry l None tag p ≡ entry l None tag' p' = head-eq_of_cons-eq e in
    let after : entries_at (l + 1) subs ++ (entries_at l rest ++ u) ≡ entries_at (l + 1) subs' ++ (entries_at l rest' ++ v) = sym (append_assoc (entries_at (l + 1) subs) (entries_at l rest) u) ∙ tail-eq_of_cons-eq e ∙ append_assoc (entries_at (l + 1) subs') (entries_at l rest') v in
    let below = row_once (l + 1) subs subs' (entries_at l rest ++ u) (entries_at l rest' ++ v) (row_starts l rest u s) (row_starts l rest' v t) after in
    let beside = row_once l rest rest' u v s t below.1 in
    (λ i. next (first i).tag (first i).payload (below.0 i) (beside.0 i), beside.1)

pub records_start : (rs : List Record) → Begins (λ x. x.level < 1) (entries_of rs)
records_start [] = tt
records_start (r ∷ rs) = omega arith

pub records_once : (rs ss : List Record) → entries_of rs ≡ entries_of ss → rs ≡ ss
records_once [] [] e = refl
records_once [] (s ∷ ss) e = absurd (clash {A = Entry} (λ x. Unit {0}) (λ x. ⊥) (λ x p q. q) (entry 0 s.identifier s.tag s.payload) _ [] tt tt e)
records_once (r ∷ rs) [] e = absurd (clash {A = Entry} (λ x. Unit {0}) (λ x. ⊥) (λ x p q. q) (entry 0 r.identifier r.tag r.payload) _ [] tt tt (sym e))
records_once (r ∷ rs) (s ∷ ss) e =
    let first : entry 0 r.identifier r.tag r.payload ≡ entry 0 s.identifier s.tag s.payload = head-eq_of_cons-eq e in
    let below = row_once 1 r.subs s.subs (entries_of rs) (entries_of ss) (records_start rs) (records_start ss) (tail-eq_of_cons-eq e) in
    let beside = records_once rs ss below.1 in
    λ i. record { identifier = (first i).identifier; tag = (first i).tag; payload = (first i).payload; subs = below.0 i } ∷ beside i

pub entries_once : (d e : Dataset) → entries d ≡ entries e → d ≡ e
entries_once d e h =
    let all = records_once (tops d) (tops e) (append_cancel_right (entries_of (tops d)) (entries_of (tops e)) (entry 0 None TRLR none ∷ []) h) in
    let header = ap (λ (r : Record). r.subs) (head-eq_of_cons-eq all) in
    let records = tail-eq_of_cons-eq all in
    λ i. record { header = header i; records = records i }

-- Lines

-- a text is not one empty line
abbrev pub Settled : Payload → Type 0
Settled p = p ≡ text [] [] → ⊥

pub settled_good : (is : List (List ℕ)) (p : Payload) → GoodPayload is p → Settled p
settled_good is none g e = let z : ◌≡◌ {A = ℕ} 0 1 = cc in omega arith
settled_good is void g e = let z : ◌≡◌ {A = ℕ} 0 1 = cc in omega arith
settled_good is (pointer i) g e = let z : ◌≡◌ {A = ℕ} 0 1 = cc in omega arith
settled_good is (text t more) (inl g) e = let same : t ≡ [] = cc in omega (arith, ap length same)
settled_good is (text t more) (inr g) e = let same : more ≡ [] = cc in omega (arith, ap length same)

abbrev payload_of : Value → List (List ℕ) → Payload
payload_of line.nothing [] = none
payload_of line.nothing (t ∷ more) = text [] (t ∷ more)
payload_of line.void more = void
payload_of (line.pointer i) more = pointer i
payload_of (line.text t) more = text t more

payload_read : (p : Payload) → Settled p → payload_of (first_value p) (further p) ≡ p
payload_read none s = refl
payload_read (text [] []) s = absurd (s refl)
payload_read (text [] (t ∷ more)) s = refl
payload_read (text (c ∷ cs) more) s = refl
payload_read void s = refl
payload_read (pointer i) s = refl

pub payload_once : (p q : Payload) → Settled p → Settled q → first_value p ≡ first_value q → further p ≡ further q → p ≡ q
payload_once p q s t e f = sym (payload_read p s) ∙ ap₂ payload_of e f ∙ payload_read q t

abbrev text_of : Value → List ℕ
text_of line.nothing = []
text_of line.void = []
text_of (line.pointer i) = []
text_of (line.text t) = t

text_read : (t : List ℕ) → text_of (text_value t) ≡ t
text_read [] = refl
text_read (c ∷ cs) = refl

continuations_read : (l : ℕ) (ts : List (List ℕ)) → map (λ k. text_of k.value) (continuations l ts) ≡ ts
continuations_read l [] = refl
continuations_read l (t ∷ ts) = λ i. text_read t i ∷ continuations_read l ts i

pub continuations_once : (k l : ℕ) (ts us : List (List ℕ)) → continuations k ts ≡ continuations l us → ts ≡ us
continuations_once k l ts us e = sym (continuations_read k ts) ∙ ap (map (λ k. text_of k.value)) e ∙ continuations_read l us

abbrev pub Continuing : Line → Type 0
Continuing l = l.tag ≡ CONT

pub continuations_continue : (l : ℕ) (ts : List (List ℕ)) → AllByRecursion Continuing (continuations l ts)
continuations_continue l [] = tt
continuations_continue l (t ∷ ts) = (refl, continuations_continue l ts)

-- two entries with the same lines are the same, but for none and one empty line
pub record Alike (e f : Entry) : Type 0 where
  pub level : e.level ≡ f.level
  pub identifier : e.identifier ≡ f.identifier
  pub tag : e.tag ≡ f.tag
  pub value : first_value e.payload ≡ first_value f.payload
  pub more : further e.payload ≡ further f.payload

-- and they can be told from what follows, where that does not continue them
pub entry_lines_once : (e f : Entry) (u v : List Line) → Begins (λ l. Continuing l → ⊥) u → Begins (λ l. Continuing l → ⊥) v → entry_lines e ++ u ≡ entry_lines f ++ v → Alike e f × (u ≡ v)
entry_lines_once e f u v s t h =
    let first = head-eq_of_cons-eq h in
    let after = part_once Continuing (λ l. Continuing l → ⊥) (λ l p q. q p) (continuations (e.level + 1) (further e.payload)) (continuations (f.level + 1) (further f.payload)) u v (continuations_continue (e.level + 1) (further e.payload)) (continuations_continue (f.level + 1) (further f.payload)) s t (tail-eq_of_cons-eq h) in
    (record { level = λ i. (first i).level; identifier = λ i. (first i).identifier; tag = λ i. (first i).tag; value = λ i. (first i).value; more = continuations_once (e.level + 1) (f.level + 1) (further e.payload) (further f.payload) after.0 }, after.1)

pub alike_same : (e f : Entry) → Settled e.payload → Settled f.payload → Alike e f → e ≡ f
alike_same e f s t a =
    let payload = payload_once e.payload f.payload s t a.value a.more in
    λ i. record { level = a.level i; identifier = a.identifier i; tag = a.tag i; payload = payload i }

lines_start_own : (es : List Entry) → AllByRecursion OwnTag es → Begins (λ l. Continuing l → ⊥) (all_lines es)
lines_start_own [] h = tt
lines_start_own (e ∷ es) h = h.0.no_continuation

pub all_lines_once : (es fs : List Entry) → AllByRecursion OwnTag es → AllByRecursion OwnTag fs → AllByRecursion (λ e. Settled e.payload) es → AllByRecursion (λ e. Settled e.payload) fs → all_lines es ≡ all_lines fs → es ≡ fs
all_lines_once [] [] a b s t h = refl
all_lines_once [] (f ∷ fs) a b s t h = absurd (clash {A = Line} (λ x. Unit {0}) (λ x. ⊥) (λ x p q. q) _ _ [] tt tt h)
all_lines_once (e ∷ es) [] a b s t h = absurd (clash {A = Line} (λ x. Unit {0}) (λ x. ⊥) (λ x p q. q) _ _ [] tt tt (sym h))
all_lines_once (e ∷ es) (f ∷ fs) a b s t h =
    let first = entry_lines_once e f (all_lines es) (all_lines fs) (lines_start_own es a.1) (lines_start_own fs b.1) h in
    let same = alike_same e f s.0 t.0 first.0 in
    let rest = all_lines_once es fs a.1 b.1 s.1 t.1 first.1 in
    λ i. same i ∷ rest i

pub all_settled : (d : Dataset) → IsDataset d → AllByRecursion (λ e. Settled e.payload) (entries d)
all_settled d is = All-weaker (λ e. GoodPayload (Rattle.model.specs.Datasets.identifiers (entries d)) e.payload) (λ e. Settled e.payload) (λ e g. settled_good (Rattle.model.specs.Datasets.identifiers (entries d)) e.payload g) (entries d) is.payloads

pub same_lines_once : (d e : Dataset) → IsDataset d → IsDataset e → lines d ≡ lines e → d ≡ e
same_lines_once d e a b h = entries_once d e (all_lines_once (entries d) (entries e) a.tagged b.tagged (all_settled d a) (all_settled e b) h)
