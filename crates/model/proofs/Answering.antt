-- What a reading has to find for its answer. Assumes nothing.
use Rattle.std.proofs.Common.{◌≡◌, ℕ, ◌+◌, ◌<◌, ◌≤◌, min, List, [], ◌∷◌, ◌++◌, length, get_or, sym, refl, ap, ◌∙◌, inl, inr, arith}
use lib.ListN.{length-map}
use Rattle.std.specs.List.{AllByRecursion}
use Rattle.std.proofs.ByRecursion.{All-get_or}
use Rattle.std.proofs.lemmas.Bool.{cond_both, cases_lt}
use Rattle.std.specs.Str.{bytes_eq}
use Rattle.model.specs.declared.Card.{Card}
use Rattle.model.specs.Lines.{Line, GoodLine}
use Rattle.model.specs.Datasets.{Dataset, CONT, IsDataset, lines}
use Rattle.model.specs.Books.{Meaning}
use Rattle.model.specs.Files.{Placed, GoodPlaced, Lined, HasLines, Ordered, Passes}
use Rattle.model.specs.Rules.{Belongs}
use Rattle.model.specs.Cards.{Blanks}
use Rattle.model.specs.Refusals.{lines_of, others_from, others, LineRule, levels, first, last, steps, named, continued, room, apart, aimed, LinesKeep, Refuses}
use Rattle.model.specs.declared.Fault.{Fault}
use Rattle.model.specs.Runs.{Reply, unread, number, ReadsAs}
use Rattle.model.specs.Calls.{Accepted, Declined}
use Rattle.model.proofs.Deciding.{refuses_once}
use Rattle.model.proofs.Filing.{lines_once}
use Rattle.model.proofs.Clearing.{lined_clean}
use Rattle.model.proofs.Grouping.{lines_dataset}
use Rattle.model.proofs.Reading.{others_count, filed, reading_holds, reading_as_filed}
use Rattle.model.proofs.Refusing.{refuses_none}

-- Lines that keep every rule

good_lines : (ps : List Placed) → AllByRecursion GoodPlaced ps → AllByRecursion GoodLine (lines_of ps)
good_lines [] g = tt
good_lines (p ∷ ps) g = (g.0.good, good_lines ps g.1)

others_below : (n m : ℕ) (ls : List Line) → n + length ls ≤ m → AllByRecursion (λ i. i < m) (others_from n ls)
others_below n m [] h = tt
others_below n m (l ∷ ls) h = cond_both (bytes_eq l.tag CONT) (others_from (n + 1) ls) (n ∷ others_from (n + 1) ls) (AllByRecursion (λ i. i < m)) (λ e. others_below (n + 1) m ls (omega arith)) (λ e. (omega arith, others_below (n + 1) m ls (omega arith)))

-- the place of each other line is one of the file's
pub others_within : (ps : List Placed) (k : ℕ) → k < length (others ps) → get_or (others ps) k 0 < length ps
others_within ps k h = All-get_or (λ i. i < length ps) (others ps) k 0 h (others_below 0 (length ps) (lines_of ps) (omega (arith, length-map ps (λ p. p.line))))

pub room_kept : (n : ℕ) (ps : List Placed) → LinesKeep room n ps → length (others ps) ≤ min n 65535
room_kept n ps k = elim (cases_lt (min n 65535) (length (others ps))) [
  | inl h ↦ absurd (let low = k (get_or (others ps) (min n 65535) 0) (others_within ps (min n 65535) h) (min n 65535) h refl in omega arith)
  | inr h ↦ h
]

-- the dataset whose lines the file has, where its lines keep every rule
pub record Read (file : List ℕ) (n : ℕ) (ps : List Placed) : Type 0 where
  pub dataset : Dataset
  pub is : IsDataset dataset
  pub are : lines_of ps ≡ lines dataset
  pub few : length (others ps) ≤ min n 65535
  pub passes : Passes file ps

pub kept_read : (file : List ℕ) (n : ℕ) (ps : List Placed) → length file ≤ 16777216 → Lined file ps → 0 < length ps → ((r : LineRule) → LinesKeep r n ps) → Read file n ps
kept_read file n ps short l some k =
    let long = length-map ps (λ p. p.line) in
    let ordered : Ordered (lines_of ps) = record {
      some = omega arith;
      levels = λ i h. k levels i (omega arith);
      first = λ i h. k first i (omega arith);
      last = λ i h. k last i (omega arith);
      steps = λ i h. k steps i (omega arith);
      named = λ i h. k named i (omega arith);
      continued = λ i h. k continued i (omega arith);
    } in
    let d = lines_dataset (lines_of ps) (good_lines ps l.good) ordered (λ i h. k apart i (omega arith)) (λ i h. k aimed i (omega arith)) in
    record { dataset = d.0; is = d.1; are = sym d.2; few = room_kept n ps (k room); passes = record { short = short; clean = lined_clean file ps l; lined = l; ordered = ordered } }

-- Answers

pub accepted : (m : Meaning) (file : List ℕ) (cards : List Card) (answer : Reply) (out : List Card) (ps : List Placed) (blanks : List Card) (r : Read file (length cards) ps) → Belongs m r.dataset → out ≡ filed ps ++ blanks → Blanks blanks → answer ≡ number (length (others ps)) → Accepted m file cards answer out
accepted m file cards answer out ps blanks r belongs are b told =
    let count = others_count ps r.dataset r.is r.are in
    let few = r.few in
    let there : HasLines file r.dataset = (ps, r.passes.lined, r.are) in
    let reads : ReadsAs m file (length cards) r.dataset = record { is = r.is; belongs = belongs; has_lines = there; within = record { short = r.passes.short; few = omega arith } } in
    record {
      dataset = r.dataset;
      reads = reads;
      only = λ d is has. lines_once file d r.dataset is r.is has there;
      holds = reading_holds file ps r.dataset out blanks r.passes r.is r.are are b (omega arith);
      as_filed = reading_as_filed ps out blanks are b;
      counted = told ∙ ap number count;
      unlisted = λ f refuses. refuses_none m file (length cards) f refuses r.dataset reads;
    }

pub declined : (m : Meaning) (file : List ℕ) (cards : List Card) (answer : Reply) (out : List Card) (f : Fault) → Refuses m file (length cards) f → answer ≡ unread f → Blanks out → Declined m file cards answer out
declined m file cards answer out f r told b = record { fault = f; answered = told; listed = r; only = λ g s. refuses_once m file (length cards) g f s r; none = refuses_none m file (length cards) f r; blanks = b }
