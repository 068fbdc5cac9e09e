-- What is found by position is what belongs, or the refusal that is told. Assumes nothing.
use Rattle.std.proofs.Common.{◌≡◌, ℕ, zero, suc, ◌+◌, ◌<◌, ◌≤◌, false, List, [], ◌∷◌, length, get_or, take, drop, Some, None, Option, sym, ap, ◌∙◌, subst, inl, inr, arith, length-take, length-take-le, get_or-take}
use lib.Seq.{split_at}
use Rattle.std.specs.List.{AllByRecursion}
use Rattle.std.proofs.ByRecursion.{All-from_get_or}
use Rattle.std.proofs.lemmas.List.{get_or-map}
use Rattle.std.proofs.lemmas.Bool.{cases_order}
use Rattle.model.specs.declared.Card.{Card}
use Rattle.model.specs.declared.Context.TheVariants.{Top}
use Rattle.model.specs.Books.{Meaning}
use Rattle.model.specs.Datasets.{none, end, Dataset, tops, entries_of, entries, IsDataset, lines}
use Rattle.model.specs.Files.{Placed, bytes_of, InPlace}
use Rattle.model.specs.Rules.{top_types, Situation, situations, NeedsMet, Belongs}
use Rattle.model.specs.Edits.{body}
use Rattle.model.specs.Refusals.{First, lines_of, byte_at, others, BreaksBook, BreaksTop, BreaksNeeds, BookRule, known, taken, aimed_right, single, needed, filled, BookKeeps, TopKeeps, BookTells, BookRefusal, Refuses, booked}
use Rattle.model.specs.declared.Fault.{Fault}
use Rattle.model.specs.Positions.{within, row_at, under_at, top_at, NeedMet, KeepsAt, AllKeep, TopMet, Lacks, Finding, finding, TopAt, BrokenAt, Finds, FindsNone, Told, fault_of}
use Rattle.model.proofs.Flat.{body_is}
use Rattle.model.proofs.Filing.{bytes_positive}
use Rattle.model.proofs.Reading.{others_places, card_of, filed, filed_others}
use Rattle.model.proofs.Answering.{Read, others_within}
use Rattle.model.proofs.Situated.{situations_count, situated_at, top_is, keeps_at, at_keeps}

abbrev nowhere : Situation
nowhere = record { header = false; row = None; before = []; payload = none; inside = Top; subs = end }

-- the fault of a card whose line stands at a place
abbrev fault_in : List Placed → ℕ → ℕ → Option ℕ → Fault
fault_in ps number place o = record { number = number; line = place + 1; byte = byte_at ps place; missing = o }

module _ (m : Meaning) (d : Dataset) where
  every_at : (rule : BookRule) → AllKeep m (entries_of (tops d)) rule → AllByRecursion (BookKeeps m d rule) (situations m d)
  every_at rule k = All-from_get_or (BookKeeps m d rule) (situations m d) nowhere (λ i h. let lt : i < length (entries_of (tops d)) = omega (arith, situations_count m d) in at_keeps m d i (get_or (situations m d) i nowhere) (situated_at m d i nowhere lt) rule (k i lt))

  -- those before entry i
  front_at : (rule : BookRule) (i : ℕ) → i ≤ length (entries_of (tops d)) → ((j : ℕ) → j < i → KeepsAt m (entries_of (tops d)) rule j) → AllByRecursion (BookKeeps m d rule) (take i (situations m d))
  front_at rule i within k = All-from_get_or (BookKeeps m d rule) (take i (situations m d)) nowhere (λ j h.
      let low : j < i = omega (arith, length-take i (situations m d)) in
      subst (BookKeeps m d rule) (sym (get_or-take i (situations m d) j nowhere low)) (at_keeps m d j (get_or (situations m d) j nowhere) (situated_at m d j nowhere (omega arith)) rule (k j low)))

  breaks_at : (number : ℕ) (ps : List Placed) (rule : BookRule) (i : ℕ) (o : Option ℕ) → First (KeepsAt m (entries_of (tops d)) rule) (length (entries_of (tops d))) i → o ≡ None → BreaksBook number ps (situations m d) (BookKeeps m d rule) (fault_in ps number (get_or (others ps) i 0) o)
  breaks_at number ps rule i o f e =
      let lt = f.within in
      let count = situations_count m d in
      record {
        card = i;
        before = take i (situations m d);
        one = get_or (situations m d) i nowhere;
        after = drop (suc i) (situations m d);
        are = split_at (situations m d) i nowhere (omega arith);
        counted = length-take-le i (situations m d) (omega arith);
        kept = front_at rule i (omega arith) f.before;
        broken = λ k. f.breaks (keeps_at m d i (get_or (situations m d) i nowhere) (situated_at m d i nowhere lt) rule k);
        told = ap (fault_in ps number (get_or (others ps) i 0)) e;
      }

  top_met : TopMet m (entries_of (tops d)) → NeedsMet m Top (top_types m (tops d))
  top_met k = subst (λ ts. (j : ℕ) → NeedMet m Top ts j) (top_is m d) k

  top_keeps : (rule : BookRule) → TopAt m (entries_of (tops d)) rule → TopKeeps m d rule
  top_keeps known k = tt
  top_keeps taken k = tt
  top_keeps aimed_right k = tt
  top_keeps single k = tt
  top_keeps needed k = top_met k
  top_keeps filled k = tt

  -- the first card is told by the first line
  first_other : (ps : List Placed) → IsDataset d → lines_of ps ≡ lines d → get_or (others ps) 0 0 ≡ 0
  first_other ps is are = ap (λ ns. get_or ns 0 0) (others_places ps d is are)

  module _ (ps : List Placed) (is : IsDataset d) (are : lines_of ps ≡ lines d) (i : ℕ) (o : Option ℕ) where
    lacks_top : (t : ℕ) → o ≡ Some t → i ≡ 0 → Lacks m Top (top_at m (entries_of (tops d))) t → BreaksTop m ps d (fault_in ps 18 (get_or (others ps) i 0) o)
    lacks_top t e here lacks =
        let place : get_or (others ps) i 0 ≡ 0 = ap (λ n. get_or (others ps) n 0) here ∙ first_other ps is are in
        record {
          need = lacks.need;
          missing = t;
          first = subst (λ ts. First (NeedMet m Top ts) (m.needs Top) lacks.need) (top_is m d) lacks.first;
          is = lacks.is;
          told = λ k. fault_in ps 18 (place k) (e k);
        }

    lacks_needs : (t : ℕ) → o ≡ Some t → i < length (entries_of (tops d)) → ((j : ℕ) → j < i → KeepsAt m (entries_of (tops d)) needed j) → Lacks m (within m (row_at m (entries_of (tops d)) i)) (under_at m (entries_of (tops d)) i) t → BreaksNeeds m ps (situations m d) (fault_in ps 18 (get_or (others ps) i 0) o)
    lacks_needs t e lt before lacks =
        let b = entries_of (tops d) in
        let s = get_or (situations m d) i nowhere in
        let at = situated_at m d i nowhere lt in
        let count = situations_count m d in
        let long : length (take i (situations m d)) ≡ i = length-take-le i (situations m d) (omega arith) in
        let need = lacks.need in
        record {
          before = take i (situations m d);
          one = s;
          after = drop (suc i) (situations m d);
          are = split_at (situations m d) i nowhere (omega arith);
          kept = front_at needed i (omega arith) before;
          need = need;
          missing = t;
          first = subst (λ ts. First (NeedMet m s.inside ts) (m.needs s.inside) need) (sym at.types) (subst (λ c. First (NeedMet m c (under_at m b i)) (m.needs c) need) (sym at.inside) lacks.first);
          is = subst (λ c. m.need c need ≡ Some t) (sym at.inside) lacks.is;
          told = λ k. fault_in ps 18 (get_or (others ps) (sym long k) 0) (e k);
        }

    tells_at : (rule : BookRule) → BrokenAt m (entries_of (tops d)) rule i o → BookTells m ps d rule (fault_of ps (finding rule i o))
    tells_at known (f, e) = breaks_at 14 ps known i o f e
    tells_at taken (f, e) = breaks_at 15 ps taken i o f e
    tells_at aimed_right (f, e) = breaks_at 16 ps aimed_right i o f e
    tells_at single (f, e) = breaks_at 17 ps single i o f e
    tells_at needed (t, e, inl (here, lacks)) = inl (lacks_top t e here lacks)
    tells_at needed (t, e, inr (top, lt, before, lacks)) = inr (top_met top, lacks_needs t e lt before lacks)
    tells_at filled (f, e) = breaks_at 19 ps filled i o f e

  pub finds_none : FindsNone m (entries_of (tops d)) → Belongs m d
  finds_none f = record {
    known = every_at known (f.all known);
    taken = every_at taken (f.all taken);
    aimed = every_at aimed_right (f.all aimed_right);
    single = every_at single (f.all single);
    top_complete = top_met f.top;
    complete = every_at needed (f.all needed);
    filled = every_at filled (f.all filled);
  }

  pub finds_fault : (ps : List Placed) → IsDataset d → lines_of ps ≡ lines d → (f : Finding) → Finds m (entries_of (tops d)) f → BookRefusal m ps d (fault_of ps f)
  finds_fault ps is are f finds = record {
    rule = f.rule;
    earlier = λ r h. let e = finds.earlier r h in (top_keeps r e.0, every_at r e.1);
    tells = tells_at ps is are f.card f.missing f.rule finds.broken;
  }

  -- over the entries that cards file, the trailer's aside
  pub belongs_found : FindsNone m (body (entries d)) → Belongs m d
  belongs_found f = finds_none (subst (FindsNone m) (body_is d) f)

  pub refusal_found : (ps : List Placed) → IsDataset d → lines_of ps ≡ lines d → (f : Finding) → Finds m (body (entries d)) f → BookRefusal m ps d (fault_of ps f)
  refusal_found ps is are f finds = finds_fault ps is are f (subst (λ b. Finds m b f) (body_is d) finds)

-- a reading whose entries are judged
pub refuses_found : (m : Meaning) (file : List ℕ) (n : ℕ) (ps : List Placed) (r : Read file n ps) (f : Finding) → Finds m (body (entries r.dataset)) f → Refuses m file n (fault_of ps f)
refuses_found m file n ps r f finds = booked ps r.dataset r.passes r.is r.are r.few (refusal_found m r.dataset ps r.is r.are f finds)

-- The line and the byte of a card

-- its byte is that of the line
pub card_byte : (ps : List Placed) (k : ℕ) (c : Card) → k < length (others ps) → (get_or (filed ps) k c).byte ≡ byte_at ps (get_or (others ps) k 0)
card_byte ps k c h = ap (λ cs. (get_or cs k c).byte) (sym (filed_others ps)) ∙ ap (λ (x : Card). x.byte) (get_or-map (λ i. card_of (byte_at ps i)) (others ps) k 0 c h)

-- lines begin at rising bytes, so the line that begins there is the card's
bytes_from : (at : ℕ) (ps : List Placed) (q : ℕ) → InPlace at ps → q < length ps → at ≤ byte_at ps q
bytes_from at [] q i h = absurd (omega arith)
bytes_from at (p ∷ ps) zero i h = let e = i.0 in omega arith
bytes_from at (p ∷ ps) (suc q) i h = omega (arith, bytes_from (at + length (bytes_of p)) ps q i.1 (omega arith))

pub bytes_rise : (at : ℕ) (ps : List Placed) (p q : ℕ) → InPlace at ps → p < q → q < length ps → byte_at ps p < byte_at ps q
bytes_rise at [] p q i lt h = absurd (omega arith)
bytes_rise at (x ∷ ps) p zero i lt h = absurd (omega arith)
bytes_rise at (x ∷ ps) zero (suc q) i lt h = let e = i.0 in omega (arith, bytes_from (at + length (bytes_of x)) ps q i.1 (omega arith), bytes_positive x)
bytes_rise at (x ∷ ps) (suc p) (suc q) i lt h = bytes_rise (at + length (bytes_of x)) ps p q i.1 (omega arith) (omega arith)

pub card_line : (at : ℕ) (ps : List Placed) (k q : ℕ) → InPlace at ps → k < length (others ps) → q < length ps → byte_at ps q ≡ byte_at ps (get_or (others ps) k 0) → get_or (others ps) k 0 ≡ q
card_line at ps k q i h lt e =
    let p = get_or (others ps) k 0 in
    let inside = others_within ps k h in
    elim (cases_order p q) [
      | inl same ↦ same
      | inr (inl less) ↦ absurd (let r = bytes_rise at ps p q i less lt in omega arith)
      | inr (inr more) ↦ absurd (let r = bytes_rise at ps q p i more inside in omega arith)
    ]

-- What code answers

module _ (m : Meaning) (d : Dataset) (ps : List Placed) (is : IsDataset d) (are : lines_of ps ≡ lines d) (number card line byte : ℕ) (missing : Option ℕ) where
  -- a number, a card and its line
  pub refusal_told : Told m (body (entries d)) number card missing → line ≡ get_or (others ps) card 0 + 1 → byte ≡ byte_at ps (get_or (others ps) card 0) → BookRefusal m ps d (record { number = number; line = line; byte = byte; missing = missing })
  refusal_told told on at =
      let e : fault_of ps (finding told.rule card missing) ≡ record { number = number; line = line; byte = byte; missing = missing } = λ i. record { number = sym told.numbered i; line = sym on i; byte = sym at i; missing = missing } in
      subst (BookRefusal m ps d) e (refusal_found m d ps is are (finding told.rule card missing) told.finds)

pub refuses_told : (m : Meaning) (file : List ℕ) (n : ℕ) (ps : List Placed) (r : Read file n ps) (number card line byte : ℕ) (missing : Option ℕ) → Told m (body (entries r.dataset)) number card missing → line ≡ get_or (others ps) card 0 + 1 → byte ≡ byte_at ps (get_or (others ps) card 0) → Refuses m file n (record { number = number; line = line; byte = byte; missing = missing })
refuses_told m file n ps r number card line byte missing told on at = booked ps r.dataset r.passes r.is r.are r.few (refusal_told m r.dataset ps r.is r.are number card line byte missing told on at)
