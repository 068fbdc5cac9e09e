-- What the parts of a reading find, and so its answer. Assumes nothing.
use Rattle.std.proofs.Common.{◌≡◌, ℕ, ◌+◌, ◌<◌, ◌≤◌, min, List, [], ◌++◌, length, get_or, take, Some, None, Ok, Err, Result, sym, refl, ap, ◌∙◌, subst, inl, inr, arith, length-take}
use lib.ListN.{length-map}
use Rattle.std.proofs.ByRecursion.{All-get_or, All-weaker}
use Rattle.std.proofs.lemmas.List.{get_or_past, get_or-map, take_all, take_at}
use Rattle.std.proofs.lemmas.Bool.{cases_lt}
use Rattle.model.specs.declared.Card.{Card}
use Rattle.model.specs.declared.Place.{Place}
use Rattle.model.specs.Lines.{Line, nothing, pointer}
use Rattle.model.specs.Datasets.{Dataset, IsDataset, entries, lines}
use Rattle.model.specs.Books.{Meaning}
use Rattle.model.specs.Rules.{Belongs}
use Rattle.model.specs.Cards.{FilesAll, Blanks}
use Rattle.model.specs.Files.{Placed, Passes, at}
use Rattle.model.specs.Edits.{no_entry, body}
use Rattle.model.specs.Refusals.{Refuses, lined, fault, lines_of, byte_at, others, Keeps11, Keeps12, Keeps13, First, LineRule, levels, first, last, steps, named, continued, room, apart, aimed, LineKeeps, LinesKeep}
use Rattle.model.specs.LineTurns.{spot_of, Noted, RulesKept}
use Rattle.model.specs.Index.{place_of, card_line, card_spot}
use Rattle.model.specs.Positions.{FindsNone}
use Rattle.model.proofs.Options.{some_same}
use Rattle.model.proofs.Noting.{kept_next, kept_all, refusal}
use Rattle.model.proofs.Answering.{Read, kept_read, others_within, room_kept as kept_few, accepted, declined}
use Rattle.model.proofs.Reading.{files_from, filed_others, others_count, others_line}
use Rattle.model.proofs.Judging.{belongs_found, refuses_told}
use Rattle.model.proofs.Finding.{told_within}
use Rattle.model.proofs.Turns.{dataset_sound, length_body}
use Rattle.model.specs.Tables.{plain}
use Rattle.filling.specs.Filling.{cards_of, card_at}
use Rattle.naming.specs.Naming.{Name, CardsShow, IndexOf, NamesFit, NamesFound}
use Rattle.naming.specs.declared.NameFault.{NameFault}
use Rattle.naming.specs.declared.NameFault.TheVariants as name
use Rattle.judging.specs.Entries.{Judgeable}
use Rattle.judging.specs.Findings.{rule_number, missing_type, Judged}
use Rattle.judging.specs.declared.finding.Finding.{Finding}
use Rattle.judging.specs.declared.finding.Rule.{Rule}
use Rattle.judging.specs.declared.finding.Rule.TheVariants.{Known, Taken, Aimed, Single, Needed, Filled}
use Rattle.reading.specs.declared.entered.Entered.{Entered}
use Rattle.reading.specs.declared.fault.ReadFault.{ReadFault}
use Rattle.reading.specs.declared.fault.ReadFault.TheVariants.{NoCard}
use Rattle.std.specs.Result.{IsErrAnd, MatchResult, result_err}
use Rattle.reading.specs.Entered.{Names, Entering}
use Rattle.reading.specs.Faults.{read_fault}
use Rattle.reading.specs.Read.{PlacedAt, fault_by, FoundBy, JudgesNamed, Judges, Filed, TellsBook, TellsNames}
use Rattle.filling.specs.Filling as Fill
use Rattle.model.specs.Calls.{Accepted, Declined}
use Rattle.model.specs.Runs.{number, unread}

pub take_min : {X : Type 0} (n : ℕ) (xs : List X) → take (min n (length xs)) xs ≡ take n xs
take_min n xs = elim (cases_lt (length xs) n) [
  | inl h ↦ ap (λ k. take k xs) (let e : min n (length xs) ≡ length xs = omega arith in e) ∙ take_all (length xs) xs (omega arith) ∙ sym (take_all n xs (omega arith))
  | inr h ↦ ap (λ k. take k xs) (let e : min n (length xs) ≡ n = omega arith in e)
]

-- what a fault of each rule tells
pub told_by : (r : Rule) (p : Place) → read_fault (fault_by r p) ≡ record { number = rule_number r; line = p.line; byte = p.byte; missing = missing_type r }
told_by Known p = refl
told_by Taken p = refl
told_by Aimed p = refl
told_by Single p = refl
told_by (Needed t) p = refl
told_by Filled p = refl

-- the entries of a dataset can be judged
pub judgeable : (d : Dataset) → IsDataset d → length (entries d) ≤ 65535 → Judgeable (body (entries d))
judgeable d is few = let s = dataset_sound plain d is in record { levelled = s.levelled; apart = s.apart; few = omega (arith, length_body (entries d)) }

-- the index of the lines of a dataset is that of its entries
module _ (ps : List Placed) (d : Dataset) (is : IsDataset d) (are : lines_of ps ≡ lines d) where
  counted : length (others ps) ≡ length (entries d)
  counted = others_count ps d is are

  identifier_is : (k : ℕ) → k < length (entries d) → (card_line ps k).identifier ≡ (get_or (entries d) k no_entry).identifier
  identifier_is k h = ap (λ (l : Line). l.identifier) (others_line ps d is are k no_entry h)

  pub names_of : (names : List Name) → IndexOf ps names → Names (entries d) names
  names_of names index = record {
    order = index.order;
    each = All-weaker (λ (e : Name). (e.1 < length (others ps)) × ((card_line ps e.1).identifier ≡ Some e.0.now)) (λ (e : Name). (e.1 < length (entries d)) × ((get_or (entries d) e.1 no_entry).identifier ≡ Some e.0.now)) (λ e q. let low : e.1 < length (entries d) = subst (λ x. e.1 < x) counted q.0 in (low, sym (identifier_is e.1 low) ∙ q.1)) names index.each;
    all = λ k x h e.
        let (i, low, same-card) = index.index.all k x (subst (λ y. k < y) (sym counted) h) (identifier_is k h ∙ e) in
        let within : i < length names = let z = length-map names (λ (y : Name). y.1) in omega arith in (
          i,
          within,
          λ q.
              let (there, called) = All-get_or (λ (y : Name). (y.1 < length (others ps)) × ((card_line ps y.1).identifier ≡ Some y.0.now)) names i q within index.each in
              let same : (get_or names i q).1 ≡ k = sym (get_or-map (λ (y : Name). y.1) names i q 0 within) ∙ same-card in
              some_same (get_or names i q).0.now x (sym called ∙ ap (λ j. (card_line ps j).identifier) same ∙ identifier_is k h ∙ e),
        );
  }

module _ (file : List ℕ) (ps : List Placed) (rooms : ℕ) (passes : Passes file ps) where
  long : length (lines_of ps) ≡ length ps
  long = length-map ps (λ p. p.line)

  -- the rules of the lines
  pub ordered_kept : RulesKept 11 rooms ps
  ordered_kept levels h = λ i l. passes.ordered.levels i (let e = long in omega arith)
  ordered_kept first h = λ i l. passes.ordered.first i (let e = long in omega arith)
  ordered_kept last h = λ i l. passes.ordered.last i (let e = long in omega arith)
  ordered_kept steps h = λ i l. passes.ordered.steps i (let e = long in omega arith)
  ordered_kept named h = λ i l. passes.ordered.named i (let e = long in omega arith)
  ordered_kept continued h = λ i l. passes.ordered.continued i (let e = long in omega arith)
  ordered_kept room h = absurd (omega arith)
  ordered_kept apart h = absurd (omega arith)
  ordered_kept aimed h = absurd (omega arith)

  pub some_lines : 0 < length ps
  some_lines = let e = long in let s = passes.ordered.some in omega arith

  refused : (m : Meaning) (r : LineRule) (p : Place) → Noted (LineKeeps r rooms ps) ps (Some p) → RulesKept (Rattle.model.specs.Refusals.line_rule_number r) rooms ps → Refuses m file rooms (fault (Rattle.model.specs.Refusals.line_rule_number r) p.line p.byte)
  refused m r p n k = lined ps passes.short passes.clean passes.lined (refusal r rooms ps p n k)

  -- rule 11
  pub no_card : (m : Meaning) (p : Place) → Noted (Keeps11 rooms ps) ps (Some p) → Refuses m file rooms (fault 11 p.line p.byte)
  no_card m p n = refused m room p n ordered_kept

  module _ (cards : List Card) (are : cards ≡ cards_of ps) (kept : Noted (Keeps11 rooms ps) ps None) where
    pub room_kept : RulesKept 12 rooms ps
    room_kept = kept_next 11 room rooms ps refl ordered_kept kept

    pub many : length cards ≡ length (others ps)
    many = ap length are ∙ length-map (others ps) (λ i. card_at (byte_at ps i))

    card_is : (k : ℕ) (c : Card) → k < length (others ps) → get_or cards k c ≡ card_at (byte_at ps (place_of ps k))
    card_is k c h = ap (λ xs. get_or xs k c) are ∙ get_or-map (λ i. card_at (byte_at ps i)) (others ps) k 0 c h

    pub shows : CardsShow file cards ps
    shows = record {
      many = many;
      each = λ k d h.
          let low : k < length (others ps) = let e = many in omega arith in
          let is = card_is k d low in
          record {
            placed = ps;
            lined = passes.lined;
            place = place_of ps k;
            within = others_within ps k low;
            begins = ap (λ (x : Card). x.byte) (sym is);
            identifier = refl;
            value = ap (λ (x : Card). Rattle.naming.specs.Naming.left_by x.state (card_line ps k).value) (sym is);
          };
    }

    -- the place of a card that breaks a rule
    there : (k : ℕ) (p : Place) → k < length (others ps) → PlacedAt file cards k p → p ≡ spot_of ps (place_of ps k)
    there k p h at = let c : Card = card_at 0 in at ps (place_of ps k) c passes.short passes.lined (let e = many in omega arith) (others_within ps k h) (sym (ap (λ (x : Card). x.byte) (card_is k c h)))

    -- no rule of the identifiers is broken by the first line
    not_first : (K : ℕ → Type 0) (k : ℕ) → K 0 → Noted K ps (card_spot ps (Some k)) → k < length (others ps)
    not_first K k keeps (i, f, e) = elim (cases_lt k (length (others ps))) [
      | inl h ↦ h
      | inr h ↦ (let z = get_or_past (others ps) k 0 h in
          let same : i ≡ 0 = let q : place_of ps k + 1 ≡ i + 1 = ap (λ (x : Place). x.line) e in omega arith in
          absurd (f.breaks (subst K (sym same) keeps)))
    ]

    first_apart : Keeps12 (lines_of ps) 0
    first_apart x e j h = absurd (omega arith)

    first_aimed : Keeps13 (lines_of ps) 0
    first_aimed x e =
        let head = (passes.ordered.first 0 (let s = passes.ordered.some in omega arith)).0 refl in
        absurd (let z : nothing ≡ pointer x = ap (λ (l : Line). l.value) (sym head) ∙ e in let y : ◌≡◌ {A = ℕ} 0 1 = cc in omega arith)

    pub repeated : (m : Meaning) (k : ℕ) (p : Place) → Noted (LineKeeps apart rooms ps) ps (card_spot ps (Some k)) → PlacedAt file cards k p → Refuses m file rooms (fault 12 p.line p.byte)
    repeated m k p n at =
        let is = there k p (not_first (LineKeeps apart rooms ps) k first_apart n) at in
        subst (λ (q : Place). Refuses m file rooms (fault 12 q.line q.byte)) (sym is) (refused m apart (spot_of ps (place_of ps k)) n room_kept)

    pub lost : (m : Meaning) (k : ℕ) (p : Place) → Noted (LineKeeps apart rooms ps) ps None → Noted (LineKeeps aimed rooms ps) ps (card_spot ps (Some k)) → PlacedAt file cards k p → Refuses m file rooms (fault 13 p.line p.byte)
    lost m k p a n at =
        let is = there k p (not_first (LineKeeps aimed rooms ps) k first_aimed n) at in
        subst (λ (q : Place). Refuses m file rooms (fault 13 q.line q.byte)) (sym is) (refused m aimed (spot_of ps (place_of ps k)) n (kept_next 12 apart rooms ps refl room_kept a))

    module _ (names : List Name) (a : Noted (LineKeeps apart rooms ps) ps None) (n : Noted (LineKeeps aimed rooms ps) ps None) (index : IndexOf ps names) where
      pub reads : Read file rooms ps
      reads = kept_read file rooms ps passes.short passes.lined some_lines (kept_all rooms ps (kept_next 13 aimed rooms ps refl (kept_next 12 apart rooms ps refl room_kept a) n))

      abbrev d : Dataset
      d = reads.dataset

      count_is : length (others ps) ≡ length (entries d)
      count_is = others_count ps d reads.is reads.are

      pub entering : Entering file cards names d
      entering = record {
        placed = ps;
        lined = passes.lined;
        files = subst (λ cs. FilesAll ps cs (entries d)) (sym (are ∙ filed_others ps)) (files_from ps [] ps (entries d) refl reads.are reads.is.tagged);
        is = reads.is;
        names_are = names_of ps d reads.is reads.are names index;
      }

      pub few : length (entries d) ≤ 65535
      few = let e = count_is in let f = reads.few in omega arith

      pub belongs : (m : Meaning) → FindsNone m (body (entries d)) → Belongs m d
      belongs m f = belongs_found m d f

      pub found : (m : Meaning) (s : Entered) (f : ReadFault) → s.file.now ≡ file → s.cards.now ≡ cards → FoundBy m s d f → Refuses m file rooms (read_fault f)
      found m s f same-file same-cards b =
          let k = b.finding.card in
          let body_some = (dataset_sound plain d reads.is).some in
          let low : k < length (others ps) = let w = told_within m (body (entries d)) (rule_number b.finding.rule) k (missing_type b.finding.rule) body_some b.told in let z = length_body (entries d) in let e = count_is in omega arith in
          let is = there k b.at low (subst (λ x. PlacedAt x cards k b.at) same-file (subst (λ x. PlacedAt s.file.now x k b.at) same-cards b.placed)) in
          subst (Refuses m file rooms) (sym (ap read_fault b.is ∙ told_by b.finding.rule b.at))
          (refuses_told m file rooms ps reads (rule_number b.finding.rule) k b.at.line b.at.byte (missing_type b.finding.rule) b.told (ap (λ (x : Place). x.line) is) (ap (λ (x : Place). x.byte) is))

entered : (s : Entered) (file : List ℕ) (cards : List Card) (d : Dataset) → s.file.now ≡ file → s.cards.now ≡ cards → Entering file cards s.names.now d → Entering s.file.now s.cards.now s.names.now d
entered s file cards d ef ec e = subst (λ x. Entering x s.cards.now s.names.now d) (sym ef) (subst (λ x. Entering file x s.names.now d) (sym ec) e)

-- cards that break one of the identifiers
pub names_refused : (m : Meaning) (file : List ℕ) (cards : List Card) (out : List Name) (fault : NameFault) (r : ReadFault) → ((room : ℕ) (ps : List Placed) → CardsShow file cards ps → RulesKept 11 room ps → NamesFound room ps (Err fault) out) → TellsNames file cards fault r → Judges m file cards (Err r)
names_refused m file cards out (name.Repeated k) r fit (p, is, at) = λ ps rooms passes are kept.
    subst (λ f. Refuses m file rooms (read_fault f)) (sym is) (repeated file ps rooms passes cards are kept m k p (fit rooms ps (shows file ps rooms passes cards are kept) (ordered_kept file ps rooms passes)) at)
names_refused m file cards out (name.Lost k) r fit (p, is, at) = λ ps rooms passes are kept.
    let n = fit rooms ps (shows file ps rooms passes cards are kept) (ordered_kept file ps rooms passes) in
    subst (λ f. Refuses m file rooms (read_fault f)) (sym is) (lost file ps rooms passes cards are kept m k p n.0 n.1 at)

-- cards that keep the rules of the identifiers, judged
pub judged : (m : Meaning) (file : List ℕ) (cards : List Card) (s : Entered) (r : Result (Unit {0}) ReadFault) → s.file.now ≡ file → s.cards.now ≡ cards → ((room : ℕ) (ps : List Placed) → CardsShow file cards ps → RulesKept 11 room ps → Noted (LineKeeps apart room ps) ps None × Noted (LineKeeps aimed room ps) ps None × IndexOf ps s.names.now) → JudgesNamed m s r → Judges m file cards r
judged m file cards s (Ok u) ef ec fit j = λ ps rooms passes are kept.
    let (a, b, index) = fit rooms ps (shows file ps rooms passes cards are kept) (ordered_kept file ps rooms passes) in
    let d = (reads file ps rooms passes cards are kept s.names.now a b index).dataset in
    (reads file ps rooms passes cards are kept s.names.now a b index, belongs file ps rooms passes cards are kept s.names.now a b index m (j d (entered s file cards d ef ec (entering file ps rooms passes cards are kept s.names.now a b index)) (few file ps rooms passes cards are kept s.names.now a b index)))
judged m file cards s (Err f) ef ec fit j = λ ps rooms passes are kept.
    let (a, b, index) = fit rooms ps (shows file ps rooms passes cards are kept) (ordered_kept file ps rooms passes) in
    let d = (reads file ps rooms passes cards are kept s.names.now a b index).dataset in
    found file ps rooms passes cards are kept s.names.now a b index m s f ef ec (j d (entered s file cards d ef ec (entering file ps rooms passes cards are kept s.names.now a b index)) (few file ps rooms passes cards are kept s.names.now a b index))

-- `NamesFit` of a table with so many entries
abbrev pub FitIn : List ℕ → List Card → ℕ → Result ℕ NameFault → List Name → Type 0
FitIn file cards entries r out = (room : ℕ) (ps : List Placed) → CardsShow file cards ps → RulesKept 11 room ps → length cards ≤ entries → NamesFound room ps r out

-- what the rules of the identifiers answer, told or judged
module _ (m : Meaning) (file : List ℕ) (cards : List Card) (out : List Name) (few : length cards ≤ 65535) where
  pub names_told : (r : Result ℕ NameFault) → FitIn file cards 65535 r out → (f : ReadFault) → MatchResult r (λ x. ⊥) (λ e. TellsNames file cards e f) → Judges m file cards (Err f)
  names_told (Ok x) fit f e = elim e [ ]
  names_told (Err e) fit f tells = names_refused m file cards out e f (λ room ps s k. fit room ps s k few) tells

  pub names_judged : (r : Result ℕ NameFault) (n : ℕ) → FitIn file cards 65535 r out → MatchResult r (λ x. ◌≡◌ {A = Result ℕ ReadFault} (Ok n) (Ok x)) (λ e. ⊥) → (s : Entered) → s.file.now ≡ file → s.cards.now ≡ cards → s.names.now ≡ take n out → (j : Result (Unit {0}) ReadFault) → JudgesNamed m s j → Judges m file cards j
  names_judged (Ok x) n fit e s ef ec en j tells = judged m file cards s j ef ec (λ room ps shown k.
      let z : x ≡ n = cc in
      let (a, b, index) = fit room ps shown k few in
      (a, b, subst (IndexOf ps) (ap (λ i. take i out) z ∙ sym en) index)) tells
  names_judged (Err f) n fit e s ef ec en j tells = elim e [ ]

-- what the judge of a book finds, told of the entered cards
pub named_judged : (m : Meaning) (s : Entered) (o : Result (Unit {0}) Finding) (r : Result (Unit {0}) ReadFault) {Q : Finding → ReadFault → Type 0} → ((d : Dataset) → Entering s.file.now s.cards.now s.names.now d → length (entries d) ≤ 65535 → Judged m (body (entries d)) (result_err o)) → MatchResult o (λ u. r ≡ Ok u) (λ f. IsErrAnd r (Q f)) → ((f : Finding) (x : ReadFault) → Q f x → TellsBook s.file.now s.cards.now f x) → JudgesNamed m s r
named_judged m s (Ok u) (Ok v) judged is tells = judged
named_judged m s (Ok u) (Err x) judged is tells = (let z : Err x ≡ Ok u = is in absurd (cc))
named_judged m s (Err f) (Ok v) judged is tells = absurd is
named_judged m s (Err f) (Err x) judged is tells = λ d e few. let (p, same, placed) = tells f x is in record { finding = f; at = p; told = judged d e few; is = same; placed = placed }

-- a drawer that was filled, or has too few cards
module _ (file : List ℕ) (rooms : ℕ) (out : List Card) where
  pub fill_granted : (r : Result ℕ Place) (n : ℕ) → MatchResult r (λ x. ◌≡◌ {A = Result ℕ ReadFault} (Ok n) (Ok x)) (λ p. ⊥) → Fill.Fills file rooms r out → Fill.Fills file rooms (Ok n) out
  fill_granted (Ok x) n e f = subst (λ k. Fill.Fills file rooms (Ok k) out) (let z : x ≡ n = cc in z) f
  fill_granted (Err p) n e f = elim e [ ]

  pub fill_refused : (m : Meaning) (r : Result ℕ Place) (f : ReadFault) → MatchResult r (λ x. ⊥) (λ p. f ≡ NoCard p) → Fill.Fills file rooms r out → (ps : List Placed) → Passes file ps → Refuses m file rooms (read_fault f)
  fill_refused m (Ok n) f e fills ps passes = elim e [ ]
  fill_refused m (Err p) f e (b, noted) ps passes = subst (λ g. Refuses m file rooms (read_fault g)) (sym e) (no_card file ps rooms passes m p (noted ps passes))

-- cards that were filled, judged
module _ (m : Meaning) (file : List ℕ) (rooms n : ℕ) (out : List Card) (ps : List Placed) (passes : Passes file ps) (f : Fill.Filled rooms n out ps) (k : ℕ) (is : k ≡ min n (length out)) where
  cards_are : take k out ≡ cards_of ps
  cards_are = ap (λ j. take j out) is ∙ take_min n out ∙ ap (take n) f.are ∙ take_at (cards_of ps) f.blanks n (length-map (others ps) (λ i. card_at (byte_at ps i)) ∙ sym f.counted)

  pub filled_judged : (u : Unit {0}) → Judges m file (take k out) (Ok u) → Filed m file rooms n out
  filled_judged u j = let (r, belongs) = j ps rooms passes cards_are f.kept in record { placed = ps; read = r; belongs = belongs; filled = f }

  pub refused_judged : (g : ReadFault) → Judges m file (take k out) (Err g) → Refuses m file rooms (read_fault g)
  refused_judged g j = j ps rooms passes cards_are f.kept

  pub fits_few : length (take k out) ≤ 65535
  fits_few = let low = kept_few rooms ps f.kept in let c = f.counted in omega (arith, length-take k out)

-- The answers

pub granted : (m : Meaning) (file : List ℕ) (cards out : List Card) (n : ℕ) → Filed m file (length cards) n out → Accepted m file cards (number n) out
granted m file cards out n f = accepted m file cards (number n) out f.placed f.filled.blanks f.read f.belongs (f.filled.are ∙ ap (λ cs. cs ++ f.filled.blanks) (filed_others f.placed)) f.filled.rest_blank (ap number f.filled.counted)

pub denied : (m : Meaning) (file : List ℕ) (cards out : List Card) (f : ReadFault) → Refuses m file (length cards) (read_fault f) → Blanks out → Declined m file cards (unread (read_fault f)) out
denied m file cards out f r b = declined m file cards (unread (read_fault f)) out (read_fault f) r refl b
