-- The cards that name lines, and a file that passes no check. Assumes nothing.
use Rattle.std.proofs.Common.{◌≡◌, ℕ, ◌<◌, ◌≤◌, false, List, length, take, drop, Some, None, Ok, Err, Result, IfOk, sym, refl, ap, ◌∙◌, subst, inl, inr, arith, length-take}
use lib.ListN.{length-map}
use Rattle.std.specs.List.{AllByRecursion}
use Rattle.std.proofs.ByRecursion.{All-from_get_or}
use Rattle.std.proofs.lemmas.List.{take-append-drop, get_or-take, drop_more, drop_all}
use Rattle.std.specs.Result.{result_ok}
use Rattle.std.proofs.lemmas.Option.{none-some, same_Some}
use Rattle.std.proofs.lemmas.Bool.{cases_lt}
use Rattle.model.specs.declared.Card.{Card}
use Rattle.model.specs.declared.Kind.TheVariants.{Nothing}
use Rattle.model.specs.declared.State.TheVariants.{Blank}
use Rattle.model.specs.declared.Fault.{Fault}
use Rattle.model.specs.Books.{Meaning}
use Rattle.model.specs.Datasets.{Dataset, entries, all_lines}
use Rattle.model.specs.Lines.{Line}
use Rattle.model.specs.Files.{Placed, Passes, Throughout}
use Rattle.model.specs.Cards.{blank, Blanks, FilesAll, Rising, Holds}
use Rattle.model.specs.Refusals.{Refuses, lined, fault, lines_of, byte_at, room, Keeps12, Keeps13}
use Rattle.model.proofs.Deciding.{refuses_once}
use Rattle.model.proofs.Filing.{files_named, blanks_start}
use Rattle.model.proofs.Index.{place_cases}
use Rattle.model.proofs.Parts.{Begins, part_once}
use Rattle.model.proofs.Walking.{head_not_cont}
use Rattle.characters.specs.declared.fault.ByteFault.TheVariants as byte
use Rattle.lines.specs.declared.fault.LineFault.{LineFault}
use Rattle.lines.specs.declared.fault.LineFault.TheVariants as line
use Rattle.lines.specs.Faults.{line_fault}
use Rattle.lines.specs.Counts.{Checks}
use Rattle.lines.specs.declared.rules.Counts.{Counts}
use Rattle.naming.specs.declared.NameFault.{NameFault}
use Rattle.naming.specs.declared.NameFault.TheVariants.{Repeated, Lost}
use Rattle.naming.specs.Naming.{Name, NamesFit, NamesFound}
use Rattle.model.proofs.Lining.{lined_once}
use Rattle.holding.specs.Standing.{card, NamedFront, OnLines, Fits}
use Rattle.model.specs.Removal.{card_count}
use Rattle.holding.specs.declared.telling.Kept.{Kept}
use Rattle.holding.specs.Holding.{Front, HeldAs}
use Rattle.holding.proofs.Keeping.{Framed-cards, framed_cards}
use Rattle.holding.proofs.Deciding.{ordered_rules, filed_on_lines, held_fits, as_placed, kept_rules, holds_names, names_hold, cards_show}

-- The cards at the front

begins : (cards : List Card) (n : ℕ) → (n < length cards → (card cards n).state ≡ Blank) → Begins (λ c. c.state ≡ Blank) (drop n cards)
begins cards n h = elim (cases_lt n (length cards)) [
  | inl q ↦ subst (Begins (λ c. c.state ≡ Blank)) (sym (drop_more cards n blank q)) (h q)
  | inr q ↦ subst (Begins (λ c. c.state ≡ Blank)) (sym (drop_all n cards q)) tt
]

pub front_once : (file : List ℕ) (cards : List Card) (n : ℕ) (d : Dataset) → NamedFront cards n → (h : Holds file cards d) → (take n cards ≡ h.named) × (drop n cards ≡ h.blanks)
front_once file cards n d f h =
    let w = f.within in
    let long : length (take n cards) ≡ n = omega (arith, length-take n cards) in
    let named : AllByRecursion (λ c. c.state ≡ Blank → ⊥) (take n cards) = All-from_get_or (λ c. c.state ≡ Blank → ⊥) (take n cards) blank (λ k l. subst (λ (c : Card). c.state ≡ Blank → ⊥) (sym (get_or-take n cards k blank (omega arith))) (f.named k (omega arith))) in
    part_once (λ c. c.state ≡ Blank → ⊥) (λ c. c.state ≡ Blank) (λ c p q. p q) (take n cards) h.named (drop n cards) h.blanks named (files_named h.placed h.named (entries d) h.files) (begins cards n f.ends) (blanks_start h.blanks h.rest_blank) (take-append-drop n cards ∙ h.are)

-- The check of the lines

any_book : Meaning
any_book = record { types = 0; row = λ c t. None; needs = λ c. 0; need = λ c j. None; kind = λ t. Nothing; member = λ s w. false }

numbers : (f : LineFault) → (line_fault f).number ≡ 11 → ⊥
numbers (line.Bytes byte.TooLong) e = omega arith
numbers (line.Bytes (byte.Malformed x)) e = omega arith
numbers (line.Bytes (byte.Banned x)) e = omega arith
numbers (line.NoLine x) e = omega arith
numbers (line.TooDeep x) e = omega arith
numbers (line.Header x) e = omega arith
numbers (line.Trailer x) e = omega arith
numbers (line.Jump x) e = omega arith
numbers (line.Named x) e = omega arith
numbers (line.Continuation x) e = omega arith

-- a file that passes is refused only where a drawer has no card
pub passes_not_refused : (file : List ℕ) (ps : List Placed) (f : LineFault) → Passes file ps → ((m : Meaning) (cards : ℕ) → Refuses m file cards (line_fault f)) → ⊥
passes_not_refused file ps f p r = numbers f (ap (λ (x : Fault). x.number) (refuses_once any_book file 0 (line_fault f) (fault 11 1 (byte_at ps 0)) (r any_book 0) full))
  where
    some : 0 < length ps
    some = let s = p.ordered.some in omega (arith, length-map ps (λ q. q.line))

    full : Refuses any_book file 0 (fault 11 1 (byte_at ps 0))
    full = lined ps p.short p.clean p.lined (record {
      rule = room;
      earlier = ordered_rules 0 ps p.ordered;
      breaks = record {
        place = 0;
        first = record {
          within = some;
          breaks = λ keeps. elim (place_cases ps 0 some) [
            | inl e ↦ head_not_cont (ap (λ (l : Line). l.tag) (sym ((p.ordered.first 0 p.ordered.some).0 refl)) ∙ e)
            | inr (k, h, e) ↦ let z = keeps k h e in omega arith
          ];
          before = λ j h. absurd (omega arith);
        };
        told = refl;
      };
    })

pub passes_checked : (file : List ℕ) (ps : List Placed) (r : Result Counts LineFault) → Passes file ps → Checks file r → None ≡ result_ok r → ⊥
passes_checked file ps (Ok n) p k e = none-some n e
passes_checked file ps (Err f) p k e = passes_not_refused file ps f p k

-- What a dataset that is held says of the drawer

module _ (file : List ℕ) (cards : List Card) (n : ℕ) (d : Dataset) (f : NamedFront cards n) (h : Holds file cards d) where
  pub few_held : n ≤ 65535
  few_held = let w = f.within in let few = h.few in omega (arith, length-take n cards, ap length (front_once file cards n d f h).0)

  pub blanks_held : Blanks (drop n cards)
  blanks_held = subst Blanks (sym (front_once file cards n d f h).1) h.rest_blank

  files_held : FilesAll h.placed (take n cards) (entries d)
  files_held = subst (λ cs. FilesAll h.placed cs (entries d)) (sym (front_once file cards n d f h).0) h.files

  pub lines_held : OnLines h.placed (take n cards)
  lines_held = filed_on_lines h.placed (take n cards) (entries d) files_held (subst Rising (sym (front_once file cards n d f h).0) h.rising)

  pub fits_held : Fits h.placed (take n cards)
  fits_held = held_fits file h.placed (take n cards) d h.passes.lined files_held h.is

-- What the names of the cards then say

throughout : (K : List Line → ℕ → Type 0) (qs : List Placed) → ((i : ℕ) → i < length qs → K (lines_of qs) i) → Throughout K (lines_of qs)
throughout K qs h i l = h i (omega (arith, length-map qs (λ q. q.line)))

module _ (file : List ℕ) (cards : List Card) (n : ℕ) (f : Front file cards n) (table out : List Name) (low : n ≤ length table) where
  abbrev cs : List Card
  cs = take n cards

  framing : Framed-cards file f.placed f.passes cs
  framing = framed_cards file f.placed f.passes cs f.lines f.fits

  abbrev left : List Placed
  left = as_placed (all_lines framing.es)

  long : length cs ≡ n
  long = let w = f.named.within in omega (arith, length-take n cards)

  found : (r : Result ℕ NameFault) → NamesFit file cs table r out → NamesFound 0 left r out
  found r fit = fit 0 left (cards_show file f.placed f.passes cs framing.es framing.kept) (kept_rules file f.placed f.passes cs framing.es framing.kept framing.shaped 0) (omega (arith, long))

  pub tell_held : (h : Kept) → h.cards.now ≡ cs → NamesFit file cs table (Ok h.names) out → h.names ≤ length out → HeldAs file cards h out
  tell_held h same fit few =
      let (k12, k13, index) = found (Ok h.names) fit in
      let q = names_hold file f.placed f.passes cs framing.es framing.kept framing.shaped cards (drop n cards) f.lines (sym (take-append-drop n cards)) (let few = f.few in omega (arith, long)) f.rest_blank (throughout Keeps12 left k12) (throughout Keeps13 left k13) in
      let counted : n ≡ card_count q.dataset = sym long ∙ q.many in
      record { dataset = q.dataset; holds = q.holds; cards_are = same ∙ ap (λ k. take k cards) counted; counted = ap length same ∙ q.many; placed = left; lines_are = q.lines_are; within = few; index = index }

  names_of : (d : Dataset) → Holds file cards d → Throughout Keeps12 (lines_of left) × Throughout Keeps13 (lines_of left)
  names_of d h =
      let same = lined_once file h.placed f.placed h.passes.lined f.passes.lined in
      holds_names file f.placed f.passes cs framing.es framing.kept framing.shaped d (subst (λ ps. FilesAll ps cs (entries d)) same (files_held file cards n d f.named h)) h.is

  pub tell_found : (h : Kept) (r : Result ℕ NameFault) → h.cards.now ≡ cs → NamesFit file cs table r out → IfOk r (λ names. names ≤ length out) → Some h.names ≡ result_ok r → HeldAs file cards h out
  tell_found h (Ok names) same fit few e =
      let is = sym (same_Some h.names names e) in
      tell_held h same (subst (λ x. NamesFit file cs table (Ok x) out) is fit) (subst (λ x. x ≤ length out) is few)
  tell_found h (Err x) same fit few e = absurd (none-some h.names (sym e))

  pub tell_none : (x : NameFault) → NamesFit file cs table (Err x) out → (d : Dataset) → Holds file cards d → ⊥
  tell_none (Repeated k) fit d h =
      let (i, first, _) = found (Err (Repeated k)) fit in
      first.breaks ((names_of d h).0 i (let w = first.within in omega (arith, length-map left (λ q. q.line))))
  tell_none (Lost k) fit d h =
      let (_, (i, first, _)) = found (Err (Lost k)) fit in
      first.breaks ((names_of d h).1 i (let w = first.within in omega (arith, length-map left (λ q. q.line))))

  pub tell_lost : (r : Result ℕ NameFault) → NamesFit file cs table r out → None ≡ result_ok r → (d : Dataset) → Holds file cards d → ⊥
  tell_lost (Ok names) fit e = absurd (none-some names e)
  tell_lost (Err x) fit e = tell_none x fit
