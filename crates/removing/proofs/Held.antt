-- The cards of a dataset that a drawer holds, entered. Assumes nothing.
use Rattle.std.proofs.Common.{◌≡◌, ℕ, List, take, sym, ap, ◌∙◌, subst}
use Rattle.std.proofs.lemmas.List.{take_at}
use Rattle.model.specs.declared.Card.{Card}
use Rattle.model.specs.Datasets.{Dataset, entries}
use Rattle.model.specs.Files.{Lined}
use Rattle.model.specs.Cards.{FilesAll, Holds}
use Rattle.model.specs.Removal.{card_count}
use Rattle.model.proofs.Drawers.{files_long, held_few}
use Rattle.naming.specs.Naming.{Name}
use Rattle.holding.specs.Holding.{HeldAs}
use Rattle.holding.specs.declared.telling.Kept.{Kept}
use Rattle.reading.specs.Entered.{Names}
use Rattle.reading.specs.declared.entered.Entered.{Entered}
use Rattle.reading.proofs.Reading.{names_of}
use Rattle.removing.specs.Entering.{EnteredFrom}

-- the cards that name lines stand at the front
front_is : (file : List ℕ) (cards : List Card) (d : Dataset) (h : Holds file cards d) → take (card_count d) cards ≡ h.named
front_is file cards d h = ap (take (card_count d)) h.are ∙ take_at h.named h.blanks (card_count d) (files_long h.placed h.named (entries d) h.files)

pub entered : (file : List ℕ) (cards : List Card) (kept : Kept) (table : List Name) (s : Entered) → HeldAs file cards kept table → s.file.now ≡ file → s.cards.now ≡ kept.cards.now → s.names.now ≡ take kept.names table → EnteredFrom file cards s
entered file cards kept table s h same-file same-cards same-names =
    let d = h.dataset in
    let o = h.holds in
    let front : s.cards.now ≡ o.named = same-cards ∙ h.cards_are ∙ front_is file cards d o in
    record {
      dataset = d;
      holds = o;
      entered = record {
        entering = record {
          placed = o.placed;
          lined = subst (λ f. Lined f o.placed) (sym same-file) o.passes.lined;
          files = subst (λ cs. FilesAll o.placed cs (entries d)) (sym front) o.files;
          is = o.is;
          names_are = subst (Names (entries d)) (sym same-names) (names_of h.placed d o.is h.lines_are (take kept.names table) h.index);
        };
        few = held_few file cards d o;
      };
    }
