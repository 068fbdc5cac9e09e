-- The smallest tree: its file, its cards, and the refusal of the file that is one byte short. Assumes nothing.
use Rattle.std.proofs.Common.{◌≡◌, ℕ, zero, suc, not, T, List, [], ◌∷◌, take, Some, None, codes, refl, subst, inl, arith, lit<, lit≤}
use lib.Utf8.{encode}
use Rattle.std.specs.List.{ContainsAt as Has}
use Rattle.model.specs.Characters.{Clean}
use Rattle.model.specs.Lines.{Line, GoodLine, line_of}
use Rattle.model.specs.Lines as line
use Rattle.model.specs.Datasets.{none, IsDataset, entry, HEAD, TRLR, MARK}
use Rattle.model.specs.Files.{Placed, Lined}
use Rattle.model.specs.Tables.{home}
use Rattle.model.specs.Rules.{Belongs}
use Rattle.model.specs.Refusals.{Starts, Refuses, fault}
use Rattle.model.specs.LineTurns.{is_marked, found_at}
use Rattle.model.specs.Examples.{smallest_file, smallest, words_of, SmallestTree}
use Rattle.model.proofs.Members.{has_here}
use Rattle.model.proofs.LineTurns.{marked_decides, scanned_start, scanned_more, scanned_lined, refused_ended}
use Rattle.model.proofs.Witness.{own_tag, no_need}

-- Its lines

abbrev head_line : Line
head_line = line_of 0 None HEAD line.nothing

abbrev gedcom_line : Line
gedcom_line = line_of 1 None (codes "GEDC") line.nothing

abbrev version_line : Line
version_line = line_of 2 None (codes "VERS") (line.text (codes "7.0"))

abbrev trailer_line : Line
trailer_line = line_of 0 None TRLR line.nothing

clean_number : Clean (codes "7.0")
unfolding encode
clean_number = record { characters = codes "7.0"; real = refl; allowed = refl; are = refl }

good_head : GoodLine head_line
good_head = record { identified = tt; tagged = refl; valued = tt }

good_gedcom : GoodLine gedcom_line
good_gedcom = record { identified = tt; tagged = refl; valued = tt }

good_version : GoodLine version_line
good_version = record { identified = tt; tagged = refl; valued = (record { clean = clean_number; one = refl }, lit< tt) }

good_trailer : GoodLine trailer_line
good_trailer = record { identified = tt; tagged = refl; valued = tt }

is_smallest : IsDataset smallest
is_smallest = record {
  spelled = (good_head, (good_gedcom, (good_version, (good_trailer, tt))));
  shallow = (lit≤ tt, (lit≤ tt, (lit≤ tt, (lit≤ tt, tt))));
  tagged = (own_tag (entry 0 None HEAD none) tt tt, (own_tag (entry 1 None (codes "GEDC") none) tt tt, (own_tag (entry 2 None (codes "VERS") (words_of "7.0")) tt tt, (own_tag (entry 0 None TRLR none) tt tt, tt))));
  records_tagged = tt;
  apart = tt;
  payloads = (tt, (tt, (inl (lit< tt), (tt, tt))));
}

-- The scan of the file, line by line

clean_file : Clean smallest_file
unfolding encode
clean_file = record { characters = smallest_file; real = refl; allowed = refl; are = refl }

clean_cut : Clean (take 31 smallest_file)
unfolding encode
clean_cut = record { characters = take 31 smallest_file; real = refl; allowed = refl; are = refl }

unmarked : (file : List ℕ) → T (not (is_marked file)) → Starts file MARK → ⊥
unmarked file t s = subst (λ b. T (not b)) ((marked_decides file).1 s) t

three : (file : List ℕ) → List Placed
three file = found_at file 0 head_line ∷ found_at file 7 gedcom_line ∷ found_at file 14 version_line ∷ []

whole : Lined smallest_file (found_at smallest_file 0 head_line ∷ found_at smallest_file 7 gedcom_line ∷ found_at smallest_file 14 version_line ∷ found_at smallest_file 25 trailer_line ∷ [])
whole =
    let f = smallest_file in
    let a = scanned_more f [] 0 head_line (scanned_start f clean_file (unmarked f tt)) (lit< tt) refl in
    let b = scanned_more f _ 7 gedcom_line a (lit< tt) refl in
    let c = scanned_more f _ 14 version_line b (lit< tt) refl in
    scanned_lined f _ 32 (scanned_more f _ 25 trailer_line c (lit< tt) refl) (lit≤ tt)

cut_short : (m : Rattle.model.specs.Books.Meaning) (cards : ℕ) → Refuses m (take 31 smallest_file) cards (fault 4 4 25)
cut_short m cards =
    let f = take 31 smallest_file in
    let a = scanned_more f [] 0 head_line (scanned_start f clean_cut (unmarked f tt)) (lit< tt) refl in
    let b = scanned_more f _ 7 gedcom_line a (lit< tt) refl in
    let c = scanned_more f _ 14 version_line b (lit< tt) refl in
    refused_ended m f cards _ 25 (lit≤ tt) clean_cut c (lit< tt) (lit≤ tt)

-- It belongs to the home book

some_is : (a t : ℕ) → Some a ≡ Some t → a ≡ t
some_is a t e = cc

only_need : (a j t : ℕ) → Rattle.std.specs.List.slice_get (a ∷ []) j ≡ Some t → Has (Some a ∷ []) (Some t)
only_need a zero t e = subst (λ n. Has (Some a ∷ []) (Some n)) (some_is a t e) (has_here (Some a) [])
only_need a (suc j) t e = absurd (no_need t e)

belongs_smallest : Belongs home smallest
belongs_smallest = record {
  known = (tt, (tt, (tt, tt)));
  taken = (inl refl, (inl refl, (inl refl, tt)));
  aimed = (λ t i k p. tt, (λ t i k p. tt, (λ t i k p. tt, tt)));
  single = (λ h. absurd (omega arith), (λ h. absurd (omega arith), (λ h. absurd (omega arith), tt)));
  top_complete = only_need 0;
  complete = (only_need 5, (only_need 9, (λ j t n. absurd (no_need t n), tt)));
  filled = (λ _. inl refl, (λ b. absurd (let z : ◌≡◌ {A = ℕ} 0 1 = cc b.1 in omega arith), (λ b. absurd (let z : ◌≡◌ {A = ℕ} 0 1 = cc b.0 in omega arith), tt)));
}

pub smallest_tree : SmallestTree
smallest_tree = record {
  long = refl;
  is = is_smallest;
  has_lines = (_, whole, refl);
  belongs = belongs_smallest;
  cards = refl;
  written_long = refl;
  cut_short = cut_short;
}
