-- What is written of a dataset has its lines. Assumes nothing.
use Rattle.std.proofs.Common.{◌≡◌, ℕ, ◌+◌, List, [], ◌∷◌, ◌++◌, map, length, sym, refl, ap, ◌∙◌, inr, append_assoc}
use Rattle.std.specs.List.{AllByRecursion}
use Rattle.model.specs.Lines.{Line, GoodLine, spell}
use Rattle.model.specs.Datasets.{Dataset, IsDataset, lines, MARK, with_line_feeds, written}
use Rattle.model.specs.Files.{Placed, GoodPlaced, all_bytes, InPlace, Lined, HasLines}

-- the lines, each from its byte, with a line feed
abbrev pub placed_at : ℕ → List Line → List Placed
placed_at at [] = []
placed_at at (l ∷ ls) = record { byte = at; line = l; ended = 10 ∷ [] } ∷ placed_at (at + length (spell l ++ 10 ∷ [])) ls

pub placed_lines : (at : ℕ) (ls : List Line) → map (λ p. p.line) (placed_at at ls) ≡ ls
placed_lines at [] = refl
placed_lines at (l ∷ ls) = ap (λ more. l ∷ more) (placed_lines (at + length (spell l ++ 10 ∷ [])) ls)

pub placed_bytes : (at : ℕ) (ls : List Line) → with_line_feeds ls ≡ all_bytes (placed_at at ls)
placed_bytes at [] = refl
placed_bytes at (l ∷ ls) = ap (λ more. spell l ++ 10 ∷ more) (placed_bytes (at + length (spell l ++ 10 ∷ [])) ls) ∙ sym (append_assoc (spell l) (10 ∷ []) (all_bytes (placed_at (at + length (spell l ++ 10 ∷ [])) ls)))

pub placed_good : (at : ℕ) (ls : List Line) → AllByRecursion GoodLine ls → AllByRecursion GoodPlaced (placed_at at ls)
placed_good at [] g = tt
placed_good at (l ∷ ls) g = (record { good = g.0; ends = inr (inr refl) }, placed_good (at + length (spell l ++ 10 ∷ [])) ls g.1)

pub placed_in_place : (at : ℕ) (ls : List Line) → InPlace at (placed_at at ls)
placed_in_place at [] = tt
placed_in_place at (l ∷ ls) = (refl, placed_in_place (at + length (spell l ++ 10 ∷ [])) ls)

pub written_lined : (d : Dataset) → IsDataset d → Lined (written d) (placed_at 3 (lines d))
written_lined d is = record { mark = MARK; marked = inr refl; are = ap (λ more. MARK ++ more) (placed_bytes 3 (lines d)); good = placed_good 3 (lines d) is.spelled; placed = placed_in_place 3 (lines d) }

pub written_has_lines : (d : Dataset) → IsDataset d → HasLines (written d) d
written_has_lines d is = (placed_at 3 (lines d), written_lined d is, placed_lines 3 (lines d))
