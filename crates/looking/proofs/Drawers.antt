-- The cards of a drawer one by one. Assumes nothing.
use Rattle.std.proofs.Common.{◌≡◌, ℕ, zero, suc, ◌<◌, ◌≤◌, List, [], ◌∷◌, ◌++◌, length, get_or, sym, ap, ◌∙◌, subst, arith}
use lib.ListN.{get_or-append}
use Rattle.std.proofs.ByRecursion.{All-get_or}
use Rattle.model.specs.declared.Card.{Card}
use Rattle.model.specs.Datasets.{Dataset, Entry, entries}
use Rattle.model.specs.Files.{Placed}
use Rattle.model.specs.Cards.{blank, Blanks, Files, FilesAll, Holds}
use Rattle.model.specs.Edits.{no_entry, no_card}
use Rattle.model.proofs.Drawers.{files_long}
use Rattle.looking.specs.Looking.{Shown}

files_at : (ps : List Placed) (cs : List Card) (es : List Entry) (n : ℕ) → FilesAll ps cs es → n < length es → Files ps (get_or cs n no_card) (get_or es n no_entry)
files_at ps [] [] n f h = absurd (omega arith)
files_at ps [] (e ∷ es) n f h = absurd f
files_at ps (c ∷ cs) [] n f h = absurd f
files_at ps (c ∷ cs) (e ∷ es) zero f h = f.0
files_at ps (c ∷ cs) (e ∷ es) (suc n) f h = files_at ps cs es n f.1 (omega arith)

-- each card before the blank ones shows its entry
pub shown_at : (file : List ℕ) (cs : List Card) (d : Dataset) (h : Holds file cs d) (k : ℕ) → k < length (entries d) → Shown file (get_or cs k no_card) (get_or (entries d) k no_entry)
shown_at file cs d h k inside =
    let long = files_long h.placed h.named (entries d) h.files in
    let here : get_or cs k no_card ≡ get_or h.named k no_card = ap (λ x. get_or x k no_card) h.are ∙ get_or-append h.named h.blanks no_card k (omega arith) in
    record { placed = h.placed; lined = h.passes.lined; files = subst (λ c. Files h.placed c (get_or (entries d) k no_entry)) (sym here) (files_at h.placed h.named (entries d) k h.files inside) }

blank_behind : (xs ys : List Card) (k : ℕ) → Blanks ys → length xs ≤ k → k < length (xs ++ ys) → get_or (xs ++ ys) k no_card ≡ blank
blank_behind [] ys k b low high = All-get_or (λ c. c ≡ blank) ys k no_card high b
blank_behind (x ∷ xs) ys zero b low high = absurd (omega arith)
blank_behind (x ∷ xs) ys (suc k) b low high = blank_behind xs ys k b (omega arith) (omega arith)

-- and the others are blank
pub blank_at : (file : List ℕ) (cs : List Card) (d : Dataset) (h : Holds file cs d) (k : ℕ) → length (entries d) ≤ k → k < length cs → get_or cs k no_card ≡ blank
blank_at file cs d h k past lt =
    let long = files_long h.placed h.named (entries d) h.files in
    ap (λ x. get_or x k no_card) h.are ∙ blank_behind h.named h.blanks k h.rest_blank (omega arith) (omega (arith, ap length h.are))
