-- The rules that ask of one card at a time. Assumes nothing.
use Rattle.std.specs.Prelude.{ℕ, Bool, List, Decides, Option}
use Rattle.model.specs.Books.{Meaning}
use Rattle.model.specs.Datasets.{Entry}
use Rattle.model.specs.Refusals.{BookRule}
use Rattle.model.specs.Positions.{KeepsAt}
use Rattle.judging.specs.Marks.{Marked}
use Rattle.judging.specs.Findings.{Asked}
use Rattle.judging.specs.declared.finding.Finding.{Finding}
use Rattle.judging.specs.declared.marks.Mark.{Mark}

-- r says whether entry i keeps the rule, of entries that are shown and marked
abbrev pub Tests : Meaning → (List Entry → Type 0) → List Mark → BookRule → ℕ → Bool → Type 0
Tests m Shows marks rule i r = (b : List Entry) → Shows b → Marked m b marks → Decides r (KeepsAt m b rule i)

-- o is what is told of the rule, of entries that are shown and marked
abbrev pub Answers : Meaning → (List Entry → Type 0) → List Mark → BookRule → Option Finding → Type 0
Answers m Shows marks rule o = (b : List Entry) → Shows b → Marked m b marks → Asked m b rule o
