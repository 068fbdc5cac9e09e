-- What a judge of entries answers. Assumes nothing.
use Rattle.std.specs.Prelude.{◌≡◌, ℕ, List, Some, None, Option, MatchOption}
use Rattle.model.specs.Books.{Meaning}
use Rattle.model.specs.Datasets.{Entry}
use Rattle.model.specs.Refusals.{BookRule, book_rule_number}
use Rattle.model.specs.Positions.{TopAt, AllKeep, BrokenAt, FindsNone, Told}
use Rattle.judging.specs.declared.finding.Finding.{Finding}
use Rattle.judging.specs.declared.finding.Rule.{Rule}
use Rattle.judging.specs.declared.finding.Rule.TheVariants.{Known, Taken, Aimed, Single, Needed, Filled}

abbrev pub rule_number : Rule → ℕ
rule_number Known = 14
rule_number Taken = 15
rule_number Aimed = 16
rule_number Single = 17
rule_number (Needed t) = 18
rule_number Filled = 19

abbrev pub missing_type : Rule → Option ℕ
missing_type Known = None
missing_type Taken = None
missing_type Aimed = None
missing_type Single = None
missing_type (Needed t) = Some t
missing_type Filled = None

-- every rule holds throughout, or this is the lowest that is broken, told at the first entry that breaks it
abbrev pub Judged : Meaning → List Entry → Option Finding → Type 0
Judged m b o = MatchOption o (FindsNone m b) (λ f. Told m b (rule_number f.rule) f.card (missing_type f.rule))

-- what is told of one rule: nothing where all keep it, or the first entry that breaks it
abbrev pub Asked : Meaning → List Entry → BookRule → Option Finding → Type 0
Asked m b rule o = MatchOption o (TopAt m b rule × AllKeep m b rule) (λ f. (rule_number f.rule ≡ book_rule_number rule) × BrokenAt m b rule f.card (missing_type f.rule))
