-- What a judge of entered cards says of their dataset. Assumes nothing.
use Rattle.std.proofs.Common.{◌≡◌, ℕ, ◌+◌, Bool, true, false, List, [], ◌∷◌, map, get_or, is_ok, Ok, Err, Result, Decides, Option, refl, ap, subst}
use Rattle.std.proofs.lemmas.Bool.{both_ways}
use Rattle.model.specs.declared.Card.{Card}
use Rattle.model.specs.Lines.{Line}
use Rattle.model.specs.Books.{Meaning}
use Rattle.model.specs.Datasets.{Dataset, IsDataset, entries, lines}
use Rattle.model.specs.Files.{Placed}
use Rattle.model.specs.Rules.{Belongs}
use Rattle.model.specs.Cards.{Holds}
use Rattle.model.specs.Edits.{body}
use Rattle.model.specs.Positions.{Told}
use Rattle.model.specs.Refusals.{lines_of, byte_at, others}
use Rattle.model.proofs.Filing.{held_once}
use Rattle.model.proofs.Judging.{belongs_found, refusal_told}
use Rattle.model.proofs.Refusing.{book_keeps}
use Rattle.std.specs.Result.{result_err}
use Rattle.judging.specs.Findings.{Judged}
use Rattle.judging.specs.declared.finding.Finding.{Finding}
use Rattle.removing.specs.Belonging.{HeldTells}

abbrev placed_line : Line → Placed
placed_line l = record { byte = 0; line = l; ended = [] }

lines_placed : (ls : List Line) → lines_of (map placed_line ls) ≡ ls
lines_placed [] = refl
lines_placed (l ∷ ls) = ap (λ r. l ∷ r) (lines_placed ls)

-- a dataset of which a finding is told does not belong, wherever its lines stand
told_foreign : (m : Meaning) (d : Dataset) → IsDataset d → (number card : ℕ) (missing : Option ℕ) → Told m (body (entries d)) number card missing → Belongs m d → ⊥
told_foreign m d is number card missing t b =
    let ps = map placed_line (lines d) in
    let place = get_or (others ps) card 0 in
    let r = refusal_told m d ps is (lines_placed (lines d)) number card (place + 1) (byte_at ps place) missing t refl refl in
    book_keeps m ps d r.rule _ b r.tells

pub found_none : (m : Meaning) (d : Dataset) → IsDataset d → (o : Result (Unit {0}) Finding) → Judged m (body (entries d)) (result_err o) → (r : Bool) → r ≡ is_ok o → Decides r (Belongs m d)
found_none m d is (Ok u) f true e = (λ _. belongs_found m d f, λ _. refl)
found_none m d is (Ok u) f false e = absurd (both_ways false refl e)
found_none m d is (Err f) t true e = absurd (both_ways true e refl)
found_none m d is (Err f) t false e = (λ q. absurd (both_ways false refl q), λ b. absurd (told_foreign m d is _ _ _ t b))

-- no drawer holds two datasets
pub told_held : (m : Meaning) (file : List ℕ) (cards : List Card) (d : Dataset) → Holds file cards d → (r : Bool) → Decides r (Belongs m d) → HeldTells m file cards r
told_held m file cards d h r b = record { held = (d, h); belongs = λ e g. subst (λ x. Decides r (Belongs m x)) (held_once file cards d e h g) b }
