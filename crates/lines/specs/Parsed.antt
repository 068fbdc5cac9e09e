-- What the parts of a line are, and what a line that was read shows. Assumes nothing.
use Rattle.std.specs.Prelude.{◌≡◌, ℕ, min, List, ◌∷◌, Some, None, Option, MatchOption}
use Rattle.std.specs.Borrow.{Bor}
use Rattle.model.specs.Scan.{read_level, read_name, marked, read_tag}

-- a part of the file
abbrev pub Part : Type 0
Part = Bor (List ℕ)

-- a level is counted up to 100
abbrev pub ReadsLevel : List ℕ → Option (ℕ × Part) → Type 0
ReadsLevel bs r = MatchOption r (read_level bs ≡ None) (λ x. (n : ℕ) × (read_level bs ≡ Some (n, x.1.now)) × (x.0 ≡ min 100 n))

abbrev pub MarkedIs : List ℕ → Option (Part × Part) → Type 0
MarkedIs cs r = MatchOption r (read_name cs ≡ None) (λ x. (name : List ℕ) × (read_name cs ≡ Some (name, x.1.now)) × (x.0.now ≡ marked name))

abbrev pub ReadsMarked : List ℕ → Option (Part × Part) → Type 0
ReadsMarked bs r = (cs : List ℕ) → bs ≡ 64 ∷ cs → MarkedIs cs r

abbrev pub ReadsTag : List ℕ → Option (Part × Part) → Type 0
ReadsTag bs r = MatchOption r (read_tag bs ≡ None) (λ x. read_tag bs ≡ Some (x.0.now, x.1.now))
