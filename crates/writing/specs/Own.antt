-- The line that a card stands for, and those that continue it, by a cursor. Assumes nothing.
use Rattle.std.specs.Prelude.{◌≡◌, ℕ, ◌+◌, ◌≤◌, List, [], ◌∷◌, ◌++◌, length, IsSomeAnd, IfSome, None, Option, MatchOption, ◌≢◌}
use Rattle.std.specs.Borrow.{Bor}
use Rattle.model.specs.Lines.{Line, line_of, spell}
use Rattle.model.specs.Datasets.{CONT, text_value, first_value, further, continuations, Entry}
use Rattle.model.specs.Files.{Placed, Lined}
use Rattle.model.specs.Cards.{StandsAt}
use Rattle.model.specs.Refusals.{lines_of}
use Rattle.lines.specs.declared.steps.Found.{Found}
use Rattle.lines.specs.Shown.{Shows}
use Rattle.looking.proofs.Left.{Left}
use Rattle.writing.specs.Written.{head_of}

-- from the byte `at` on a CONT line of this level stands for each of the texts, and no other CONT line follows them
pub record Trails (file : List ℕ) (at level : ℕ) (texts : List (List ℕ)) : Type 0 where
  pub own : List Placed
  pub rest : List Placed
  pub left : Left file at (own ++ rest)
  pub reads : lines_of own ≡ continuations level texts
  pub whole : (p : Placed) (more : List Placed) → rest ≡ p ∷ more → p.line.tag ≢ CONT

-- the first line of an entry
abbrev pub own_line : Entry → Line
own_line e = line_of e.level e.identifier e.tag (first_value e.payload)

-- e stands in the lines from the byte `at` on
pub record Before (file : List ℕ) (at : ℕ) (e : Entry) : Type 0 where
  pub first : Placed
  pub own : List Placed
  pub rest : List Placed
  pub left : Left file at (first ∷ own ++ rest)
  pub line : first.line ≡ own_line e
  pub reads : lines_of own ≡ continuations (e.level + 1) (further e.payload)
  pub whole : (p : Placed) (more : List Placed) → rest ≡ p ∷ more → p.line.tag ≢ CONT

abbrev pub BeforeAt : List ℕ → ℕ → List ℕ → ℕ → Type 0
BeforeAt file byte part at = (ps : List Placed) (e : Entry) → Lined file ps → StandsAt ps byte e → Before part at e

-- f is the line of e, and what continues it follows
pub record OwnOf (f : Found) (file : List ℕ) (next : ℕ) (e : Entry) : Type 0 where
  pub shows : Shows f.line (own_line e)
  pub spelled : f.bytes.now ≡ spell (own_line e)
  pub behind : Trails file next (e.level + 1) (further e.payload)

abbrev pub OwnNext : List ℕ → ℕ → List ℕ → ℕ → Option Found → Type 0
OwnNext file at part next r = (e : Entry) → Before file at e → IsSomeAnd r (λ f. OwnOf f part next e)

-- the cursor is behind the bytes of the line
abbrev pub Passed : ℕ → Option Found → Type 0
Passed next r = IfSome r (λ f. length f.bytes.now + 1 ≤ next)

-- the bytes of the first of the CONT lines that are left
pub record NextOf (file : List ℕ) (next level : ℕ) (texts : List (List ℕ)) (bytes : List ℕ) : Type 0 where
  pub text : List ℕ
  pub more : List (List ℕ)
  pub are : texts ≡ text ∷ more
  pub spelled : bytes ≡ spell (line_of level None CONT (text_value text))
  pub behind : Trails file next level more

abbrev pub GoesOn : List ℕ → ℕ → ℕ → Option (Bor (List ℕ)) → Type 0
GoesOn file at next r = (level : ℕ) (texts : List (List ℕ)) → Trails file at level texts → MatchOption r (texts ≡ []) (λ b. NextOf file next level texts b.now)

abbrev pub Advances : ℕ → ℕ → Option (Bor (List ℕ)) → Type 0
Advances at next r = MatchOption r (at ≤ next) (λ b. at + length b.now + 1 ≤ next)

-- the part is that line up to the end of its tag
abbrev pub HeadOf : Found → List ℕ → Type 0
HeadOf f r = (l : Line) → Shows f.line l → f.bytes.now ≡ spell l → r ≡ head_of l
