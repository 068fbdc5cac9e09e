-- Whether a card is that of a line which a cursor comes to. Assumes nothing.
use Rattle.std.specs.Prelude.{◌≡◌}
use Rattle.model.specs.declared.Card.{Card}
use Rattle.model.specs.Datasets.{CONT}
use Rattle.lines.specs.declared.steps.Found.{Found}

pub record IsCardOf (c : Card) (f : Found) : Type 0 where
  pub byte : c.byte ≡ f.byte
  pub own : f.line.tag.now ≡ CONT → ⊥
