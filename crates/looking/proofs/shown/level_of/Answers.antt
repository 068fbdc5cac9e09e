use Rattle.std.proofs.Common.{◌≡◌, ℕ, List, Some, None, Option, refl, arith, ◌∙◌}
use Rattle.std.proofs.lemmas.Grind.{common_steps}
use Rattle.model.specs.declared.Card.{Card}
use Rattle.lines.specs.declared.line.Line.{Line}
use Rattle.looking.specs.Looking.{LineAt, LevelOf}
use Rattle.looking.proofs.Showing.{entry_shows, entry_there}
use Rattle.looking.proofs.shown.level_of.Goals as goal

level : (file : List ℕ) (c : Card) (r : Option Line) (n : ℕ) → LineAt file c.byte r → ((v : Line) → r ≡ Some v → n ≡ v.level) → LevelOf file c n
level file c None n at e ps entry l f = absurd (entry_there file c.byte at ps _ l f.stands)
level file c (Some v) n at e ps entry l f = e v refl ∙ (entry_shows file c.byte v at ps _ l f.stands).level

pub returns : goal.returns
returns c = level c.args.file.now c.args.card c.line_at.result c.map_or.result c.line_at.ensures (λ v e. grind (arith, common_steps))
