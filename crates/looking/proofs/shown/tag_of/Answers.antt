use Rattle.std.proofs.Common.{◌≡◌, ℕ, List, Some, None, Option, refl, arith, ◌∙◌}
use Rattle.std.proofs.lemmas.Grind.{common_steps}
use Rattle.model.specs.declared.Card.{Card}
use Rattle.lines.specs.declared.line.Line.{Line}
use Rattle.looking.specs.Looking.{LineAt, TagOf}
use Rattle.looking.proofs.Showing.{entry_shows, entry_there}
use Rattle.looking.proofs.shown.tag_of.Goals as goal

tag : (file : List ℕ) (c : Card) (r : Option Line) (n : List ℕ) → LineAt file c.byte r → ((v : Line) → r ≡ Some v → n ≡ v.tag.now) → TagOf file c n
tag file c None n at e ps entry l f = absurd (entry_there file c.byte at ps _ l f.stands)
tag file c (Some v) n at e ps entry l f = e v refl ∙ (entry_shows file c.byte v at ps _ l f.stands).tag

pub returns : goal.returns
returns c = tag c.args.file.now c.args.card c.line_at.result c.map_or.result.now c.line_at.ensures (λ v e. grind (arith, common_steps))
