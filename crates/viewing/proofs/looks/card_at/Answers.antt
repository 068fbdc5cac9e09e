use Rattle.std.proofs.Common.{arith}
use Rattle.std.proofs.lemmas.Grind.{common_steps}
use Rattle.viewing.proofs.Named.{card_right}
use Rattle.viewing.proofs.looks.card_at.Goals as goal

pub returns : goal.returns
returns c file d h = card_right file c.args.drawer.now d h c.args.card c.ok_or.result (λ past. grind (arith, common_steps)) (λ lt is. grind (arith, common_steps)) (λ lt named. grind (arith, common_steps))
