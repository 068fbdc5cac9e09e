use Rattle.filling.proofs.Filed.{blanked}
use Rattle.filling.proofs.blank_from.Goals as goal

pub returns : goal.returns
returns c = blanked c.args.from c.min-from.result _ c.args.drawer.now c.fill.new.self c.min-from.ensures (c.fill.ensures.after (λ y k. k))
