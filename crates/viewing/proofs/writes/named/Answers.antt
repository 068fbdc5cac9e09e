use Rattle.viewing.proofs.Named.{taken_long, taken_card}
use Rattle.viewing.proofs.writes.named.Goals as goal

pub returns : goal.returns
returns c file d h =
    let cards = c.args.drawer.now in
    (taken_long file cards d h c.count_named.result c.count_named.ensures, λ k lt. (taken_card file cards d h c.count_named.result c.count_named.ensures k lt).1)
