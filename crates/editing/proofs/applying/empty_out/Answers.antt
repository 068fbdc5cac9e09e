use Rattle.std.proofs.Common.{◌+◌, ◌-◌, ◌<◌, ◌++◌, length, get_or, replicate, ap, ◌∙◌, arith}
use Rattle.model.specs.Datasets.{entries}
use Rattle.model.specs.Cards.{blank}
use Rattle.model.specs.Edits.{no_entry, without}
use Rattle.looking.proofs.Drawers.{shown_at}
use Rattle.editing.proofs.applying.empty_out.Goals as goal

pub returns : goal.returns
returns c d h few =
    let place = c.args.place in
    let to = c.args.to in
    let order = c.requires.ordered in
    let inside : place < length (entries d) = omega arith in
    c.delete.ensures ∙ ap (λ l. without (place + 1) to l ++ replicate (to - (place + 1)) blank) (c.clear.ensures (get_or (entries d) place no_entry) (shown_at c.args.file.now c.args.cards.now d h place inside))
