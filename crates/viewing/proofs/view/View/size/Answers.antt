use Rattle.std.proofs.Common.{◌+◌, ◌<◌, length, get_or, ap, ◌∙◌, arith}
use mathlib.Core.Logic.{∥∥₁_elim}
use Rattle.std.proofs.Math.Bridge.{le_prop}
use Rattle.model.specs.Cards.{Holds}
use Rattle.model.specs.Datasets.{Dataset, entries}
use Rattle.model.specs.Edits.{no_entry}
use Rattle.viewing.proofs.Named.{held_few}
use Rattle.viewing.proofs.Fronts.{front_long, front_all}
use Rattle.viewing.proofs.view.View.size.Goals as goal

-- no sum of a held dataset's cards is too large
pub overflow_add-size : goal.overflow_add-size
overflow_add-size c =
    let file = c.args.self.now.file.now in
    let cards = c.args.self.now.drawer.now in
    let low : c.loop-card.size + c.card_size-size.result < 18446744073709551616 = ∥∥₁_elim c.args.self.now.held le_prop (λ (held : (d : Dataset) × Holds file cards d).
    let (d, h) = held in
    let (is, low) = c.loop-card.invariant d h in
    let (long, shown) = c.named-card-items.ensures file d h in
    let lt = c.loop-card-test.true in
    let few = held_few file cards d h in
    let bound = c.card_size-size.ensures.bound in
    let short = h.passes.short in
    omega arith) in
    omega arith

pub loop-card-preserved : goal.loop-card-preserved
loop-card-preserved c d h =
    let file = c.args.self.now.file.now in
    let cards = c.args.self.now.drawer.now in
    let k = c.loop-card.card-index in
    let (is, low) = c.loop-card.invariant d h in
    let (long, shown) = c.named-card-items.ensures file d h in
    let lt = c.loop-card-test.true in
    let inside : k < length (entries d) = omega arith in
    let one = c.card_size-size.ensures.size (get_or (entries d) k no_entry) (shown k lt) in
    let bound = c.card_size-size.ensures.bound in
    let short = h.passes.short in
    (omega (arith, front_long d k inside), omega arith)

pub returns : goal.returns
returns c d h =
    let all = (c.named-card-items.ensures c.args.self.now.file.now d h).0 in
    (c.loop-card.invariant d h).0 ∙ ap length (front_all d c.loop-card.card-index (omega arith))
