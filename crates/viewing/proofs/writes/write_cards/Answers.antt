use Rattle.std.proofs.Common.{◌+◌, ◌<◌, length, get_or, take, arith}
use Rattle.model.specs.Datasets.{entries, all_lines, with_line_feeds, lines}
use Rattle.model.specs.Edits.{no_entry}
use Rattle.writing.specs.Written.{card_bytes}
use Rattle.writing.proofs.Adding.{adds_none, adds_then, adds_same}
use Rattle.viewing.proofs.Fronts.{feeds_front, feeds_all}
use Rattle.viewing.proofs.writes.write_cards.Goals as goal

pub loop-card-init : goal.loop-card-init
loop-card-init c d h = adds_none c.args.buffer.now c.args.at

pub loop-card-preserved : goal.loop-card-preserved
loop-card-preserved c d h =
    let k = c.loop-card.card-index in
    let (long, shown) = c.named-card-items.ensures c.args.file.now d h in
    let lt = c.loop-card-test.true in
    let inside : k < length (entries d) = omega arith in
    let e = get_or (entries d) k no_entry in
    let front = with_line_feeds (all_lines (take k (entries d))) in
    let next = c.write_card-end in
    adds_same c.args.buffer.now c.args.at _ (with_line_feeds (all_lines (take (k + 1) (entries d)))) next.result next.new.buffer (feeds_front d k inside)
    (adds_then c.args.buffer.now c.args.at front c.loop-card.end c.loop-card.buffer (card_bytes e) next.result next.new.buffer (c.loop-card.invariant d h) (next.ensures e (shown k lt)))

pub returns : goal.returns
returns c d h =
    let all = (c.named-card-items.ensures c.args.file.now d h).0 in
    adds_same c.args.buffer.now c.args.at _ (with_line_feeds (lines d)) c.loop-card.end c.loop-card.buffer (feeds_all d c.loop-card.card-index (omega arith)) (c.loop-card.invariant d h)
