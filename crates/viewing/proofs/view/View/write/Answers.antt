use Rattle.std.proofs.Common.{ℕ, [], refl, ap, arith}
use Rattle.model.specs.Datasets.{MARK, lines, with_line_feeds}
use Rattle.writing.proofs.Adding.{adds_then}
use Rattle.viewing.proofs.Fronts.{oversized, cramped, fitted}
use Rattle.viewing.proofs.view.View.write.Goals as goal

pub returns-then-size-gt-LIMIT : goal.returns-then-size-gt-LIMIT
returns-then-size-gt-LIMIT c = record { written = λ d h. oversized d c.args.buffer.now c.size-size.result (c.size-size.ensures d h) c.if-size-gt-LIMIT.true; refused = λ f e. refl }

pub returns-then-size-buffer : goal.returns-then-size-buffer
returns-then-size-buffer c = record { written = λ d h. cramped d c.args.buffer.now c.size-size.result (c.size-size.ensures d h) c.if-size-gt-LIMIT.false c.if-size-buffer.true; refused = λ f e. refl }

pub returns : goal.returns
returns c = record {
  written = λ d h.
      let buffer = c.args.buffer.now in
      let adds = adds_then buffer 0 MARK c.put-end.result c.put-end.new.buffer (with_line_feeds (lines d)) c.write_cards.result c.write_cards.new.buffer c.put-end.ensures (c.write_cards.ensures d h) in
      let is = c.size-size.ensures d h in
      let (out, end) = adds [] buffer refl refl (let room = c.if-size-buffer.false in omega arith) in
      fitted d buffer c.size-size.result is c.if-size-gt-LIMIT.false c.if-size-buffer.false c.write_cards.new.buffer c.write_cards.result out end;
  refused = λ f e. absurd (let z = ap {B = ℕ} (λ r. elim r [ Rattle.std.specs.declared.result.Result.TheVariants.Ok n ↦ 0 | Rattle.std.specs.declared.result.Result.TheVariants.Err x ↦ 1 ]) e in omega arith);
}
