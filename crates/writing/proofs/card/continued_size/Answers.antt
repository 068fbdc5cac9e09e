use Rattle.std.proofs.Common.{length, sym, ap, ◌∙◌, subst, arith}
use Rattle.model.specs.Datasets.{continuations, with_line_feeds}
use Rattle.writing.specs.Own.{Trails}
use Rattle.writing.proofs.Carded.{sized_more}
use Rattle.writing.proofs.card.continued_size.Goals as goal

pub loop-line-preserved : goal.loop-line-preserved
loop-line-preserved c =
    let (same, bound, all) = c.loop-line.invariant in
    let next = c.in-Some.ensures in (
      next.file ∙ same,
      let on = next.advances in omega arith,
      λ level texts t.
          let (more, trails, e) = all level texts t in
          let n = next.goes level more trails in
          (n.more, subst (λ f. Trails f c.next_continuation.new.cursor.at level n.more) (sym next.file) n.behind, sized_more _ _ level more c.in-Some.line.now n c.loop-line.size _ e),
    )

pub returns : goal.returns
returns c =
    let (same, bound, all) = c.loop-line.invariant in
    let next = c.in_default.ensures in
    record {
      size = λ level texts t.
          let (more, trails, e) = all level texts t in
          let none = ap (λ ts. length (with_line_feeds (continuations level ts))) (next.goes level more trails) in
          omega arith;
      bound = let within = c.loop-line.cursor.within in omega (arith, ap length same);
    }
