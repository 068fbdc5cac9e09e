use Rattle.std.proofs.Common.{[], ◌∷◌, ◌++◌, sym, ap, ◌∙◌, subst, append-nil}
use Rattle.model.specs.Datasets.{continuations, with_line_feeds}
use Rattle.writing.specs.Own.{Trails}
use Rattle.writing.proofs.Adding.{adds_then, adds_same}
use Rattle.writing.proofs.Carded.{put_more}
use Rattle.writing.proofs.card.put_continued.Goals as goal

pub loop-line-preserved : goal.loop-line-preserved
loop-line-preserved c = λ level texts t.
    let (more, trails, (done, e, adds)) = c.loop-line.invariant level texts t in
    let next = c.in-Some.ensures in
    let n = next.goes level more trails in
    let bytes = c.in-Some.line.now in (
      n.more,
      subst (λ f. Trails f c.next_continuation.new.cursor.at level n.more) (sym next.file) n.behind,
      (done ++ (bytes ++ 10 ∷ []), put_more _ _ level more bytes n done _ e, adds_then c.args.buffer.now c.args.at done c.loop-line.end c.loop-line.buffer (bytes ++ 10 ∷ []) c.put_line-end.result c.put_line-end.new.buffer adds c.put_line-end.ensures),
    )

pub returns : goal.returns
returns c = λ level texts t.
    let (more, trails, (done, e, adds)) = c.loop-line.invariant level texts t in
    let none = c.in_default.ensures.goes level more trails in
    adds_same c.args.buffer.now c.args.at done (with_line_feeds (continuations level texts)) c.loop-line.end c.loop-line.buffer (sym (append-nil done) ∙ ap (λ ts. done ++ with_line_feeds (continuations level ts)) (sym none) ∙ e) adds
