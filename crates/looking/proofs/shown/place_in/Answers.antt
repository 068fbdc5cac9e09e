use Rattle.std.proofs.Common.{◌≡◌, rules, sym, ap, ◌∙◌, subst}
use Rattle.lines.specs.declared.cursor.Cursor.{Cursor}
use Rattle.lines.specs.Iterating.{StopsAt}
use Rattle.looking.proofs.Left.{other_comes}
use Rattle.looking.proofs.Placing.{Seeking, seeking_start, seeking_more, seeking_found, seeking_end}
use Rattle.looking.proofs.shown.place_in.Goals as goal

pub loop-found-init : goal.loop-found-init
loop-found-init c =
    let it : c.into_iter-found-iterator.result ≡ c.new-found-items.result = cc in (
      search rules,
      search rules,
      ap (λ (s : Cursor). s.file.now) it ∙ c.new-found-items.ensures.file,
      λ ps i l h e. subst (λ (s : Cursor). Seeking c.args.file.now ps i s.at s.lines) (sym it) (seeking_start c.args.file.now ps i c.new-found-items.result.at c.new-found-items.result.lines l c.new-found-items.ensures.start.0 c.new-found-items.ensures.start.1),
    )

pub returns-then-found-byte : goal.returns-then-found-byte
returns-then-found-byte c ps i short l h e =
    let s = c.loop-found.found-iterator in
    let line = other_comes c.args.file.now s.file.now s.at _ _ _ c.in-Some.found c.loop-found.invariant.2 c.in-Some.ensures.steps.comes in
    seeking_found c.args.file.now ps i c.args.byte s.at s.lines c.in-Some.found _ _ (c.loop-found.invariant.3 ps i l h e) h e line c.if-found-byte.true

pub loop-found-preserved : goal.loop-found-preserved
loop-found-preserved c =
    let s = c.loop-found.found-iterator in
    let line = other_comes c.args.file.now s.file.now s.at _ _ _ c.in-Some.found c.loop-found.invariant.2 c.in-Some.ensures.steps.comes in (
      search rules,
      search rules,
      c.in-Some.ensures.steps.file ∙ c.loop-found.invariant.2,
      λ ps i l h e. seeking_more c.args.file.now ps i c.args.byte s.at s.lines c.in-Some.found _ _ (c.loop-found.invariant.3 ps i l h e) e line c.if-found-byte.false,
    )

pub returns : goal.returns
returns c ps i short l h e =
    let s = c.loop-found.found-iterator in
    absurd (seeking_end c.args.file.now ps i s.at s.lines (c.loop-found.invariant.3 ps i l h e) h (subst (λ f. StopsAt f s.at) c.loop-found.invariant.2 c.in-None.ensures.steps.1))
