use Rattle.std.proofs.Common.{◌≡◌, rules, refl, ap, sym, ◌∙◌, subst}
use Rattle.lines.specs.declared.cursor.Cursor.{Cursor}
use Rattle.lines.specs.Iterating.{StopsAt}
use Rattle.looking.proofs.Left.{other_comes}
use Rattle.filling.proofs.Filed.{Filling, all_blank, filling_start, filling_more, filling_done, filling_full}
use Rattle.filling.proofs.fill_short.Goals as goal

pub loop-found-init : goal.loop-found-init
loop-found-init c =
    let it : c.into_iter-found-iterator.result ≡ c.new-found-items.result = cc in (
      search rules,
      search rules,
      ap (λ (s : Cursor). s.file.now) it ∙ c.new-found-items.ensures.file,
      λ ps p. subst (λ (s : Cursor). Filling c.args.file.now ps c.args.drawer.now s.at s.lines 0 c.args.drawer.now) (sym it) (filling_start c.args.file.now ps c.args.drawer.now c.new-found-items.result.at c.new-found-items.result.lines p.lined c.new-found-items.ensures.start.0 c.new-found-items.ensures.start.1),
    )

pub loop-found-preserved : goal.loop-found-preserved
loop-found-preserved c =
    let s = c.loop-found.found-iterator in
    let line = other_comes c.args.file.now s.file.now s.at _ _ _ c.in-Some.found c.loop-found.invariant.2 c.in-Some.ensures.steps.comes in (
      search rules,
      search rules,
      c.in-Some.ensures.steps.file ∙ c.loop-found.invariant.2,
      λ ps p. filling_more c.args.file.now ps c.args.drawer.now s.at s.lines c.loop-found.count c.loop-found.drawer c.in-Some.found _ _ _ _ c.loop-found.auto.drawer (c.loop-found.invariant.3 ps p) line c.in-Some-put.ensures,
    )

pub returns-in-None-put : goal.returns-in-None-put
returns-in-None-put c =
    let s = c.loop-found.found-iterator in
    let line = other_comes c.args.file.now s.file.now s.at _ _ _ c.in-Some.found c.loop-found.invariant.2 c.in-Some.ensures.steps.comes in (
      all_blank _ _ c.blank_from.ensures,
      λ ps p. filling_full c.args.file.now ps c.args.drawer.now s.at s.lines c.loop-found.count c.loop-found.drawer c.in-Some.found _ _ c.put.new.drawer _ c.loop-found.auto.drawer (c.loop-found.invariant.3 ps p) line c.in-None-put.ensures refl,
    )

pub returns : goal.returns
returns c ps p =
    let s = c.loop-found.found-iterator in
    filling_done c.args.file.now ps c.args.drawer.now s.at s.lines c.loop-found.count c.loop-found.drawer _ (subst (λ f. StopsAt f s.at) c.loop-found.invariant.2 c.in-None.ensures.steps.1) (c.loop-found.invariant.3 ps p) c.blank_from-2.ensures
