use Rattle.std.proofs.Common.{sym, subst, arith}
use Rattle.std.proofs.lemmas.Bool.Decides.{not_from_Decides}
use Rattle.model.specs.Cards.{Blanks}
use Rattle.holding.specs.Standing.{OnLines, Fits}
use Rattle.holding.proofs.Fronting.{passes_checked, few_held, blanks_held, lines_held, fits_held}
use Rattle.holding.proofs.telling.held_cards.Goals as goal
use Rattle.holding.proofs.telling.held_cards.Goals.{then-count-gt-MOST-via-then-count-gt-MOST, then-count-gt-MOST-via-else-count-gt-MOST+then-not-are_blank, then-count-gt-MOST-via-else-count-gt-MOST+else-not-are_blank+then-not-on_lines, then-count-gt-MOST-via-else-count-gt-MOST+else-not-are_blank+else-not-on_lines+then-not-fits}

pub returns-in_err-ok : goal.returns-in_err-ok
returns-in_err-ok c = rw c.from_residual.ensures (λ d h. passes_checked c.args.file.now h.placed c.check.result h.passes c.check.ensures c.in_err-ok.ensures.value)

pub returns-then-count-gt-MOST : goal.returns-then-count-gt-MOST
returns-then-count-gt-MOST c d h =
    let file = c.args.file.now in
    let drawer = c.args.drawer.now in
    let n = c.count_named-count.result in
    let named = c.count_named-count.ensures in
    let front = sym c.split_at.ensures.front in
    let lines = subst (OnLines h.placed) front (lines_held file drawer n d named h) in
    elim c.then-count-gt-MOST.branch [
      | then-count-gt-MOST-via-then-count-gt-MOST w ↦ let few = few_held file drawer n d named h in let over = w.if-count-gt-MOST.true in omega arith
      | then-count-gt-MOST-via-else-count-gt-MOST+then-not-are_blank w ↦ not_from_Decides w.are_blank.result w.are_blank.ensures w.if-not-are_blank.true (subst Blanks (sym c.split_at.ensures.back) (blanks_held file drawer n d named h))
      | then-count-gt-MOST-via-else-count-gt-MOST+else-not-are_blank+then-not-on_lines w ↦ not_from_Decides w.on_lines.result (w.on_lines.ensures h.placed h.passes.lined) w.if-not-on_lines.true lines
      | then-count-gt-MOST-via-else-count-gt-MOST+else-not-are_blank+else-not-on_lines+then-not-fits w ↦ not_from_Decides w.fits.result (w.fits.ensures h.placed h.passes lines) w.if-not-fits.true (subst (Fits h.placed) front (fits_held file drawer n d named h))
    ]
