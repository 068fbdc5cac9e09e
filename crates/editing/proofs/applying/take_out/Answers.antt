use Rattle.std.proofs.Common.{◌≡◌, ◌-◌, ◌<◌, ◌++◌, length, get_or, replicate, ap, ◌∙◌, arith}
use Rattle.model.specs.Datasets.{entries}
use Rattle.model.specs.Cards.{blank}
use Rattle.model.specs.Edits.{no_entry, without, went, marked_by}
use Rattle.looking.proofs.Drawers.{shown_at}
use Rattle.editing.proofs.applying.take_out.Goals as goal
use Rattle.editing.proofs.applying.take_out.Goals.{in-Some, in_default}

pub returns : goal.returns
returns c d h few =
    let cs = c.args.cards.now in
    let from = c.args.from in
    let to = c.args.to in
    let order = c.requires.ordered in
    let inside : from < length (entries d) = omega arith in
    let first = shown_at c.args.file.now cs d h from inside in
    let marks : c.match-identifier_of.cards ≡ marked_by (went (entries d) from) (entries d) cs = elim c.match-identifier_of.branch [
      | in-Some w ↦ w.cards-is ∙ w.void_pointers.ensures d h ∙ ap (λ o. marked_by o (entries d) cs) (w.in-Some.ensures first.placed (get_or (entries d) from no_entry) first.lined first.files)
      | in_default w ↦ w.cards-is ∙ ap (λ o. marked_by o (entries d) cs) (w.in_default.ensures first.placed (get_or (entries d) from no_entry) first.lined first.files)
    ] in
    c.delete.ensures ∙ ap (λ l. without from to l ++ replicate (to - from) blank) marks
