use Rattle.std.proofs.Common.{◌<◌, length, sym, ◌∙◌, arith}
use Rattle.std.proofs.lemmas.Option.{slice_get-get_or}
use Rattle.std.proofs.lemmas.Grind.{common_steps}
use Rattle.judging.proofs.Marking.{aimed_test}
use Rattle.judging.proofs.cards.Cards.is_aimed.Goals as goal

pub returns : goal.returns
returns g c b s t =
    let h : c.args.i < length b = omega (arith, t.long) in
    aimed_test (g.B.Book.meaning c.args.self.now.book.now) b c.args.self.now.marks.now t c.args.i c.requires c.in-Pointer.typed (sym c.kind.ensures ∙ c.in-Pointer.is) c.target.result (c.target.ensures b s h) c.is_none_or.result (λ e. grind (arith, common_steps)) (λ j e lt. grind (arith, common_steps, slice_get-get_or))
