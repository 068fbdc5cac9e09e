use Rattle.std.proofs.Common.{refl, length, rules}
use Rattle.std.specs.Result.{result_err}
use Rattle.model.specs.Refusals.{taken, aimed_right, single, needed, filled}
use Rattle.judging.proofs.Asking.{upto_known, upto_next, judged, judged_last}
use Rattle.judging.proofs.Marking.{marked_known}
use Rattle.judging.proofs.cards.Cards.check.Goals as goal

pub returns-in_err-check_each : goal.returns-in_err-check_each
returns-in_err-check_each g c b s t =
    let m = g.B.Book.meaning c.args.self.now.book.now in
    let upto14 = upto_known m b (marked_known m b c.args.self.now.marks.now (length b) t.all) in
    judged m b 14 taken refl upto14 c.in_err-check_each.field-0.0 (c.in_err-check_each.ensures taken refl refl (λ i r h k. search rules) b s t) (result_err c.from_residual.result) (search rules)

pub returns-in_err-check_each-2 : goal.returns-in_err-check_each-2
returns-in_err-check_each-2 g c b s t =
    let m = g.B.Book.meaning c.args.self.now.book.now in
    let upto14 = upto_known m b (marked_known m b c.args.self.now.marks.now (length b) t.all) in
    let upto15 = upto_next m b 14 taken refl upto14 (c.in_ok-check_each.ensures taken refl refl (λ i r h k. search rules) b s t) in
    judged m b 15 aimed_right refl upto15 c.in_err-check_each-2.field-0.0 (c.in_err-check_each-2.ensures aimed_right refl refl (λ i r h k. search rules) b s t) (result_err c.from_residual-in_err-check_each-2.result) (search rules)

pub returns-in_err-check_repeats : goal.returns-in_err-check_repeats
returns-in_err-check_repeats g c b s t =
    let m = g.B.Book.meaning c.args.self.now.book.now in
    let upto14 = upto_known m b (marked_known m b c.args.self.now.marks.now (length b) t.all) in
    let upto15 = upto_next m b 14 taken refl upto14 (c.in_ok-check_each.ensures taken refl refl (λ i r h k. search rules) b s t) in
    let upto16 = upto_next m b 15 aimed_right refl upto15 (c.in_ok-check_each-2.ensures aimed_right refl refl (λ i r h k. search rules) b s t) in
    judged m b 16 single refl upto16 c.in_err-check_repeats.field-0.0 (c.in_err-check_repeats.ensures b s t) (result_err c.from_residual-in_err-check_repeats.result) (search rules)

pub returns-in_err-check_needs : goal.returns-in_err-check_needs
returns-in_err-check_needs g c b s t =
    let m = g.B.Book.meaning c.args.self.now.book.now in
    let upto14 = upto_known m b (marked_known m b c.args.self.now.marks.now (length b) t.all) in
    let upto15 = upto_next m b 14 taken refl upto14 (c.in_ok-check_each.ensures taken refl refl (λ i r h k. search rules) b s t) in
    let upto16 = upto_next m b 15 aimed_right refl upto15 (c.in_ok-check_each-2.ensures aimed_right refl refl (λ i r h k. search rules) b s t) in
    let upto17 = upto_next m b 16 single refl upto16 (c.in_ok-check_repeats.ensures b s t) in
    judged m b 17 needed refl upto17 c.in_err-check_needs.field-0.0 (c.in_err-check_needs.ensures b s t) (result_err c.from_residual-in_err-check_needs.result) (search rules)

pub returns : goal.returns
returns g c b s t =
    let m = g.B.Book.meaning c.args.self.now.book.now in
    let upto14 = upto_known m b (marked_known m b c.args.self.now.marks.now (length b) t.all) in
    let upto15 = upto_next m b 14 taken refl upto14 (c.in_ok-check_each.ensures taken refl refl (λ i r h k. search rules) b s t) in
    let upto16 = upto_next m b 15 aimed_right refl upto15 (c.in_ok-check_each-2.ensures aimed_right refl refl (λ i r h k. search rules) b s t) in
    let upto17 = upto_next m b 16 single refl upto16 (c.in_ok-check_repeats.ensures b s t) in
    let upto18 = upto_next m b 17 needed refl upto17 (c.in_ok-check_needs.ensures b s t) in
    judged_last m b upto18 (result_err c.check_each-3.result) (c.check_each-3.ensures filled refl refl (λ i r h k. search rules) b s t)
