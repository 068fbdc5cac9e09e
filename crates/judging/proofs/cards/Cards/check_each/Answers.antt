use Rattle.std.proofs.Common.{length, true, false, Some, None, arith, rules}
use Rattle.std.proofs.lemmas.Iterator.{serves_from_Range, first_from_Range}
use Rattle.model.specs.Positions.{KeepsAt}
use Rattle.judging.proofs.Asking.{asked_first}
use Rattle.judging.proofs.Marking.{first_tested}
use Rattle.judging.proofs.cards.Cards.check_each.Goals as goal

pub find-broken-requires-clause-callable : goal.find-broken-requires-clause-callable
find-broken-requires-clause-callable g c = serves_from_Range (λ x q h. search rules) (λ x low high y e. c.requires y.now (omega arith))

pub returns-in-Some : goal.returns-in-Some
returns-in-Some g c asked number missing tests b s t =
    let m = g.B.Book.meaning c.args.self.now.book.now in
    let o = Some c.in-Some.card in
    let found = first_from_Range _ _ _ o (λ i. g.F.Fn.post c.args.keeps (i, tt) false) (λ i. g.F.Fn.post c.args.keeps (i, tt) true) c.in-Some.ensures.ran (λ x q h. search rules) (λ x q h. search rules) in
    asked_first m b c.args.rule asked number missing o (first_tested (KeepsAt m b asked) (λ i r. g.F.Fn.post c.args.keeps (i, tt) r) (length c.args.self.now.marks.now) (length b) t.long (λ i r h p. tests i r h p b s t) o found)

pub returns : goal.returns
returns g c asked number missing tests b s t =
    let m = g.B.Book.meaning c.args.self.now.book.now in
    let found = first_from_Range _ _ _ None (λ i. g.F.Fn.post c.args.keeps (i, tt) false) (λ i. g.F.Fn.post c.args.keeps (i, tt) true) c.in-None.ensures.ran (λ x q h. search rules) (λ x q h. search rules) in
    asked_first m b c.args.rule asked number missing None (first_tested (KeepsAt m b asked) (λ i r. g.F.Fn.post c.args.keeps (i, tt) r) (length c.args.self.now.marks.now) (length b) t.long (λ i r h p. tests i r h p b s t) None found)
