use Rattle.std.proofs.Common.{Some, None, take, sym, subst}
use Rattle.naming.specs.Naming.{CardsShow}
use Rattle.naming.proofs.Indexing.{cut_all, names_apart, names_aimed}
use Rattle.naming.proofs.check_names.Goals as goal

pub returns-in-Some-clause-names : goal.returns-in-Some-clause-names
returns-in-Some-clause-names c room ps s kept fit =
    let cut = subst (λ cards. CardsShow c.args.file.now cards ps) (sym (cut_all c.min.result _ c.args.cards.now c.min.ensures fit)) s in
    names_apart room ps (take c.index-count.result c.index-count.new.table) (c.index-count.ensures.index ps cut) kept (Some c.in-Some.card) c.in-Some.ensures

pub returns-in-Some-lost-clause-names : goal.returns-in-Some-lost-clause-names
returns-in-Some-lost-clause-names c room ps s kept fit =
    let names = take c.index-count.result c.index-count.new.table in
    let cut = subst (λ cards. CardsShow c.args.file.now cards ps) (sym (cut_all c.min.result _ c.args.cards.now c.min.ensures fit)) s in
    let i = c.index-count.ensures.index ps cut in
    (names_apart room ps names i kept None c.in_default.ensures, names_aimed room ps names i kept (Some c.in-Some-lost.card) (c.in-Some-lost.ensures room ps cut i kept))

pub returns-clause-names : goal.returns-clause-names
returns-clause-names c room ps s kept fit =
    let names = take c.index-count.result c.index-count.new.table in
    let cut = subst (λ cards. CardsShow c.args.file.now cards ps) (sym (cut_all c.min.result _ c.args.cards.now c.min.ensures fit)) s in
    let i = c.index-count.ensures.index ps cut in
    (names_apart room ps names i kept None c.in_default.ensures, names_aimed room ps names i kept None (c.in_default-lost.ensures room ps cut i kept), i)
