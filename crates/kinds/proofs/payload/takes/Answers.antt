use Rattle.std.proofs.Common.{◌≡◌, Bool, [], Decides, sym, ap, ◌∙◌, subst}
use Rattle.std.proofs.lemmas.Bool.Decides.{Decides-at}
use Rattle.model.specs.declared.Kind.{Kind}
use Rattle.model.specs.Books.{Meaning}
use Rattle.model.specs.Datasets.{Payload, text}
use Rattle.model.specs.Kinds.{Takes}
use Rattle.model.specs.Grammar.{takes}
use Rattle.model.proofs.Taking.{takes_decides}
use Rattle.kinds.specs.Contents.{StandsFor}
use Rattle.kinds.proofs.payload.takes.Goals as goal

decided : (m : Meaning) (k : Kind) (r : Bool) (p q : Payload) → p ≡ q → r ≡ takes m k q → Decides r (Takes m k p)
decided m k r p q is e = Decides-at r (takes m k p) (e ∙ ap (takes m k) (sym is)) (takes_decides m k p)

pub returns-in-Line : goal.returns-in-Line
returns-in-Line g c p h = decided (g.B.Book.meaning c.args.book.now) c.args.kind c.takes_line.result p (text c.in-Line.text.now []) (subst (λ x. StandsFor x p) c.in-Line.is h) c.takes_line.ensures
