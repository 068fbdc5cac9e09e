use Rattle.std.proofs.Common.{rules}
use Rattle.books.proofs.Layering.{row_of_layer}
use Rattle.books.proofs.open.OpenBook.row.Goals as goal

pub returns : goal.returns
returns g c = row_of_layer (g.B.Book.meaning c.args.self.now.below) (g.met.B.Book.lawful c.args.self.now.below) c.args.context c.args.tag.now c.row.result c.or_else.result c.row.ensures c.or_else.ensures (λ p none. search rules)
