-- The home book's entries as rows of its table, and the words of its sets. Assumes nothing.
use Rattle.std.specs.Prelude.{◌≡◌, ℕ, cond, List, [], ◌∷◌, slice_index_or}
use Rattle.std.specs.Borrow.{Bor}
use Rattle.model.specs.declared.Context.{Context}
use Rattle.model.specs.declared.Row.{Row}
use Rattle.model.specs.Tables.{TableRow, same_context, home_rows, home_sets}
use Rattle.books.specs.declared.home.table.Entry.{Entry}
use Rattle.books.specs.Times.{is_required, is_many}

abbrev pub row_of : Entry → Row
row_of e = record { typed = e.1; required = is_required e.2; many = is_many e.2 }

abbrev pub rows_of : Context → List Entry → List TableRow
rows_of c [] = []
rows_of c (e ∷ es) = record { context = c; tag = e.0.now; row = row_of e } ∷ rows_of c es

-- the rows of one context
abbrev pub of_context : Context → List TableRow → List TableRow
of_context c [] = []
of_context c (x ∷ xs) = cond (same_context x.context c) (x ∷ of_context c xs) (of_context c xs)

-- what stands behind references
abbrev pub behind : List (Bor (List ℕ)) → List (List ℕ)
behind [] = []
behind (w ∷ ws) = w.now ∷ behind ws

-- the entries are the rows of the context
pub record Entries (c : Context) (es : List Entry) : Type 0 where
  pub rows : rows_of c es ≡ of_context c home_rows

-- the words are those of the set
pub record WordsOf (set : ℕ) (ws : List (Bor (List ℕ))) : Type 0 where
  pub words : behind ws ≡ slice_index_or home_sets set []
