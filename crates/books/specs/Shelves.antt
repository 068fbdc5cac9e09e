-- The books that a person can name. Assumes nothing.
use Rattle.std.specs.Prelude.{◌≡◌, ℕ, List, codes, Result, MatchResult}
use Rattle.model.specs.Books.{Meaning}
use Rattle.model.specs.Tables.{plain, home, open_layer}
use Rattle.books.specs.declared.shelf.Shelf.{Shelf}
use Rattle.books.specs.declared.shelf.Shelf.TheVariants.{Home, Plain, Open}
use Rattle.books.specs.declared.shelf.NoSuchBook.{NoSuchBook}

abbrev pub name_of : Shelf → List ℕ
name_of Home = codes "home"
name_of Plain = codes "plain"
name_of Open = codes "open"

-- the open book is the home book under the open layer
abbrev pub meaning_of : Shelf → Meaning
meaning_of Home = home
meaning_of Plain = plain
meaning_of Open = open_layer home

-- the book of this name, or none has it
abbrev pub IsNamed : List ℕ → Result Shelf NoSuchBook → Type 0
IsNamed name r = MatchResult r (λ shelf. name_of shelf ≡ name) (λ e. (shelf : Shelf) → name_of shelf ≡ name → ⊥)
