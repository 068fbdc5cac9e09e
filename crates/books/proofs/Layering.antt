-- What the open layer leaves as it is below. Assumes nothing.
use Rattle.std.proofs.Common.{◌≡◌, ℕ, List, ltb, Some, None, Option, arith, sym, ap, ◌∙◌}
use Rattle.std.specs.Option.{MatchOption}
use Rattle.std.proofs.lemmas.Bool.{cond_both}
use Rattle.std.proofs.lemmas.Grind.{common_steps}
use Rattle.model.specs.declared.Context.{Context}
use Rattle.model.specs.declared.Context.TheVariants.{Top, Under}
use Rattle.model.specs.declared.Row.{Row}
use Rattle.model.specs.Books.{Meaning, Lawful}
use Rattle.model.specs.Tables.{or_further, opened, open_row, open_layer}

-- a row that is known below stands
known_row : (m : Meaning) → Lawful m → (c : Context) (tag : List ℕ) (r : Row) → m.row c tag ≡ Some r → open_row m c tag ≡ Some r
known_row m law Top tag r e = ap (or_further m.types tag) e
known_row m law (Under t) tag r e = let none = law.no_row t tag in grind (arith, common_steps)

-- o is the row of the layer, if it is that below, or where there is none below what P says is the layer's
pub row_of_layer : (m : Meaning) → Lawful m → (c : Context) (tag : List ℕ) (known o : Option Row) → {P : Type 0} → known ≡ m.row c tag → MatchOption known P (λ r. o ≡ Some r) → (P → m.row c tag ≡ None → o ≡ (open_layer m).row c tag) → o ≡ (open_layer m).row c tag
row_of_layer m law c tag None o e h further = further h (sym e)
row_of_layer m law c tag (Some r) o e h further = h ∙ cond_both (ltb m.types 1000) (opened m) m (λ n. Some r ≡ n.row c tag) (λ room. sym (known_row m law c tag r (sym e))) (λ full. e)
