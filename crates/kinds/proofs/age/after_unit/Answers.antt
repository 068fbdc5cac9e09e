use Rattle.std.proofs.Common.{◌≡◌, ℕ, List, [], ◌∷◌, sym, refl, ◌∙◌, rules}
use Rattle.model.specs.Grammar.{is_count, after_unit}
use Rattle.pieces.specs.Words.{words_of, behind_if}
use Rattle.kinds.proofs.age.after_unit.Goals as goal

unit_by_test : (u : ℕ) (ws : List (List ℕ)) → after_unit u ws ≡ behind_if (is_count u) ws
unit_by_test u [] = refl
unit_by_test u (w ∷ ws) = refl

pub returns : goal.returns
returns c = c.skip_if.ensures (is_count c.args.unit) (λ w b k. search rules) ∙ sym (unit_by_test c.args.unit (words_of c.args.words))
