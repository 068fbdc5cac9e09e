-- The word for years before the first. Assumes nothing.
use Rattle.std.proofs.Common.{◌≡◌, ℕ, ◌&&◌, List, [], ◌∷◌, codes, refl}
use Rattle.std.specs.Str.{bytes_eq}
use Rattle.model.specs.Kinds.{Calendar as Reckoning}
use Rattle.model.specs.Grammar.{after_epoch}
use Rattle.pieces.specs.Words.{behind_if}

pub epoch_by_test : (c : Reckoning) (ws : List (List ℕ)) → after_epoch c ws ≡ behind_if (λ w. c.bce && bytes_eq w (codes "BCE")) ws
epoch_by_test c [] = refl
epoch_by_test c (w ∷ ws) = refl
