-- The words that a reader has before it. Assumes nothing.
use Rattle.std.specs.Prelude.{ℕ, Bool, cond, List, [], ◌∷◌, Some, None, Option}
use Rattle.std.specs.Option.{option_map}
use Rattle.std.specs.Str.{bytes_eq}
use Rattle.model.specs.Grammar.{pieces}
use Rattle.pieces.specs.declared.words.Words.{Words}

abbrev pub words_of : Words → List (List ℕ)
words_of w = pieces 32 (option_map (λ x. x.now) w.rest)

-- behind what was read, if it was
abbrev pub left_of : Option Words → Option (List (List ℕ))
left_of o = option_map words_of o

-- behind the first word, if that is w
abbrev pub behind_word : List ℕ → List (List ℕ) → Option (List (List ℕ))
behind_word w [] = None
behind_word w (v ∷ vs) = cond (bytes_eq v w) (Some vs) None

-- behind the first word, if that passes, or else all of them
abbrev pub behind_if : (List ℕ → Bool) → List (List ℕ) → List (List ℕ)
behind_if passes [] = []
behind_if passes (v ∷ vs) = cond (passes v) vs (v ∷ vs)
