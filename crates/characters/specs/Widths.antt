-- How many bytes a character has. Assumes nothing.
use Rattle.std.specs.Prelude.{◌≡◌, ℕ, ◌<◌, List, Option, MatchOption}
use Rattle.model.specs.Bytes.{width_at}

-- none where no character begins at i; else so many bytes, and one at least
abbrev pub WidthAt : List ℕ → ℕ → Option ℕ → Type 0
WidthAt file i r = MatchOption r (width_at file i ≡ 0) (λ w. (w ≡ width_at file i) × (0 < w))
