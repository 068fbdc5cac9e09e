-- What the loop that checks a file's characters keeps from turn to turn. Assumes nothing.
use Rattle.std.specs.Prelude.{◌≡◌, ℕ, ◌+◌, ◌≤◌, Bool, cond, not, ◌&&◌, ◌||◌, List, length, take, Some, None, IsUtf8, Option, ◌==◌, nat_le, nat_lt, slice_index}
use Rattle.model.specs.Characters.{Clean}
use Rattle.model.specs.Refusals.{BannedAt, ends_before, line_at}
use Rattle.model.specs.declared.Place.{Place}

-- how many bytes a character has that begins with this one; 0 where none does
abbrev pub lead_length : ℕ → ℕ
lead_length a = cond (nat_lt a 128) 1 (cond (nat_lt a 194) 0 (cond (nat_lt a 224) 2 (cond (nat_lt a 240) 3 (cond (nat_lt a 245) 4 0))))

-- 80 to BF
abbrev pub is_next : ℕ → Bool
is_next b = nat_le 128 b && nat_lt b 192

-- the second byte of three or four: not all of them after E0, ED, F0 and F4
abbrev pub is_second : ℕ → ℕ → Bool
is_second a b = nat_le (cond (a == 224) 160 (cond (a == 240) 144 128)) b && nat_lt b (cond (a == 237) 160 (cond (a == 244) 144 192))

-- how many bytes the character has that begins with these; 0 where none does. A byte past the end reads as 0.
abbrev pub width_of : ℕ → ℕ → ℕ → ℕ → ℕ
width_of a b d e = cond (nat_lt a 128) 1 (cond (nat_lt a 194) 0 (cond (nat_lt a 224) (cond (is_next b) 2 0) (cond (nat_lt a 240) (cond (is_second a b && is_next d) 3 0) (cond (nat_lt a 245) (cond (is_second a b && (is_next d && is_next e)) 4 0) 0))))

-- of a character that begins with these
abbrev pub is_banned : ℕ → ℕ → ℕ → Bool
is_banned a b d = (nat_lt a 32 && not (a == 9 || (a == 10 || a == 13))) || (a == 127 || ((a == 194 && nat_lt b 160) || (a == 239 && (b == 191 && nat_lt 189 d))))

abbrev pub width_at : List ℕ → ℕ → ℕ
width_at file i = width_of (slice_index file i) (slice_index file (i + 1)) (slice_index file (i + 2)) (slice_index file (i + 3))

abbrev pub banned_at : List ℕ → ℕ → Bool
banned_at file i = is_banned (slice_index file i) (slice_index file (i + 1)) (slice_index file (i + 2))

-- no banned character begins before the byte i; or the first does here
abbrev pub Allowed : List ℕ → ℕ → Option Place → Type 0
Allowed file i None = Clean (take i file)
Allowed file i (Some s) = BannedAt file s.byte × (s.line ≡ line_at file s.byte)

-- the first i bytes are characters, with so many line ends, and the first banned one is noted
pub record Checked (file : List ℕ) (i ends : ℕ) (o : Option Place) : Type 0 where
  pub within : i ≤ length file
  pub counted : ends ≡ ends_before file i
  pub few : ends ≤ i
  pub text : IsUtf8 (take i file)
  pub allowed : Allowed file i o
