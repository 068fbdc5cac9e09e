-- Which texts and payloads a kind takes, found by the steps that a loop takes. Assumes nothing.
use Rattle.std.specs.Prelude.{ℕ, ◌+◌, ◌-◌, ◌*◌, Bool, true, false, cond, not, ◌&&◌, ◌||◌, List, [], ◌∷◌, length, take, drop, Some, None, codes, Option, ◌==◌, nat_le}
use Rattle.std.specs.Char.{is_ascii_digit}
use Rattle.std.specs.List.{prefix_len}
use Rattle.std.specs.Str.{bytes_eq}
use Rattle.model.specs.declared.Kind.{Kind}
use Rattle.model.specs.declared.Kind.TheVariants.{Nothing, Text, Flag, Integer, Word, Words, Texts, Date, Period, Exact, Time, Age, Name, Version, Pointer, Anything}
use Rattle.model.specs.Books.{Meaning}
use Rattle.model.specs.Datasets.{Payload, none, text, void, pointer}
use Rattle.model.specs.Kinds.{all_digits, cut, Calendar, gregorian, julian, french, hebrew, qualifiers, left_trimmed, right_trimmed, all_spaces, slashes, no_tab, may_be_emptied}
use Rattle.model.specs.Removal.{then}
use Rattle.model.specs.Scan.{front, after, read_byte}
use Rattle.model.specs.Tables.{among}

abbrev pub filled : {A : Type 0} → List A → Bool
filled [] = false
filled (a ∷ more) = true

-- what was read passes, if something was
abbrev pub passes : {A : Type 0} → Option A → (A → Bool) → Bool
passes None p = false
passes (Some x) p = p x

-- Plain texts

abbrev pub is_flag : List ℕ → Bool
is_flag t = bytes_eq t (codes "Y")

abbrev pub is_integer : List ℕ → Bool
is_integer t = filled t && all_digits t

abbrev pub is_version : List ℕ → Bool
is_version t = bytes_eq t (codes "7.0") || (bytes_eq (take 4 t) (codes "7.0.") && is_integer (drop 4 t))

abbrev pub is_person : List ℕ → Bool
is_person t = filled t && (no_tab t && (slashes t == 0 || slashes t == 2))

-- Pieces between the bytes c: the first, and what follows that byte, if it stands there

abbrev pub other_than : ℕ → ℕ → Bool
other_than c x = not (x == c)

abbrev pub piece : ℕ → List ℕ → List ℕ
piece c bs = front (other_than c) bs

abbrev pub behind_first : List ℕ → Option (List ℕ)
behind_first [] = None
behind_first (x ∷ xs) = Some xs

abbrev pub behind : ℕ → List ℕ → Option (List ℕ)
behind c bs = behind_first (after (other_than c) bs)

-- the pieces that are left
abbrev pub pieces : ℕ → Option (List ℕ) → List (List ℕ)
pieces c None = []
pieces c (Some bs) = cut c bs

-- the pieces from byte i on, and none behind the end
abbrev pub pieces_at : ℕ → List ℕ → ℕ → List (List ℕ)
pieces_at c bs i = cond (nat_le i (length bs)) (cut c (drop i bs)) []

-- where the next piece begins
abbrev pub next_at : ℕ → List ℕ → ℕ → ℕ
next_at c bs i = i + prefix_len (other_than c) (drop i bs) + 1

-- what is left where a step answered a place
abbrev pub left_at : ℕ → List ℕ → Option ℕ → Option (List (List ℕ))
left_at c bs None = None
left_at c bs (Some i) = Some (pieces_at c bs i)

abbrev pub next_word : List ℕ → List ℕ × Option (List ℕ)
next_word bs = (piece 32 bs, behind 32 bs)

abbrev pub next_item : List ℕ → List ℕ × Option (List ℕ)
next_item bs = (piece 44 bs, behind 44 bs)

-- Dates: each step takes words from the front, and answers those that are left

abbrev pub is_month : Calendar → List ℕ → Bool
is_month c w = among c.months w

abbrev pub after_epoch : Calendar → List (List ℕ) → List (List ℕ)
after_epoch c [] = []
after_epoch c (w ∷ ws) = cond (c.bce && bytes_eq w (codes "BCE")) ws (w ∷ ws)

abbrev pub after_year : Calendar → List (List ℕ) → Option (List (List ℕ))
after_year c [] = None
after_year c (w ∷ ws) = cond (is_integer w) (Some (after_epoch c ws)) None

-- behind a number, which is a day if a month follows it, and else a year
abbrev pub after_number : Calendar → List (List ℕ) → Option (List (List ℕ))
after_number c [] = Some []
after_number c (w ∷ ws) = cond (is_month c w) (after_year c ws) (Some (after_epoch c (w ∷ ws)))

abbrev pub after_date_in : Calendar → List (List ℕ) → Option (List (List ℕ))
after_date_in c [] = None
after_date_in c (w ∷ ws) = cond (is_month c w) (after_year c ws) (cond (is_integer w) (after_number c ws) None)

abbrev pub calendars : List Calendar
calendars = gregorian ∷ julian ∷ french ∷ hebrew ∷ []

abbrev pub named_in : List Calendar → List ℕ → Option Calendar
named_in [] w = None
named_in (c ∷ cs) w = cond (bytes_eq w c.name) (Some c) (named_in cs w)

abbrev pub calendar_named : List ℕ → Option Calendar
calendar_named w = named_in calendars w

abbrev pub after_named : Option Calendar → List ℕ → List (List ℕ) → Option (List (List ℕ))
after_named None w ws = after_date_in gregorian (w ∷ ws)
after_named (Some c) w ws = after_date_in c ws

abbrev pub after_date : List (List ℕ) → Option (List (List ℕ))
after_date [] = None
after_date (w ∷ ws) = after_named (calendar_named w) w ws

abbrev pub no_more : List (List ℕ) → Bool
no_more ws = not (filled ws)

abbrev pub is_date : List (List ℕ) → Bool
is_date ws = passes (after_date ws) no_more

-- the word, and a date
abbrev pub is_after : List ℕ → List (List ℕ) → Bool
is_after w [] = false
is_after w (v ∷ ws) = bytes_eq v w && is_date ws

-- the first word, a date, the second word, and a date
abbrev pub is_between : List ℕ → List ℕ → List (List ℕ) → Bool
is_between v w [] = false
is_between v w (u ∷ ws) = bytes_eq u v && passes (after_date ws) (is_after w)

abbrev pub is_period : List (List ℕ) → Bool
is_period ws = is_after (codes "FROM") ws || (is_after (codes "TO") ws || is_between (codes "FROM") (codes "TO") ws)

abbrev pub is_qualified : List (List ℕ) → Bool
is_qualified [] = false
is_qualified (w ∷ ws) = among qualifiers w && is_date ws

abbrev pub is_date_value : List (List ℕ) → Bool
is_date_value ws = is_date ws || (is_period ws || (is_between (codes "BET") (codes "AND") ws || is_qualified ws))

abbrev pub is_exact : List (List ℕ) → Bool
is_exact [] = false
is_exact (d ∷ []) = false
is_exact (d ∷ m ∷ []) = false
is_exact (d ∷ m ∷ y ∷ ws) = is_integer d && (is_month gregorian m && (is_integer y && no_more ws))

-- Times

abbrev pub pair_within : ℕ → ℕ → ℕ → Bool
pair_within most a b = is_ascii_digit a && (is_ascii_digit b && nat_le (10 * (a - 48) + (b - 48)) most)

abbrev pub read_pair : ℕ → List ℕ → Option (List ℕ)
read_pair most [] = None
read_pair most (a ∷ []) = None
read_pair most (a ∷ b ∷ rest) = cond (pair_within most a b) (Some rest) None

-- one digit or two, and a colon
abbrev pub read_hour : List ℕ → Option (List ℕ)
read_hour [] = None
read_hour (a ∷ []) = None
read_hour (a ∷ b ∷ rest) = cond (b == 58) (cond (is_ascii_digit a) (Some rest) None) (cond (pair_within 23 a b) (read_byte 58 rest) None)

abbrev pub read_digits : List ℕ → Option (List ℕ)
read_digits t = cond (filled (front is_ascii_digit t)) (Some (after is_ascii_digit t)) None

abbrev pub read_fraction : List ℕ → Option (List ℕ)
read_fraction [] = Some []
read_fraction (c ∷ cs) = cond (c == 46) (read_digits cs) (Some (c ∷ cs))

abbrev pub read_seconds : List ℕ → Option (List ℕ)
read_seconds [] = Some []
read_seconds (c ∷ cs) = cond (c == 58) (then (read_pair 59 cs) read_fraction) (Some (c ∷ cs))

abbrev pub is_zone : List ℕ → Bool
is_zone t = not (filled t) || bytes_eq t (codes "Z")

abbrev pub ends_seconds : List ℕ → Bool
ends_seconds t = passes (read_seconds t) is_zone

abbrev pub ends_minutes : List ℕ → Bool
ends_minutes t = passes (read_pair 59 t) ends_seconds

abbrev pub is_time : List ℕ → Bool
is_time t = passes (read_hour t) ends_minutes

-- Ages

abbrev pub is_count : ℕ → List ℕ → Bool
is_count u w = passes (read_digits w) (λ rest. bytes_eq rest (u ∷ []))

-- a unit takes the first word that is left, if that counts it
abbrev pub after_unit : ℕ → List (List ℕ) → List (List ℕ)
after_unit u [] = []
after_unit u (w ∷ ws) = cond (is_count u w) ws (w ∷ ws)

abbrev pub after_units : List ℕ → List (List ℕ) → List (List ℕ)
after_units [] ws = ws
after_units (u ∷ us) ws = after_units us (after_unit u ws)

abbrev pub is_duration : List (List ℕ) → Bool
is_duration ws = filled ws && no_more (after_units (codes "ymwd") ws)

abbrev pub is_bounded : List (List ℕ) → Bool
is_bounded [] = false
is_bounded (b ∷ ws) = (bytes_eq b (codes "<") || bytes_eq b (codes ">")) && is_duration ws

abbrev pub is_age : List (List ℕ) → Bool
is_age ws = is_duration ws || is_bounded ws

-- Lists

abbrev pub starts_blank : List ℕ → Bool
starts_blank [] = false
starts_blank (c ∷ cs) = c == 32

abbrev pub ends_blank : List ℕ → Bool
ends_blank [] = false
ends_blank (c ∷ []) = c == 32
ends_blank (c ∷ d ∷ cs) = ends_blank (d ∷ cs)

abbrev pub begins_well : List ℕ → Bool
begins_well w = not (starts_blank w) || all_spaces w

-- the last piece
abbrev pub ends_well : List (List ℕ) → Bool
ends_well [] = true
ends_well (w ∷ []) = not (ends_blank w) || all_spaces w
ends_well (w ∷ v ∷ ws) = ends_well (v ∷ ws)

abbrev pub are_texts : List (List ℕ) → Bool
are_texts [] = true
are_texts (w ∷ []) = not (starts_blank w) && not (ends_blank w)
are_texts (w ∷ v ∷ ws) = begins_well w && ends_well (v ∷ ws)

-- behind the first comma
abbrev pub later_pass : (List ℕ → Bool) → List (List ℕ) → Bool
later_pass p [] = true
later_pass p (w ∷ []) = p (left_trimmed w)
later_pass p (w ∷ v ∷ ws) = p (right_trimmed (left_trimmed w)) && later_pass p (v ∷ ws)

abbrev pub pieces_pass : (List ℕ → Bool) → List (List ℕ) → Bool
pieces_pass p [] = true
pieces_pass p (w ∷ []) = p w
pieces_pass p (w ∷ v ∷ ws) = p (right_trimmed w) && later_pass p (v ∷ ws)

-- The kinds

abbrev pub takes_line : Meaning → Kind → List ℕ → Bool
takes_line m Nothing t = false
takes_line m Text t = true
takes_line m Flag t = is_flag t
takes_line m Integer t = is_integer t
takes_line m (Word s) t = m.member s t
takes_line m (Words s) t = pieces_pass (m.member s) (cut 44 t)
takes_line m Texts t = are_texts (cut 44 t)
takes_line m Date t = is_date_value (cut 32 t)
takes_line m Period t = is_period (cut 32 t)
takes_line m Exact t = is_exact (cut 32 t)
takes_line m Time t = is_time t
takes_line m Age t = is_age (cut 32 t)
takes_line m Name t = is_person t
takes_line m Version t = is_version t
takes_line m (Pointer s) t = false
takes_line m Anything t = true

abbrev pub takes_lines : Kind → Bool
takes_lines Nothing = false
takes_lines Text = true
takes_lines Flag = false
takes_lines Integer = false
takes_lines (Word s) = false
takes_lines (Words s) = false
takes_lines Texts = false
takes_lines Date = false
takes_lines Period = false
takes_lines Exact = false
takes_lines Time = false
takes_lines Age = false
takes_lines Name = false
takes_lines Version = false
takes_lines (Pointer s) = false
takes_lines Anything = true

abbrev pub takes_pointers : Kind → Bool
takes_pointers Nothing = false
takes_pointers Text = false
takes_pointers Flag = false
takes_pointers Integer = false
takes_pointers (Word s) = false
takes_pointers (Words s) = false
takes_pointers Texts = false
takes_pointers Date = false
takes_pointers Period = false
takes_pointers Exact = false
takes_pointers Time = false
takes_pointers Age = false
takes_pointers Name = false
takes_pointers Version = false
takes_pointers (Pointer s) = true
takes_pointers Anything = true

abbrev pub is_nothing : Kind → Bool
is_nothing Nothing = true
is_nothing Text = false
is_nothing Flag = false
is_nothing Integer = false
is_nothing (Word s) = false
is_nothing (Words s) = false
is_nothing Texts = false
is_nothing Date = false
is_nothing Period = false
is_nothing Exact = false
is_nothing Time = false
is_nothing Age = false
is_nothing Name = false
is_nothing Version = false
is_nothing (Pointer s) = false
is_nothing Anything = false

abbrev pub takes_nothing : Kind → Bool
takes_nothing k = is_nothing k || may_be_emptied k

abbrev pub takes_text : Meaning → Kind → List ℕ → List (List ℕ) → Bool
takes_text m k t [] = takes_line m k t
takes_text m k t (u ∷ us) = takes_lines k

abbrev pub takes : Meaning → Kind → Payload → Bool
takes m k none = takes_nothing k
takes m k (text t more) = takes_text m k t more
takes m k void = takes_pointers k
takes m k (pointer i) = takes_pointers k
