-- What each payload kind takes. Assumes nothing.
use Rattle.std.specs.Prelude.{◌≡◌, ℕ, ◌+◌, ◌-◌, ◌*◌, ◌<◌, ◌≤◌, Bool, true, false, cond, not, ◌&&◌, ◌⊎◌, List, [], ◌∷◌, ◌++◌, length, codes, ◌==◌}
use Rattle.std.specs.Char.{is_ascii_digit}
use Rattle.std.specs.List.{ContainsAt as Has, AllByRecursion}
use Rattle.model.specs.declared.Kind.{Kind}
use Rattle.model.specs.declared.Kind.TheVariants.{Nothing, Text, Flag, Integer, Word, Words, Texts, Date, Period, Exact, Time, Age, Name, Version, Pointer, Anything}
use Rattle.model.specs.Books.{Meaning}
use Rattle.model.specs.Datasets.{Payload, none, text, void, pointer}

-- all of them are digits
abbrev pub all_digits : List ℕ → Bool
all_digits [] = true
all_digits (c ∷ cs) = is_ascii_digit c && all_digits cs

-- one or more digits, of any length
abbrev pub IsInteger : List ℕ → Type 0
IsInteger t = (0 < length t) × (all_digits t ≡ true)

-- the pieces of t between the bytes c
abbrev pub onto_first : ℕ → List (List ℕ) → List (List ℕ)
onto_first x [] = (x ∷ []) ∷ []
onto_first x (w ∷ ws) = (x ∷ w) ∷ ws

abbrev pub cut : ℕ → List ℕ → List (List ℕ)
cut c [] = [] ∷ []
cut c (x ∷ xs) = cond (x == c) ([] ∷ cut c xs) (onto_first x (cut c xs))

-- Calendars

-- its name, whether it takes BCE, and its months
pub record Calendar : Type 0 where
  pub name : List ℕ
  pub bce : Bool
  pub months : List (List ℕ)

-- the months of the two western calendars
abbrev pub western : List (List ℕ)
western = cut 32 (codes "JAN FEB MAR APR MAY JUN JUL AUG SEP OCT NOV DEC")

abbrev pub gregorian : Calendar
gregorian = record { name = codes "GREGORIAN"; bce = true; months = western }

abbrev pub julian : Calendar
julian = record { name = codes "JULIAN"; bce = true; months = western }

abbrev pub french : Calendar
french = record { name = codes "FRENCH_R"; bce = false; months = cut 32 (codes "VEND BRUM FRIM NIVO PLUV VENT GERM FLOR PRAI MESS THER FRUC COMP") }

abbrev pub hebrew : Calendar
hebrew = record { name = codes "HEBREW"; bce = false; months = cut 32 (codes "TSH CSH KSL TVT SHV ADR ADS NSN IYR SVN TMZ AAV ELL") }

-- Dates, by their words

-- nothing, a month, or a day and a month
abbrev pub DayMonth : Calendar → List (List ℕ) → Type 0
DayMonth c [] = Unit {0}
DayMonth c (m ∷ []) = Has c.months m
DayMonth c (d ∷ m ∷ []) = IsInteger d × Has c.months m
DayMonth c (d ∷ m ∷ x ∷ ws) = ⊥

-- nothing, or BCE where the calendar takes it
abbrev pub Epoch : Calendar → List (List ℕ) → Type 0
Epoch c ws = (ws ≡ []) ⊎ ((c.bce ≡ true) × (ws ≡ codes "BCE" ∷ []))

-- a date of the calendar, its name aside: only the year is needed
pub record DateIn (c : Calendar) (ws : List (List ℕ)) : Type 0 where
  pub front : List (List ℕ)
  pub year : List ℕ
  pub epoch : List (List ℕ)
  pub are : ws ≡ front ++ year ∷ epoch
  pub day_month : DayMonth c front
  pub counted : IsInteger year
  pub era : Epoch c epoch

-- the calendar's name, and a date of it
abbrev pub Named : Calendar → List (List ℕ) → Type 0
Named c ws = (rest : List (List ℕ)) × (ws ≡ c.name ∷ rest) × DateIn c rest

-- a calendar that is not named is GREGORIAN
abbrev pub IsDate : List (List ℕ) → Type 0
IsDate ws = DateIn gregorian ws ⊎ (Named gregorian ws ⊎ (Named julian ws ⊎ (Named french ws ⊎ Named hebrew ws)))

-- a word, and a date
abbrev pub After : List ℕ → List (List ℕ) → Type 0
After w ws = (rest : List (List ℕ)) × (ws ≡ w ∷ rest) × IsDate rest

-- two words, each with a date behind it
abbrev pub Between : List ℕ → List ℕ → List (List ℕ) → Type 0
Between v w ws = (first second : List (List ℕ)) × (ws ≡ v ∷ first ++ w ∷ second) × IsDate first × IsDate second

-- from a date, to a date, or both
abbrev pub IsPeriod : List (List ℕ) → Type 0
IsPeriod ws = After (codes "FROM") ws ⊎ (After (codes "TO") ws ⊎ Between (codes "FROM") (codes "TO") ws)

-- the words that may stand before one date
abbrev pub qualifiers : List (List ℕ)
qualifiers = cut 32 (codes "AFT BEF ABT CAL EST")

-- a date, a period, between two dates, or a qualified date
abbrev pub IsDateValue : List (List ℕ) → Type 0
IsDateValue ws = IsDate ws ⊎ (IsPeriod ws ⊎ (Between (codes "BET") (codes "AND") ws ⊎ ((q : List ℕ) × Has qualifiers q × After q ws)))

-- day, month and year, and no more
pub record IsExact (ws : List (List ℕ)) : Type 0 where
  pub day : List ℕ
  pub month : List ℕ
  pub year : List ℕ
  pub are : ws ≡ day ∷ month ∷ year ∷ []
  pub day_counted : IsInteger day
  pub known : Has gregorian.months month
  pub year_counted : IsInteger year

-- Times

-- two digits, of a number that is not above the most
abbrev pub TwoDigits : ℕ → List ℕ → Type 0
TwoDigits most t = (a b : ℕ) × (t ≡ a ∷ b ∷ []) × (is_ascii_digit a ≡ true) × (is_ascii_digit b ≡ true) × (10 * (a - 48) + (b - 48) ≤ most)

-- one digit, or two up to 23
abbrev pub Hour : List ℕ → Type 0
Hour t = ((a : ℕ) × (t ≡ a ∷ []) × (is_ascii_digit a ≡ true)) ⊎ TwoDigits 23 t

-- none, or up to 59, perhaps with a fraction
abbrev pub Seconds : List ℕ → Type 0
Seconds t = (t ≡ []) ⊎ (((s : List ℕ) × (t ≡ 58 ∷ s) × TwoDigits 59 s) ⊎ ((s f : List ℕ) × (t ≡ 58 ∷ s ++ 46 ∷ f) × TwoDigits 59 s × IsInteger f))

-- hour, minute, seconds if they are told, and Z if it is
pub record IsTime (t : List ℕ) : Type 0 where
  pub hour : List ℕ
  pub minute : List ℕ
  pub seconds : List ℕ
  pub zone : List ℕ
  pub are : t ≡ hour ++ 58 ∷ minute ++ seconds ++ zone
  pub hours : Hour hour
  pub minutes : TwoDigits 59 minute
  pub fine : Seconds seconds
  pub zoned : (zone ≡ []) ⊎ (zone ≡ codes "Z")

-- Ages: some of years, months, weeks and days, in this order

-- an integer and its unit
abbrev pub Count : ℕ → List ℕ → Type 0
Count u w = (n : List ℕ) × (w ≡ n ++ u ∷ []) × IsInteger n

-- a count for some of the units, in their order
abbrev pub Counts : List ℕ → List (List ℕ) → Type 0
Counts us [] = Unit {0}
Counts [] (w ∷ ws) = ⊥
Counts (u ∷ us) (w ∷ ws) = (Count u w × Counts us ws) ⊎ Counts us (w ∷ ws)

-- at least one count
abbrev pub Duration : List (List ℕ) → Type 0
Duration ws = (0 < length ws) × Counts (codes "ymwd") ws

-- a duration, perhaps with a bound before it
abbrev pub IsAge : List (List ℕ) → Type 0
IsAge ws = Duration ws ⊎ ((b : List ℕ) × (rest : List (List ℕ)) × (ws ≡ b ∷ rest) × ((b ≡ codes "<") ⊎ (b ≡ codes ">")) × Duration rest)

-- Lists. Spaces beside a comma are dropped: those before the first piece and after the last are not.

-- without the spaces at its front
abbrev pub left_trimmed : List ℕ → List ℕ
left_trimmed [] = []
left_trimmed (c ∷ cs) = cond (c == 32) (left_trimmed cs) (c ∷ cs)

-- without the spaces at its end
abbrev pub right_trimmed : List ℕ → List ℕ
right_trimmed [] = []
right_trimmed (c ∷ cs) = elim (right_trimmed cs) [ [] ↦ cond (c == 32) [] (c ∷ []) | d ∷ ds ↦ c ∷ d ∷ ds ]

-- the pieces after the first comma
abbrev pub later_pieces : List (List ℕ) → List (List ℕ)
later_pieces [] = []
later_pieces (w ∷ []) = left_trimmed w ∷ []
later_pieces (w ∷ v ∷ ws) = right_trimmed (left_trimmed w) ∷ later_pieces (v ∷ ws)

-- each piece without the spaces that stand beside a comma
abbrev pub trimmed_pieces : List (List ℕ) → List (List ℕ)
trimmed_pieces [] = []
trimmed_pieces (w ∷ []) = w ∷ []
trimmed_pieces (w ∷ v ∷ ws) = right_trimmed w ∷ later_pieces (v ∷ ws)

-- nothing but spaces
abbrev pub all_spaces : List ℕ → Bool
all_spaces [] = true
all_spaces (c ∷ cs) = c == 32 && all_spaces cs

-- a first piece begins with a space only if it is all spaces
abbrev pub BeginsWell : List ℕ → Type 0
BeginsWell [] = Unit {0}
BeginsWell (c ∷ cs) = c ≡ 32 → all_spaces cs ≡ true

-- a last piece ends with a space only if it is all spaces
abbrev pub EndsWell : List (List ℕ) → Type 0
EndsWell [] = Unit {0}
EndsWell (w ∷ []) = (w ≡ right_trimmed w) ⊎ (all_spaces w ≡ true)
EndsWell (w ∷ v ∷ ws) = EndsWell (v ∷ ws)

-- one piece neither begins nor ends with a space; of several, the first begins with one, and the last ends with one, only if it is all spaces
abbrev pub IsTexts : List (List ℕ) → Type 0
IsTexts [] = Unit {0}
IsTexts (w ∷ []) = (w ≡ left_trimmed w) × (w ≡ right_trimmed w)
IsTexts (w ∷ v ∷ ws) = BeginsWell w × EndsWell (v ∷ ws)

-- Names and versions

-- how many slashes there are
abbrev pub slashes : List ℕ → ℕ
slashes [] = 0
slashes (c ∷ cs) = cond (c == 47) 1 0 + slashes cs

-- no tab stands among them
abbrev pub no_tab : List ℕ → Bool
no_tab [] = true
no_tab (c ∷ cs) = not (c == 9) && no_tab cs

-- not empty, no tab, and no slash or two
abbrev pub IsName : List ℕ → Type 0
IsName t = (0 < length t) × (no_tab t ≡ true) × ((slashes t ≡ 0) ⊎ (slashes t ≡ 2))

-- 7.0, or 7.0. and an integer
abbrev pub IsVersion : List ℕ → Type 0
IsVersion t = (t ≡ codes "7.0") ⊎ ((n : List ℕ) × (t ≡ codes "7.0." ++ n) × IsInteger n)

-- The kinds

-- the kinds that may lose their payload
abbrev pub may_be_emptied : Kind → Bool
may_be_emptied Nothing = false
may_be_emptied Text = true
may_be_emptied Flag = true
may_be_emptied Integer = false
may_be_emptied (Word s) = false
may_be_emptied (Words s) = false
may_be_emptied Texts = true
may_be_emptied Date = true
may_be_emptied Period = true
may_be_emptied Exact = false
may_be_emptied Time = false
may_be_emptied Age = true
may_be_emptied Name = false
may_be_emptied Version = false
may_be_emptied (Pointer t) = false
may_be_emptied Anything = true

-- one line of text
abbrev pub TakesLine : Meaning → Kind → List ℕ → Type 0
TakesLine m Nothing t = ⊥
TakesLine m Text t = Unit {0}
TakesLine m Flag t = t ≡ codes "Y"
TakesLine m Integer t = IsInteger t
TakesLine m (Word s) t = m.member s t ≡ true
TakesLine m (Words s) t = AllByRecursion (λ w. m.member s w ≡ true) (trimmed_pieces (cut 44 t))
TakesLine m Texts t = IsTexts (cut 44 t)
TakesLine m Date t = IsDateValue (cut 32 t)
TakesLine m Period t = IsPeriod (cut 32 t)
TakesLine m Exact t = IsExact (cut 32 t)
TakesLine m Time t = IsTime t
TakesLine m Age t = IsAge (cut 32 t)
TakesLine m Name t = IsName t
TakesLine m Version t = IsVersion t
TakesLine m (Pointer s) t = ⊥
TakesLine m Anything t = Unit {0}

-- a text of several lines
abbrev pub TakesLines : Kind → Type 0
TakesLines k = (k ≡ Text) ⊎ (k ≡ Anything)

-- void or a pointer
abbrev pub TakesPointers : Kind → Type 0
TakesPointers k = ((s : ℕ) × (k ≡ Pointer s)) ⊎ (k ≡ Anything)

-- no payload
abbrev pub TakesNothing : Kind → Type 0
TakesNothing k = (k ≡ Nothing) ⊎ (may_be_emptied k ≡ true)

-- a text, by its first line and those behind it
abbrev pub TakesText : Meaning → Kind → List ℕ → List (List ℕ) → Type 0
TakesText m k t [] = TakesLine m k t
TakesText m k t (u ∷ us) = TakesLines k

-- any payload
abbrev pub Takes : Meaning → Kind → Payload → Type 0
Takes m k none = TakesNothing k
Takes m k (text t more) = TakesText m k t more
Takes m k void = TakesPointers k
Takes m k (pointer i) = TakesPointers k
