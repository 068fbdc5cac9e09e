-- A kind takes a payload just if the test says so. Assumes nothing.
use Rattle.std.proofs.Common.{◌≡◌, ℕ, true, false, List, [], ◌∷◌, Decides, refl, ap, inl, inr}
use Rattle.std.proofs.lemmas.Bool.{both_ways}
use Rattle.std.proofs.lemmas.Bool.Decides.{Decides-or}
use Rattle.model.specs.declared.Kind.{Kind}
use Rattle.model.specs.declared.Kind.TheVariants.{Nothing, Text, Flag, Integer, Word, Words, Texts, Date, Period, Exact, Time, Age, Name, Version, Pointer, Anything}
use Rattle.model.specs.Books.{Meaning}
use Rattle.model.specs.Datasets.{Payload, none, text, void, pointer}
use Rattle.model.specs.Kinds.{cut, may_be_emptied, TakesLine, TakesLines, TakesPointers, TakesNothing, TakesText, Takes}
use Rattle.model.specs.Grammar.{is_nothing, takes_line, takes_lines, takes_pointers, takes_nothing, takes_text, takes}
use Rattle.model.proofs.Grammars.{decides_itself, decides_always, decides_never, flag_decides, integer_decides, name_decides, version_decides}
use Rattle.model.proofs.Dates.{date_value_decides, period_decides, exact_decides}
use Rattle.model.proofs.Times.{time_decides, age_decides}
use Rattle.model.proofs.Pieces.{texts_decides, pieces_decide}

pub line_decides : (m : Meaning) (k : Kind) (t : List ℕ) → Decides (takes_line m k t) (TakesLine m k t)
line_decides m Nothing t = decides_never (λ h. h)
line_decides m Text t = decides_always tt
line_decides m Flag t = flag_decides t
line_decides m Integer t = integer_decides t
line_decides m (Word s) t = decides_itself (m.member s t)
line_decides m (Words s) t = pieces_decide (m.member s) (cut 44 t)
line_decides m Texts t = texts_decides (cut 44 t)
line_decides m Date t = date_value_decides (cut 32 t)
line_decides m Period t = period_decides (cut 32 t)
line_decides m Exact t = exact_decides (cut 32 t)
line_decides m Time t = time_decides t
line_decides m Age t = age_decides (cut 32 t)
line_decides m Name t = name_decides t
line_decides m Version t = version_decides t
line_decides m (Pointer s) t = decides_never (λ h. h)
line_decides m Anything t = decides_always tt

no_way : {P : Type 0} → false ≡ true → P
no_way e = absurd (both_ways false refl e)

lines_taken : (k : Kind) → takes_lines k ≡ true → TakesLines k
lines_taken Nothing e = no_way e
lines_taken Text e = inl refl
lines_taken Flag e = no_way e
lines_taken Integer e = no_way e
lines_taken (Word s) e = no_way e
lines_taken (Words s) e = no_way e
lines_taken Texts e = no_way e
lines_taken Date e = no_way e
lines_taken Period e = no_way e
lines_taken Exact e = no_way e
lines_taken Time e = no_way e
lines_taken Age e = no_way e
lines_taken Name e = no_way e
lines_taken Version e = no_way e
lines_taken (Pointer s) e = no_way e
lines_taken Anything e = inr refl

taken_lines : (k : Kind) → TakesLines k → takes_lines k ≡ true
taken_lines k (inl e) = ap takes_lines e
taken_lines k (inr e) = ap takes_lines e

pub lines_decide : (k : Kind) → Decides (takes_lines k) (TakesLines k)
lines_decide k = (lines_taken k, taken_lines k)

pointers_taken : (k : Kind) → takes_pointers k ≡ true → TakesPointers k
pointers_taken Nothing e = no_way e
pointers_taken Text e = no_way e
pointers_taken Flag e = no_way e
pointers_taken Integer e = no_way e
pointers_taken (Word s) e = no_way e
pointers_taken (Words s) e = no_way e
pointers_taken Texts e = no_way e
pointers_taken Date e = no_way e
pointers_taken Period e = no_way e
pointers_taken Exact e = no_way e
pointers_taken Time e = no_way e
pointers_taken Age e = no_way e
pointers_taken Name e = no_way e
pointers_taken Version e = no_way e
pointers_taken (Pointer s) e = inl (s, refl)
pointers_taken Anything e = inr refl

taken_pointers : (k : Kind) → TakesPointers k → takes_pointers k ≡ true
taken_pointers k (inl h) = ap takes_pointers h.1
taken_pointers k (inr e) = ap takes_pointers e

pub pointers_decide : (k : Kind) → Decides (takes_pointers k) (TakesPointers k)
pointers_decide k = (pointers_taken k, taken_pointers k)

nothing_is : (k : Kind) → is_nothing k ≡ true → k ≡ Nothing
nothing_is Nothing e = refl
nothing_is Text e = no_way e
nothing_is Flag e = no_way e
nothing_is Integer e = no_way e
nothing_is (Word s) e = no_way e
nothing_is (Words s) e = no_way e
nothing_is Texts e = no_way e
nothing_is Date e = no_way e
nothing_is Period e = no_way e
nothing_is Exact e = no_way e
nothing_is Time e = no_way e
nothing_is Age e = no_way e
nothing_is Name e = no_way e
nothing_is Version e = no_way e
nothing_is (Pointer s) e = no_way e
nothing_is Anything e = no_way e

nothing_decides : (k : Kind) → Decides (is_nothing k) (k ≡ Nothing)
nothing_decides k = (nothing_is k, ap is_nothing)

empty_decides : (k : Kind) → Decides (takes_nothing k) (TakesNothing k)
empty_decides k = Decides-or (is_nothing k) (may_be_emptied k) (nothing_decides k) (decides_itself (may_be_emptied k))

text_decides : (m : Meaning) (k : Kind) (t : List ℕ) (more : List (List ℕ)) → Decides (takes_text m k t more) (TakesText m k t more)
text_decides m k t [] = line_decides m k t
text_decides m k t (u ∷ us) = lines_decide k

pub takes_decides : (m : Meaning) (k : Kind) (p : Payload) → Decides (takes m k p) (Takes m k p)
takes_decides m k none = empty_decides k
takes_decides m k (text t more) = text_decides m k t more
takes_decides m k void = pointers_decide k
takes_decides m k (pointer i) = pointers_decide k
