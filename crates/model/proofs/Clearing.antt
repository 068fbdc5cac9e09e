-- A file of lines is clean: characters, none of them banned. Assumes nothing.
use Rattle.std.proofs.Common.{◌≡◌, ℕ, ◌<◌, ◌≤◌, true, false, not, eqb, List, [], ◌∷◌, ◌++◌, Some, None, IsUtf8, Option, sym, refl, ap, ◌∙◌, subst, inl, inr, arith}
use lib.Utf8.{scalar, scalars, encode, encodes, low_scalar}
use Rattle.std.specs.List.{AllByRecursion}
use Rattle.std.proofs.lemmas.Str.Ascii.{encodes-IsAscii}
use Rattle.std.proofs.ByRecursion.{IsAscii-from_all, All-append, All-weaker}
use Rattle.std.proofs.lemmas.Str.{encodes-append}
use Rattle.std.proofs.lemmas.Bool.{and_parts, and_from, cond_both}
use Rattle.std.proofs.lemmas.Bool.Decides.{nat_tests}
use Rattle.model.specs.Characters.{Clean, banned, none_banned}
use Rattle.model.specs.Lines.{Line, Value, nothing, void, pointer, text, VOID, GoodLine, GoodValue, GoodIdentifier, Identifier, escaped, spell, spell_value, spell_identifier, numeral}
use Rattle.model.specs.Datasets.{MARK, Dataset}
use Rattle.model.specs.Files.{Mark, Placed, GoodPlaced, all_bytes, bytes_of, Lined, HasLines}
use Rattle.model.proofs.Spelling.{End, Digit, PlainByte, tag_chars_plain, tag_plain, numeral_digits}
use Rattle.model.proofs.Lining.{ends_all}

scalars_append : (xs ys : List ℕ) → scalars xs ≡ true → scalars ys ≡ true → scalars (xs ++ ys) ≡ true
scalars_append [] ys h k = k
scalars_append (x ∷ xs) ys h k = let p = and_parts (scalar x) (scalars xs) h in and_from (scalar x) (scalars (xs ++ ys)) p.0 (scalars_append xs ys p.1 k)

none_append : (xs ys : List ℕ) → none_banned xs ≡ true → none_banned ys ≡ true → none_banned (xs ++ ys) ≡ true
none_append [] ys h k = k
none_append (x ∷ xs) ys h k = let p = and_parts (not (banned x)) (none_banned xs) h in and_from (not (banned x)) (none_banned (xs ++ ys)) p.0 (none_append xs ys p.1 k)

pub clean_append : (xs ys : List ℕ) → Clean xs → Clean ys → Clean (xs ++ ys)
clean_append xs ys a b = record {
  characters = a.characters ++ b.characters;
  real = scalars_append a.characters b.characters a.real b.real;
  allowed = none_append a.characters b.characters a.allowed b.allowed;
  are = encodes-append a.characters b.characters ∙ (λ i. a.are i ++ b.are i);
}

-- Bytes that are characters

pub record Fine (c : ℕ) : Type 0 where
  pub ascii : c < 128
  pub free : banned c ≡ false

fine_from : (c : ℕ) → 32 ≤ c → c < 127 → Fine c
fine_from c h k = record { ascii = omega arith; free = grind (arith, nat_tests) }

fine_end : (c : ℕ) → End c → Fine c
fine_end c (inl e) = record { ascii = omega arith; free = ap banned e }
fine_end c (inr e) = record { ascii = omega arith; free = ap banned e }

fine_scalars : (cs : List ℕ) → AllByRecursion Fine cs → scalars cs ≡ true
fine_scalars [] h = refl
fine_scalars (c ∷ cs) h = let a = h.0.ascii in and_from (scalar c) (scalars cs) (low_scalar c (omega arith)) (fine_scalars cs h.1)

fine_allowed : (cs : List ℕ) → AllByRecursion Fine cs → none_banned cs ≡ true
fine_allowed [] h = refl
fine_allowed (c ∷ cs) h = and_from (not (banned c)) (none_banned cs) (ap not h.0.free) (fine_allowed cs h.1)

pub fine_clean : (cs : List ℕ) → AllByRecursion Fine cs → Clean cs
fine_clean cs h = record { characters = cs; real = fine_scalars cs h; allowed = fine_allowed cs h; are = encodes-IsAscii cs (IsAscii-from_all cs (All-weaker Fine (λ c. c < 128) (λ c f. f.ascii) cs h)) }

plain_fine : (cs : List ℕ) → AllByRecursion PlainByte cs → AllByRecursion Fine cs
plain_fine cs h = All-weaker PlainByte Fine (λ c p. fine_from c (omega arith) (omega arith)) cs h

digits_fine : (cs : List ℕ) → AllByRecursion Digit cs → AllByRecursion Fine cs
digits_fine cs h = All-weaker Digit Fine (λ c p. fine_from c (omega arith) (omega arith)) cs h

space_fine : Fine 32
space_fine = fine_from 32 (omega arith) (omega arith)

at_fine : Fine 64
at_fine = fine_from 64 (omega arith) (omega arith)

-- Lines

identifier_fine : (bs : List ℕ) → Identifier bs → AllByRecursion Fine bs
identifier_fine bs i = subst (AllByRecursion Fine) (sym i.marked) (All-append Fine (64 ∷ i.name) (64 ∷ []) (at_fine, plain_fine i.name (tag_chars_plain i.name i.plain)) (at_fine, tt))

void_fine : AllByRecursion Fine VOID
void_fine = (at_fine, (fine_from 86 (omega arith) (omega arith), (fine_from 79 (omega arith) (omega arith), (fine_from 73 (omega arith) (omega arith), (fine_from 68 (omega arith) (omega arith), (at_fine, tt))))))

one_fine : (c : ℕ) (cs : List ℕ) → Fine c → Clean cs → Clean (c ∷ cs)
one_fine c cs f g = clean_append (c ∷ []) cs (fine_clean (c ∷ []) (f, tt)) g

escaped_clean : (t : List ℕ) → Clean t → Clean (escaped t)
escaped_clean [] g = g
escaped_clean (c ∷ cs) g = cond_both (eqb c 64) (64 ∷ c ∷ cs) (c ∷ cs) Clean (λ e. one_fine 64 (c ∷ cs) at_fine g) (λ e. g)

value_clean : (v : Value) → GoodValue v → Clean (spell_value v)
value_clean nothing g = fine_clean [] tt
value_clean void g = fine_clean (32 ∷ VOID) (space_fine, void_fine)
value_clean (pointer i) g = fine_clean (32 ∷ i) (space_fine, identifier_fine i g)
value_clean (text t) g = one_fine 32 (escaped t) space_fine (escaped_clean t g.0.clean)

identified_clean : (i : Option (List ℕ)) → GoodIdentifier i → Clean (spell_identifier i)
identified_clean None g = fine_clean [] tt
identified_clean (Some i) g = fine_clean (i ++ 32 ∷ []) (All-append Fine i (32 ∷ []) (identifier_fine i g) (space_fine, tt))

pub line_clean : (l : Line) → GoodLine l → Clean (spell l)
line_clean l g =
    clean_append (numeral l.level ++ 32 ∷ spell_identifier l.identifier ++ l.tag) (spell_value l.value)
    (clean_append (numeral l.level ++ 32 ∷ spell_identifier l.identifier) l.tag
    (clean_append (numeral l.level) (32 ∷ spell_identifier l.identifier) (fine_clean (numeral l.level) (digits_fine (numeral l.level) (numeral_digits l.level))) (one_fine 32 (spell_identifier l.identifier) space_fine (identified_clean l.identifier g.identified)))
    (fine_clean l.tag (plain_fine l.tag (tag_plain l.tag g.tagged))))
    (value_clean l.value g.valued)

-- Files

all_clean : (ps : List Placed) → AllByRecursion GoodPlaced ps → Clean (all_bytes ps)
all_clean [] g = fine_clean [] tt
all_clean (p ∷ ps) g = clean_append (bytes_of p) (all_bytes ps) (clean_append (spell p.line) p.ended (line_clean p.line g.0.good) (fine_clean p.ended (All-weaker End Fine fine_end p.ended (ends_all p.ended g.0.ends)))) (all_clean ps g.1)

mark_are : encodes (65279 ∷ []) ≡ MARK
unfolding encode
mark_are = refl

mark_clean : (m : List ℕ) → Mark m → Clean m
mark_clean m (inl e) = subst Clean (sym e) (fine_clean [] tt)
mark_clean m (inr e) = subst Clean (sym e) (record { characters = 65279 ∷ []; real = refl; allowed = refl; are = mark_are })

pub lined_clean : (file : List ℕ) (ps : List Placed) → Lined file ps → Clean file
lined_clean file ps l = subst Clean (sym l.are) (clean_append l.mark (all_bytes ps) (mark_clean l.mark l.marked) (all_clean ps l.good))

pub has_lines_clean : (file : List ℕ) (d : Dataset) → HasLines file d → Clean file
has_lines_clean file d h = lined_clean file h.0 h.1

pub clean_utf8 : (bs : List ℕ) → Clean bs → IsUtf8 bs
clean_utf8 bs c = (c.characters, (c.real, c.are))
