-- Where a line of a file ends, and that it may be cut there. Assumes nothing.
use Rattle.std.proofs.Common.{◌≡◌, ℕ, ◌+◌, ◌*◌, ◌<◌, ◌≤◌, min, true, false, not, ◌||◌, eqb, List, [], ◌∷◌, ◌++◌, length, get_or, Some, None, IsUtf8, Option, sym, refl, ap, ◌∙◌, subst, inl, inr, append_assoc, arith, length-append, take_at, drop_at}
use lib.Seq.{get_or_at}
use lib.Utf8.{scalars, scalar, low_scalar}
use Rattle.std.specs.List.{AllByRecursion}
use Rattle.std.specs.Int.Digits.{number_from_digits}
use Rattle.std.proofs.lemmas.Int.Digits.{number_push}
use Rattle.std.proofs.ByRecursion.{All-append, All-weaker}
use Rattle.std.proofs.lemmas.Bool.{and_parts, and_from, or_cases, not-false, eqb-true, cond_both}
use Rattle.std.proofs.lemmas.Str.{IsUtf8-take, IsUtf8-drop, IsCharBoundary-before_ascii, encodes-append, encodes_same, encode_ascii}
use Rattle.std.proofs.lemmas.Bool.Decides.{nat_tests}
use Rattle.model.specs.Characters.{Clean, banned, none_banned}
use Rattle.model.specs.Lines.{Line, Value, nothing, void, pointer, text, VOID, GoodLine, GoodValue, GoodIdentifier, Identifier, TextLine, escaped, no_end, spell, spell_value, spell_identifier, numeral}
use Rattle.model.specs.Files.{Placed, GoodPlaced, LineEnd, bytes_of}
use Rattle.model.specs.Refusals.{NoLine}
use Rattle.model.specs.Scan.{front, after, parse, in_line}
use Rattle.model.proofs.Parts.{Begins, not_nil}
use Rattle.model.proofs.Spelling.{End, Digit, PlainByte, tag_plain, tag_chars_plain, numeral_digits}
use Rattle.model.proofs.Lining.{end_starts}
use Rattle.model.proofs.Scanning.{Ascii, clean_tail, front_passes, front_after, after_stops, front_is, after_is, parse_sound, none_spelled}

-- Clean bytes, one behind the other

scalars_append : (cs ds : List ℕ) → scalars cs ≡ true → scalars ds ≡ true → scalars (cs ++ ds) ≡ true
scalars_append [] ds p q = q
scalars_append (c ∷ cs) ds p q = let h = and_parts (scalar c) (scalars cs) p in and_from (scalar c) (scalars (cs ++ ds)) h.0 (scalars_append cs ds h.1 q)

none_banned_append : (cs ds : List ℕ) → none_banned cs ≡ true → none_banned ds ≡ true → none_banned (cs ++ ds) ≡ true
none_banned_append [] ds p q = q
none_banned_append (c ∷ cs) ds p q = let h = and_parts (not (banned c)) (none_banned cs) p in and_from (not (banned c)) (none_banned (cs ++ ds)) h.0 (none_banned_append cs ds h.1 q)

none_banned_parts : (cs ds : List ℕ) → none_banned (cs ++ ds) ≡ true → (none_banned cs ≡ true) × (none_banned ds ≡ true)
none_banned_parts [] ds p = (refl, p)
none_banned_parts (c ∷ cs) ds p =
    let h = and_parts (not (banned c)) (none_banned (cs ++ ds)) p in
    let k = none_banned_parts cs ds h.1 in
    (and_from (not (banned c)) (none_banned cs) h.0 k.0, k.1)

pub clean_append : (xs ys : List ℕ) → Clean xs → Clean ys → Clean (xs ++ ys)
clean_append xs ys a b = record {
  characters = a.characters ++ b.characters;
  real = scalars_append a.characters b.characters a.real b.real;
  allowed = none_banned_append a.characters b.characters a.allowed b.allowed;
  are = encodes-append a.characters b.characters ∙ (λ i. a.are i ++ b.are i);
}

-- clean bytes that are cut between characters leave two clean parts
pub clean_parts : (xs ys : List ℕ) → Clean (xs ++ ys) → IsUtf8 xs → IsUtf8 ys → Clean xs × Clean ys
clean_parts xs ys k a b =
    let same : k.characters ≡ a.0 ++ b.0 = encodes_same k.characters (a.0 ++ b.0) (k.are ∙ (λ i. sym a.1.1 i ++ sym b.1.1 i) ∙ sym (encodes-append a.0 b.0)) in
    let allowed = none_banned_parts a.0 b.0 (subst (λ cs. none_banned cs ≡ true) same k.allowed) in
    (record { characters = a.0; real = a.1.0; allowed = allowed.0; are = a.1.1 }, record { characters = b.0; real = b.1.0; allowed = allowed.1; are = b.1.1 })

pub clean_cut : (xs : List ℕ) (c : ℕ) (ys : List ℕ) → Ascii c → Clean (xs ++ c ∷ ys) → Clean xs × Clean ys
clean_cut xs c ys low k =
    let bs : List ℕ = xs ++ c ∷ ys in
    let u : IsUtf8 bs = (k.characters, (k.real, k.are)) in
    let long : length xs < length bs = simp length-append (omega arith) in
    let byte : get_or bs (length xs) 0 ≡ c = get_or_at xs c ys 0 (length xs) refl in
    let b = IsCharBoundary-before_ascii bs (length xs) long (subst (λ x. x < 128) (sym byte) low) in
    let before : IsUtf8 xs = subst IsUtf8 (take_at xs (c ∷ ys) (length xs) refl) (IsUtf8-take bs (length xs) u b) in
    let behind : IsUtf8 (c ∷ ys) = subst IsUtf8 (drop_at xs (c ∷ ys) (length xs) refl) (IsUtf8-drop bs (length xs) u b) in
    let parts = clean_parts xs (c ∷ ys) k before behind in
    (parts.0, clean_tail c ys low parts.1)

-- What a good line spells is one line of text

abbrev Printed : ℕ → Type 0
Printed c = (32 ≤ c) × (c ≤ 126)

printed_allowed : (c : ℕ) → Printed c → not (banned c) ≡ true
printed_allowed c p = grind (arith, nat_tests)

printed_clean : (bs : List ℕ) → AllByRecursion Printed bs → Clean bs
printed_clean [] h = record { characters = []; real = refl; allowed = refl; are = refl }
printed_clean (c ∷ cs) h =
    let k = printed_clean cs h.1 in
    record {
      characters = c ∷ k.characters;
      real = and_from (scalar c) (scalars k.characters) (low_scalar c (omega arith)) k.real;
      allowed = and_from (not (banned c)) (none_banned k.characters) (printed_allowed c h.0) k.allowed;
      are = (λ i. encode_ascii c (omega arith) i ++ k.are i);
    }

no_end_append : (xs ys : List ℕ) → no_end xs ≡ true → no_end ys ≡ true → no_end (xs ++ ys) ≡ true
no_end_append [] ys p q = q
no_end_append (c ∷ cs) ys p q = let h = and_parts (in_line c) (no_end cs) p in and_from (in_line c) (no_end (cs ++ ys)) h.0 (no_end_append cs ys h.1 q)

printed_in_line : (c : ℕ) → Printed c → in_line c ≡ true
printed_in_line c p = grind (arith, nat_tests)

printed_no_end : (bs : List ℕ) → AllByRecursion Printed bs → no_end bs ≡ true
printed_no_end [] h = refl
printed_no_end (c ∷ cs) h = and_from (in_line c) (no_end cs) (printed_in_line c h.0) (printed_no_end cs h.1)

pub printed_line : (bs : List ℕ) → AllByRecursion Printed bs → TextLine bs
printed_line bs h = record { clean = printed_clean bs h; one = printed_no_end bs h }

pub line_append : (xs ys : List ℕ) → TextLine xs → TextLine ys → TextLine (xs ++ ys)
line_append xs ys a b = record { clean = clean_append xs ys a.clean b.clean; one = no_end_append xs ys a.one b.one }

plain_printed : (c : ℕ) → PlainByte c → Printed c
plain_printed c p = (omega arith, omega arith)

identifier_printed : (i : List ℕ) → Identifier i → AllByRecursion Printed i
identifier_printed i g = subst (AllByRecursion Printed) (sym g.marked) (All-append Printed (64 ∷ g.name) (64 ∷ []) ((omega arith, omega arith), All-weaker PlainByte Printed plain_printed g.name (tag_chars_plain g.name g.plain)) ((omega arith, omega arith), tt))

space_line : TextLine (32 ∷ [])
space_line = printed_line (32 ∷ []) ((omega arith, omega arith), tt)

escaped_line : (t : List ℕ) → TextLine t → TextLine (escaped t)
escaped_line [] h = h
escaped_line (c ∷ cs) h = cond_both (eqb c 64) (64 ∷ c ∷ cs) (c ∷ cs) TextLine (λ e. line_append (64 ∷ []) (c ∷ cs) (printed_line (64 ∷ []) ((omega arith, omega arith), tt)) h) (λ e. h)

value_line : (v : Value) → GoodValue v → TextLine (spell_value v)
value_line nothing g = printed_line [] tt
value_line void g = line_append (32 ∷ []) VOID space_line (printed_line VOID ((omega arith, omega arith), ((omega arith, omega arith), ((omega arith, omega arith), ((omega arith, omega arith), ((omega arith, omega arith), ((omega arith, omega arith), tt)))))))
value_line (pointer i) g = line_append (32 ∷ []) i space_line (printed_line i (identifier_printed i g))
value_line (text t) g = line_append (32 ∷ []) (escaped t) space_line (escaped_line t g.0)

identifier_line : (i : Option (List ℕ)) → GoodIdentifier i → TextLine (spell_identifier i)
identifier_line None g = printed_line [] tt
identifier_line (Some i) g = line_append i (32 ∷ []) (printed_line i (identifier_printed i g)) space_line

pub spell_line : (l : Line) → GoodLine l → TextLine (spell l)
spell_line l g =
    let level = printed_line (numeral l.level) (All-weaker Digit Printed (λ c d. (omega arith, omega arith)) (numeral l.level) (numeral_digits l.level)) in
    let tag = printed_line l.tag (All-weaker PlainByte Printed plain_printed l.tag (tag_plain l.tag g.tagged)) in
    let first = line_append (numeral l.level) (32 ∷ spell_identifier l.identifier) level (line_append (32 ∷ []) (spell_identifier l.identifier) space_line (identifier_line l.identifier g.identified)) in
    line_append (numeral l.level ++ 32 ∷ spell_identifier l.identifier ++ l.tag) (spell_value l.value) (line_append (numeral l.level ++ 32 ∷ spell_identifier l.identifier) l.tag first tag) (value_line l.value g.valued)

-- The line up to the first line end

pub no_end_passes : (bs : List ℕ) → no_end bs ≡ true → AllByRecursion (λ c. in_line c ≡ true) bs
no_end_passes [] h = tt
no_end_passes (c ∷ cs) h = let p = and_parts (in_line c) (no_end cs) h in (p.0, no_end_passes cs p.1)

passes_no_end : (bs : List ℕ) → AllByRecursion (λ c. in_line c ≡ true) bs → no_end bs ≡ true
passes_no_end [] h = refl
passes_no_end (c ∷ cs) h = and_from (in_line c) (no_end cs) h.0 (passes_no_end cs h.1)

end_not_in_line : (c : ℕ) → End c → in_line c ≡ false
end_not_in_line c (inl e) = grind (arith, nat_tests)
end_not_in_line c (inr e) = grind (arith, nat_tests)

ends_line : (u : List ℕ) → Begins End u → Begins (λ c. in_line c ≡ false) u
ends_line [] s = tt
ends_line (c ∷ cs) s = end_not_in_line c s

-- a good line before a line end is what a scan up to the first line end finds, and the rest follows
pub front_spelled : (p : Placed) (more : List ℕ) → GoodPlaced p → front in_line (bytes_of p ++ more) ≡ spell p.line
front_spelled p more g = ap (front in_line) (append_assoc (spell p.line) p.ended more) ∙ front_is in_line (spell p.line) (p.ended ++ more) (no_end_passes (spell p.line) (spell_line p.line g.good).one) (ends_line (p.ended ++ more) (end_starts p.ended more g.ends))

pub after_spelled : (p : Placed) (more : List ℕ) → GoodPlaced p → after in_line (bytes_of p ++ more) ≡ p.ended ++ more
after_spelled p more g = ap (after in_line) (append_assoc (spell p.line) p.ended more) ∙ after_is in_line (spell p.line) (p.ended ++ more) (no_end_passes (spell p.line) (spell_line p.line g.good).one) (ends_line (p.ended ++ more) (end_starts p.ended more g.ends))

-- no line begins where the bytes up to the first line end spell none
pub no_line_spelled : (rest : List ℕ) → parse (front in_line rest) ≡ None → NoLine rest
no_line_spelled rest e = record { none = λ p g s. none_spelled (front in_line rest) e p.line g.good (sym (ap (front in_line) s.1 ∙ front_spelled p s.0 g)) }

end_not_nil : (e more : List ℕ) → LineEnd e → e ++ more ≡ [] → ⊥
end_not_nil e more (inl h) q = not_nil 13 (10 ∷ more) (sym (ap (λ x. x ++ more) (sym h) ∙ q))
end_not_nil e more (inr (inl h)) q = not_nil 13 more (sym (ap (λ x. x ++ more) (sym h) ∙ q))
end_not_nil e more (inr (inr h)) q = not_nil 10 more (sym (ap (λ x. x ++ more) (sym h) ∙ q))

-- nor where there is none
pub no_line_ended : (rest : List ℕ) → after in_line rest ≡ [] → NoLine rest
no_line_ended rest e = record { none = λ p g s. end_not_nil p.ended s.0 g.ends (sym (after_spelled p s.0 g) ∙ ap (after in_line) (sym s.1) ∙ e) }

-- what a scan up to the first line end leaves of clean bytes is one line of text
pub front_line : (rest : List ℕ) → Clean (front in_line rest) → TextLine (front in_line rest)
front_line rest k = record { clean = k; one = passes_no_end (front in_line rest) (front_passes in_line rest) }

end_from_not_in_line : (c : ℕ) → in_line c ≡ false → End c
end_from_not_in_line c h = elim (or_cases (eqb c 10) (eqb c 13) (not-false (eqb c 10 || eqb c 13) h)) [ inl e ↦ inl (eqb-true c 10 e) | inr e ↦ inr (eqb-true c 13 e) ]

end_ascii : (c : ℕ) → End c → Ascii c
end_ascii c (inl e) = omega arith
end_ascii c (inr e) = omega arith

-- one turn of the reader: clean bytes, the first line end in them, and the line before it
pub line_found : (rest : List ℕ) (c : ℕ) (more : List ℕ) (l : Line) → Clean rest → after in_line rest ≡ c ∷ more → parse (front in_line rest) ≡ Some l → (spell l ++ c ∷ more ≡ rest) × GoodLine l × End c × Clean more
line_found rest c more l k e is =
    let whole : front in_line rest ++ c ∷ more ≡ rest = ap (λ x. front in_line rest ++ x) (sym e) ∙ front_after in_line rest in
    let ends = end_from_not_in_line c (subst (Begins (λ c. in_line c ≡ false)) e (after_stops in_line rest)) in
    let parts = clean_cut (front in_line rest) c more (end_ascii c ends) (subst Clean (sym whole) k) in
    let found = parse_sound (front in_line rest) l (front_line rest parts.0) is in
    (ap (λ x. x ++ c ∷ more) found.0 ∙ whole, found.1, ends, parts.1)

-- A level that is counted up to a cap only

pub capped_push : (cap : ℕ) (ds : List ℕ) (d : ℕ) → min cap (number_from_digits 10 (ds ++ d ∷ [])) ≡ min cap (min cap (number_from_digits 10 ds) * 10 + d)
capped_push cap ds d = let n : ℕ = number_from_digits 10 ds in ap (min cap) (number_push 10 ds d) ∙ omega arith
