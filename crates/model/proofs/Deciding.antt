-- The list of refusals names one fault of a file at most. Assumes nothing.
use Rattle.std.proofs.Common.{◌≡◌, ℕ, ◌+◌, ◌-◌, ◌<◌, ◌≤◌, min, true, false, cond, not, eqb, List, [], ◌∷◌, length, get_or, take, Some, IsUtf8, sym, refl, ap, ◌∙◌, subst, ap₂, subst₂, inl, inr, arith, length-append, length-drop, length-take}
use mathlib.Core.List.{head-eq_of_cons-eq}
use lib.ListN.{length-map}
use lib.Utf8.{encode, encodes}
use Rattle.std.specs.Str.{IsValidUpTo}
use Rattle.std.specs.Char.{len_utf8}
use Rattle.std.specs.List.{AllByRecursion, ContainsAt as Has}
use Rattle.std.proofs.lemmas.Str.{length-encode, len_utf8_bounds}
use Rattle.std.proofs.lemmas.Bool.{and_parts, not-true, both_ways, cases_order}
use Rattle.model.specs.Characters.{banned, none_banned}
use Rattle.model.specs.Datasets.{Dataset, IsDataset, lines, tops}
use Rattle.model.specs.Books.{Meaning}
use Rattle.model.specs.Files.{Placed, all_bytes, Lined, Passes}
use Rattle.model.specs.Rules.{Situation, situations, Keeps18, types_of, top_types}
use Rattle.model.specs.declared.Context.TheVariants.{Top}
use Rattle.model.specs.Refusals.{fault, First, BannedAt, Unlined, lines_of, others, byte_at, Breaks, BreaksBook, BreaksTop, BreaksNeeds, LineRule, levels, first, last, steps, named, continued, room, apart, aimed, line_rule_number, LineKeeps, LinesKeep, LineRefusal, BookRule, known, taken, aimed_right, single, needed, filled, book_rule_number, BookKeeps, TopKeeps, BookTells, BookRefusal, Refuses, too_long, malformed, forbidden, unlined, lined, booked, line_at}
use Rattle.model.specs.declared.Fault.{Fault}
use Rattle.model.proofs.Parts.{part_once}
use Rattle.model.proofs.Lining.{lined_once}
use Rattle.model.proofs.Entries.{same_lines_once}
use Rattle.model.proofs.Names.{every_right}
use Rattle.model.proofs.Ordering.{dataset_ordered}
use Rattle.model.proofs.Clearing.{clean_utf8}
use Rattle.model.proofs.Refusing.{valid_not_text, banned_there, banned_not_clean, unlined_front, front_once, unlined_not_lined, lines_keep}

pub first_once : (P : ℕ → Type 0) (m n i j : ℕ) → First P m i → First P n j → i ≡ j
first_once P m n i j a b = elim (cases_order i j) [
  | inl e ↦ e
  | inr (inl l) ↦ absurd (a.breaks (b.before i l))
  | inr (inr l) ↦ absurd (b.breaks (a.before j l))
]

-- Characters

valid_once : (bs : List ℕ) (a b : ℕ) → IsValidUpTo bs a → IsValidUpTo bs b → a ≡ b
valid_once bs a b v w = elim (cases_order a b) [
  | inl e ↦ e
  | inr (inl l) ↦ absurd (v.longest b l w.front)
  | inr (inr l) ↦ absurd (w.longest a l v.front)
]

all_free : (cs : List ℕ) → none_banned cs ≡ true → AllByRecursion (λ c. banned c ≡ false) cs
all_free [] h = tt
all_free (c ∷ cs) h = let p = and_parts (not (banned c)) (none_banned cs) h in (not-true (banned c) p.0, all_free cs p.1)

begins_inside : (file : List ℕ) (b : ℕ) → BannedAt file b → length (take b file) ≡ b
begins_inside file b x =
    let long : length file - b ≡ len_utf8 x.character + length x.begins.0 = sym (length-drop b file) ∙ ap length x.begins.1 ∙ length-append (encode x.character) x.begins.0 ∙ ap (λ n. n + length x.begins.0) (length-encode x.character) in
    let w = len_utf8_bounds x.character in
    omega (arith, length-take b file)

banned_once : (file : List ℕ) (a b : ℕ) → IsUtf8 file → BannedAt file a → BannedAt file b → a ≡ b
banned_once file a b u x y =
    let r = banned_there file a x u.0 u.1.1 in
    let s = banned_there file b y u.0 u.1.1 in
    let same = (part_once (λ c. banned c ≡ false) (λ c. banned c ≡ true) (λ c p q. both_ways (banned c) p q) x.before.characters y.before.characters (x.character ∷ r.0) (y.character ∷ s.0) (all_free x.before.characters x.before.allowed) (all_free y.before.characters y.before.allowed) x.is_banned y.is_banned (sym r.1 ∙ s.1)).0 in
    sym (begins_inside file a x) ∙ ap length (sym x.before.are) ∙ ap (λ cs. length (encodes cs)) same ∙ ap length y.before.are ∙ begins_inside file b y

-- Lines

line_rule_at : ℕ → LineRule
line_rule_at n = cond (eqb n 5) levels (cond (eqb n 6) first (cond (eqb n 7) last (cond (eqb n 8) steps (cond (eqb n 9) named (cond (eqb n 10) continued (cond (eqb n 11) room (cond (eqb n 12) apart aimed)))))))

line_rule_read : (r : LineRule) → line_rule_at (line_rule_number r) ≡ r
unfolding line_rule_at
line_rule_read levels = refl
line_rule_read first = refl
line_rule_read last = refl
line_rule_read steps = refl
line_rule_read named = refl
line_rule_read continued = refl
line_rule_read room = refl
line_rule_read apart = refl
line_rule_read aimed = refl

line_broken : (n : ℕ) (ps : List Placed) (f : Fault) (x : LineRefusal n ps f) → LinesKeep x.rule n ps → ⊥
line_broken n ps f x k = x.breaks.first.breaks (k x.breaks.place x.breaks.first.within)

line_rule_once : (n : ℕ) (ps : List Placed) (f g : Fault) (x : LineRefusal n ps f) (y : LineRefusal n ps g) → x.rule ≡ y.rule
line_rule_once n ps f g x y =
    let same : line_rule_number x.rule ≡ line_rule_number y.rule = elim (cases_order (line_rule_number x.rule) (line_rule_number y.rule)) [
      | inl e ↦ e
      | inr (inl l) ↦ absurd (line_broken n ps f x (y.earlier x.rule l))
      | inr (inr l) ↦ absurd (line_broken n ps g y (x.earlier y.rule l))
    ] in
    sym (line_rule_read x.rule) ∙ ap line_rule_at same ∙ line_rule_read y.rule

breaks_once : (n : ℕ) (ps : List Placed) (r s : LineRule) (f g : Fault) → r ≡ s → Breaks (line_rule_number r) ps (LineKeeps r n ps) f → Breaks (line_rule_number s) ps (LineKeeps s n ps) g → f ≡ g
breaks_once n ps r s f g e x y =
    let z : Breaks (line_rule_number s) ps (LineKeeps s n ps) f = subst (λ t. Breaks (line_rule_number t) ps (LineKeeps t n ps) f) e x in
    let place : z.place ≡ y.place = first_once (LineKeeps s n ps) (length ps) (length ps) z.place y.place z.first y.first in
    z.told ∙ ap (λ i. fault (line_rule_number s) (i + 1) (byte_at ps i)) place ∙ sym y.told

line_refusal_once : (n : ℕ) (ps : List Placed) (f g : Fault) → LineRefusal n ps f → LineRefusal n ps g → f ≡ g
line_refusal_once n ps f g x y = breaks_once n ps x.rule y.rule f g (line_rule_once n ps f g x y) x.breaks y.breaks

-- The book

book_rule_at : ℕ → BookRule
book_rule_at n = cond (eqb n 14) known (cond (eqb n 15) taken (cond (eqb n 16) aimed_right (cond (eqb n 17) single (cond (eqb n 18) needed filled))))

book_rule_read : (r : BookRule) → book_rule_at (book_rule_number r) ≡ r
unfolding book_rule_at
book_rule_read known = refl
book_rule_read taken = refl
book_rule_read aimed_right = refl
book_rule_read single = refl
book_rule_read needed = refl
book_rule_read filled = refl

one_kept : (number : ℕ) (ps : List Placed) (ss : List Situation) (Keeps : Situation → Type 0) (f : Fault) → BreaksBook number ps ss Keeps f → AllByRecursion Keeps ss → ⊥
one_kept number ps ss Keeps f b h = b.broken (every_right Keeps b.before (b.one ∷ b.after) (subst (AllByRecursion Keeps) b.are h)).0

needs_broken : (m : Meaning) (ps : List Placed) (ss : List Situation) (f : Fault) (b : BreaksNeeds m ps ss f) → Keeps18 m b.one → ⊥
needs_broken m ps ss f b h = b.first.breaks (h b.need)

tells_broken : (m : Meaning) (ps : List Placed) (d : Dataset) (r : BookRule) (f : Fault) → BookTells m ps d r f → TopKeeps m d r × AllByRecursion (BookKeeps m d r) (situations m d) → ⊥
tells_broken m ps d known f t k = one_kept 14 ps (situations m d) _ f t k.1
tells_broken m ps d taken f t k = one_kept 15 ps (situations m d) _ f t k.1
tells_broken m ps d aimed_right f t k = one_kept 16 ps (situations m d) _ f t k.1
tells_broken m ps d single f t k = one_kept 17 ps (situations m d) _ f t k.1
tells_broken m ps d needed f (inl t) k = t.first.breaks (k.0 t.need)
tells_broken m ps d needed f (inr t) k = needs_broken m ps (situations m d) f t.1 (every_right (Keeps18 m) t.1.before (t.1.one ∷ t.1.after) (subst (AllByRecursion (Keeps18 m)) t.1.are k.1)).0
tells_broken m ps d filled f t k = one_kept 19 ps (situations m d) _ f t k.1

breaks_book_once : (number : ℕ) (ps : List Placed) (ss : List Situation) (Keeps : Situation → Type 0) (f g : Fault) → BreaksBook number ps ss Keeps f → BreaksBook number ps ss Keeps g → f ≡ g
breaks_book_once number ps ss Keeps f g x y =
    let same = (part_once Keeps (λ s. Keeps s → ⊥) (λ s p q. q p) x.before y.before (x.one ∷ x.after) (y.one ∷ y.after) x.kept y.kept x.broken y.broken (sym x.are ∙ y.are)).0 in
    let card : x.card ≡ y.card = sym x.counted ∙ ap length same ∙ y.counted in
    x.told ∙ ap (λ k. fault number (get_or (others ps) k 0 + 1) (byte_at ps (get_or (others ps) k 0))) card ∙ sym y.told

top_once : (m : Meaning) (ps : List Placed) (d : Dataset) (f g : Fault) → BreaksTop m ps d f → BreaksTop m ps d g → f ≡ g
top_once m ps d f g x y =
    let need : x.need ≡ y.need = first_once (λ j. (t : ℕ) → m.need Top j ≡ Some t → Has (top_types m (tops d)) (Some t)) (m.needs Top) (m.needs Top) x.need y.need x.first y.first in
    let some : Some x.missing ≡ Some y.missing = sym x.is ∙ ap (m.need Top) need ∙ y.is in
    x.told ∙ ap (λ o. record { number = 18; line = 1; byte = byte_at ps 0; missing = o }) some ∙ sym y.told

abbrev Lacks : Meaning → Situation → ℕ → Type 0
Lacks m s j = (t : ℕ) → m.need s.inside j ≡ Some t → Has (types_of m s.inside s.subs) (Some t)

needs_once : (m : Meaning) (ps : List Placed) (ss : List Situation) (f g : Fault) → BreaksNeeds m ps ss f → BreaksNeeds m ps ss g → f ≡ g
needs_once m ps ss f g x y =
    let parts = part_once (Keeps18 m) (λ s. Keeps18 m s → ⊥) (λ s p q. q p) x.before y.before (x.one ∷ x.after) (y.one ∷ y.after) x.kept y.kept (needs_broken m ps ss f x) (needs_broken m ps ss g y) (sym x.are ∙ y.are) in
    let one : x.one ≡ y.one = head-eq_of_cons-eq parts.1 in
    let need : x.need ≡ y.need = first_once (Lacks m y.one) (m.needs y.one.inside) (m.needs y.one.inside) x.need y.need (subst (λ s. First (Lacks m s) (m.needs s.inside) x.need) one x.first) y.first in
    let some : Some x.missing ≡ Some y.missing = sym x.is ∙ ap₂ (λ (s : Situation) j. m.need s.inside j) one need ∙ y.is in
    let told : (k : ℕ) (o : Rattle.std.specs.declared.option.Option.Option ℕ) → Fault = λ k o. record { number = 18; line = get_or (others ps) k 0 + 1; byte = byte_at ps (get_or (others ps) k 0); missing = o } in
    x.told ∙ ap₂ told (ap length parts.0) some ∙ sym y.told

tells_once : (m : Meaning) (ps : List Placed) (d : Dataset) (r : BookRule) (f g : Fault) → BookTells m ps d r f → BookTells m ps d r g → f ≡ g
tells_once m ps d known f g x y = breaks_book_once 14 ps (situations m d) _ f g x y
tells_once m ps d taken f g x y = breaks_book_once 15 ps (situations m d) _ f g x y
tells_once m ps d aimed_right f g x y = breaks_book_once 16 ps (situations m d) _ f g x y
tells_once m ps d single f g x y = breaks_book_once 17 ps (situations m d) _ f g x y
tells_once m ps d needed f g (inl x) (inl y) = top_once m ps d f g x y
tells_once m ps d needed f g (inl x) (inr y) = absurd (x.first.breaks (y.0 x.need))
tells_once m ps d needed f g (inr x) (inl y) = absurd (y.first.breaks (x.0 y.need))
tells_once m ps d needed f g (inr x) (inr y) = needs_once m ps (situations m d) f g x.1 y.1
tells_once m ps d filled f g x y = breaks_book_once 19 ps (situations m d) _ f g x y

book_refusal_once : (m : Meaning) (ps : List Placed) (d : Dataset) (f g : Fault) → BookRefusal m ps d f → BookRefusal m ps d g → f ≡ g
book_refusal_once m ps d f g x y =
    let number : book_rule_number x.rule ≡ book_rule_number y.rule = elim (cases_order (book_rule_number x.rule) (book_rule_number y.rule)) [
      | inl e ↦ e
      | inr (inl l) ↦ absurd (tells_broken m ps d x.rule f x.tells (y.earlier x.rule l))
      | inr (inr l) ↦ absurd (tells_broken m ps d y.rule g y.tells (x.earlier y.rule l))
    ] in
    let rule : x.rule ≡ y.rule = sym (book_rule_read x.rule) ∙ ap book_rule_at number ∙ book_rule_read y.rule in
    tells_once m ps d y.rule f g (subst (λ r. BookTells m ps d r f) rule x.tells) y.tells

-- Refusals

module _ (m : Meaning) (file : List ℕ) (n : ℕ) where
  some_broken : (ps : List Placed) (f : Fault) → LineRefusal n ps f → 0 < length ps
  some_broken ps f x = let h = x.breaks.first.within in omega arith

  some_passed : (ps : List Placed) → Passes file ps → 0 < length ps
  some_passed ps p = let h = p.ordered.some in omega (arith, length-map ps (λ q. q.line))

  unlined_once : (ps qs : List Placed) (f g : Fault) (u : Unlined file ps) (v : Unlined file qs) → f ≡ fault 4 (length ps + 1) (length u.mark + length (all_bytes ps)) → g ≡ fault 4 (length qs + 1) (length v.mark + length (all_bytes qs)) → f ≡ g
  unlined_once ps qs f g u v a b =
      let t = front_once file ps qs u.rest v.rest (unlined_front file ps u) (unlined_front file qs v) in
      let marks : u.mark ≡ v.mark = t.2 in
      a ∙ ap₂ (λ rs k. fault 4 (length rs + 1) (length k + length (all_bytes rs))) t.0 marks ∙ sym b

  lines_kept : (ps qs : List Placed) (d : Dataset) (f : Fault) → Lined file ps → LineRefusal n ps f → Passes file qs → IsDataset d → lines_of qs ≡ lines d → length (others qs) ≤ min n 65535 → ⊥
  lines_kept ps qs d f l x p is are few =
      let same = lined_once file ps qs l p.lined in
      let o = dataset_ordered d is in
      line_broken n qs f (subst (λ rs. LineRefusal n rs f) same x) (lines_keep n qs (subst (λ ls. Rattle.model.specs.Files.Ordered ls × Rattle.model.specs.Files.Throughout Rattle.model.specs.Refusals.Keeps12 ls × Rattle.model.specs.Files.Throughout Rattle.model.specs.Refusals.Keeps13 ls) (sym are) o) few (subst (λ rs. LineRefusal n rs f) same x).rule)

  pub refuses_once : (f g : Fault) → Refuses m file n f → Refuses m file n g → f ≡ g
  refuses_once f g (too_long h a) (too_long k b) = a ∙ sym b
  refuses_once f g (too_long h a) (malformed b s v e) = absurd (omega arith)
  refuses_once f g (too_long h a) (forbidden b s u x e) = absurd (omega arith)
  refuses_once f g (too_long h a) (unlined ps s c u e) = absurd (omega arith)
  refuses_once f g (too_long h a) (lined ps s c l x) = absurd (omega arith)
  refuses_once f g (too_long h a) (booked ps d p is are few x) = absurd (let s = p.short in omega arith)
  refuses_once f g (malformed b s v e) (too_long k a) = absurd (omega arith)
  refuses_once f g (malformed b s v e) (malformed c t w a) = e ∙ ap (λ i. fault 2 (line_at file i) i) (valid_once file b c v w) ∙ sym a
  refuses_once f g (malformed b s v e) (forbidden c t u x a) = absurd (valid_not_text file b v u)
  refuses_once f g (malformed b s v e) (unlined ps t c u a) = absurd (valid_not_text file b v (clean_utf8 file c))
  refuses_once f g (malformed b s v e) (lined ps t c l x) = absurd (valid_not_text file b v (clean_utf8 file c))
  refuses_once f g (malformed b s v e) (booked ps d p is are few x) = absurd (valid_not_text file b v (clean_utf8 file p.clean))
  refuses_once f g (forbidden b s u x e) (too_long k a) = absurd (omega arith)
  refuses_once f g (forbidden b s u x e) (malformed c t v a) = absurd (valid_not_text file c v u)
  refuses_once f g (forbidden b s u x e) (forbidden c t w y a) = e ∙ ap (λ i. fault 3 (line_at file i) i) (banned_once file b c u x y) ∙ sym a
  refuses_once f g (forbidden b s u x e) (unlined ps t c v a) = absurd (banned_not_clean file b x c)
  refuses_once f g (forbidden b s u x e) (lined ps t c l y) = absurd (banned_not_clean file b x c)
  refuses_once f g (forbidden b s u x e) (booked ps d p is are few y) = absurd (banned_not_clean file b x p.clean)
  refuses_once f g (unlined ps s c u e) (too_long k a) = absurd (omega arith)
  refuses_once f g (unlined ps s c u e) (malformed b t v a) = absurd (valid_not_text file b v (clean_utf8 file c))
  refuses_once f g (unlined ps s c u e) (forbidden b t v x a) = absurd (banned_not_clean file b x c)
  refuses_once f g (unlined ps s c u e) (unlined qs t k v a) = unlined_once ps qs f g u v e a
  refuses_once f g (unlined ps s c u e) (lined qs t k l x) = absurd (unlined_not_lined file ps qs u l (some_broken qs g x))
  refuses_once f g (unlined ps s c u e) (booked qs d p is are few x) = absurd (unlined_not_lined file ps qs u p.lined (some_passed qs p))
  refuses_once f g (lined ps s c l x) (too_long k a) = absurd (omega arith)
  refuses_once f g (lined ps s c l x) (malformed b t v a) = absurd (valid_not_text file b v (clean_utf8 file c))
  refuses_once f g (lined ps s c l x) (forbidden b t u y a) = absurd (banned_not_clean file b y c)
  refuses_once f g (lined ps s c l x) (unlined qs t k u a) = absurd (unlined_not_lined file qs ps u l (some_broken ps f x))
  refuses_once f g (lined ps s c l x) (lined qs t k o y) = line_refusal_once n qs f g (subst (λ rs. LineRefusal n rs f) (lined_once file ps qs l o) x) y
  refuses_once f g (lined ps s c l x) (booked qs d p is are few y) = absurd (lines_kept ps qs d f l x p is are few)
  refuses_once f g (booked ps d p is are few x) (too_long k a) = absurd (let s = p.short in omega arith)
  refuses_once f g (booked ps d p is are few x) (malformed b t v a) = absurd (valid_not_text file b v (clean_utf8 file p.clean))
  refuses_once f g (booked ps d p is are few x) (forbidden b t u y a) = absurd (banned_not_clean file b y p.clean)
  refuses_once f g (booked ps d p is are few x) (unlined qs t k u a) = absurd (unlined_not_lined file qs ps u p.lined (some_passed ps p))
  refuses_once f g (booked ps d p is are few x) (lined qs t k l y) = absurd (lines_kept qs ps d g l y p is are few)
  refuses_once f g (booked ps d p is are few x) (booked qs e q it too low y) =
      let same = lined_once file ps qs p.lined q.lined in
      let there : d ≡ e = same_lines_once d e is it (sym are ∙ ap lines_of same ∙ too) in
      book_refusal_once m qs e f g (subst₂ (λ rs c. BookRefusal m rs c f) same there x) y
