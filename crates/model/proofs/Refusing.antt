-- A file that the list of refusals names reads as no dataset. Assumes nothing.
use Rattle.std.proofs.Common.{◌≡◌, ℕ, ◌+◌, ◌<◌, ◌≤◌, min, true, not, ◌⊎◌, List, [], ◌∷◌, ◌++◌, length, IsUtf8, sym, refl, ap, ◌∙◌, subst, ap₂, inl, inr, append_assoc, append-nil, arith, take-append-drop}
use mathlib.Core.List.{append_cancel_left, head-eq_of_cons-eq, tail-eq_of_cons-eq}
use lib.ListN.{length-map}
use lib.Utf8.{encode, encodes}
use Rattle.std.specs.Str.{IsValidUpTo}
use Rattle.std.specs.List.{AllByRecursion}
use Rattle.std.proofs.lemmas.List.{take_all}
use Rattle.std.proofs.lemmas.Str.{cons_from_encodes}
use Rattle.std.proofs.lemmas.Bool.{and_parts, both_ways, not-true}
use Rattle.model.specs.Characters.{Clean, banned, none_banned}
use Rattle.model.specs.Lines.{Line, spell}
use Rattle.model.specs.Datasets.{Dataset, MARK, lines}
use Rattle.model.specs.Books.{Meaning}
use Rattle.model.specs.Files.{LineEnd, Placed, GoodPlaced, bytes_of, all_bytes, InPlace, Lined, Throughout, Ordered}
use Rattle.model.specs.Rules.{Situation, situations, Belongs}
use Rattle.model.specs.Refusals.{BannedAt, Starts, NoLine, EndsWhole, Unlined, lines_of, others, Keeps12, Keeps13, BreaksBook, LineRule, levels, first, last, steps, named, continued, room, apart, aimed, LineKeeps, BookRule, known, taken, aimed_right, single, needed, filled, BookTells, Refuses, too_long, malformed, forbidden, unlined, lined, booked}
use Rattle.model.specs.declared.Fault.{Fault}
use Rattle.model.specs.Runs.{ReadsAs}
use Rattle.model.proofs.Parts.{Begins, clash}
use Rattle.model.proofs.Names.{every_right}
use Rattle.model.proofs.Spelling.{spell_once_before}
use Rattle.model.proofs.Lining.{Low, lines_start_low, end_starts, not_line, lined_once}
use Rattle.model.proofs.Entries.{same_lines_once}
use Rattle.model.proofs.Ordering.{dataset_ordered}
use Rattle.model.proofs.Clearing.{lined_clean, clean_utf8}
use Rattle.model.proofs.Reading.{others_count}

-- Characters

pub valid_not_text : (bs : List ℕ) (n : ℕ) → IsValidUpTo bs n → IsUtf8 bs → ⊥
valid_not_text bs n v u = v.longest (length bs) v.short (subst IsUtf8 (sym (take_all (length bs) bs (omega arith))) u)

pub cut_characters : (ds cs : List ℕ) (c : ℕ) (rest : List ℕ) → encodes cs ≡ encodes ds ++ (encode c ++ rest) → (es : List ℕ) × (cs ≡ ds ++ c ∷ es)
cut_characters [] cs c rest e = let r = cons_from_encodes cs rest c e in (r.0, r.1)
cut_characters (d ∷ ds) cs c rest e =
    let r = cons_from_encodes cs (encodes ds ++ (encode c ++ rest)) d (e ∙ append_assoc (encode d) (encodes ds) (encode c ++ rest)) in
    let s = cut_characters ds r.0 c rest r.2 in
    (s.0, r.1 ∙ ap (λ l. d ∷ l) s.1)

pub banned_not_allowed : (ds : List ℕ) (c : ℕ) (es : List ℕ) → banned c ≡ true → none_banned (ds ++ c ∷ es) ≡ true → ⊥
banned_not_allowed [] c es b h = both_ways (banned c) (not-true (banned c) (and_parts (not (banned c)) (none_banned es) h).0) b
banned_not_allowed (d ∷ ds) c es b h = banned_not_allowed ds c es b (and_parts (not (banned d)) (none_banned (ds ++ c ∷ es)) h).1

-- the characters of a file with a banned one
pub banned_there : (file : List ℕ) (b : ℕ) (x : BannedAt file b) (cs : List ℕ) → encodes cs ≡ file → (es : List ℕ) × (cs ≡ x.before.characters ++ x.character ∷ es)
banned_there file b x cs e =
    cut_characters x.before.characters cs x.character x.begins.0 (e ∙ sym (take-append-drop b file) ∙ ap₂ (λ p q. p ++ q) (sym x.before.are) x.begins.1)

pub banned_not_clean : (file : List ℕ) (b : ℕ) → BannedAt file b → Clean file → ⊥
banned_not_clean file b x c =
    let r = banned_there file b x c.characters c.are in
    banned_not_allowed x.before.characters x.character r.0 x.is_banned (subst (λ cs. none_banned cs ≡ true) r.1 c.allowed)

-- The longest front of lines

-- the lines ps from the front, and a rest that begins with none
pub record Front (file : List ℕ) (ps : List Placed) (rest : List ℕ) : Type 0 where
  pub mark : List ℕ
  pub marked : (mark ≡ MARK) ⊎ ((mark ≡ []) × (Starts file MARK → ⊥))
  pub are : file ≡ mark ++ (all_bytes ps ++ rest)
  pub good : AllByRecursion GoodPlaced ps
  pub placed : InPlace (length mark) ps
  pub whole : EndsWhole file ps rest
  pub ends : NoLine rest

abbrev pub unlined_front : (file : List ℕ) (ps : List Placed) (u : Unlined file ps) → Front file ps u.rest
unlined_front file ps u = record { mark = u.mark; marked = u.marked; are = u.are ∙ append_assoc u.mark (all_bytes ps) u.rest; good = u.good; placed = u.placed; whole = u.whole; ends = u.ends }

low_not : (c : ℕ) (xs more : List ℕ) → (Low c → ⊥) → Begins Low xs → xs ≡ c ∷ more → ⊥
low_not c xs more h b e = clash (λ x. x ≡ c) Low (λ x p q. h (subst Low p q)) c more xs refl b e

lined_whole : (file : List ℕ) (ps : List Placed) → EndsWhole file ps []
lined_whole file [] = tt
lined_whole file (p ∷ ps) = (λ e s. low_not 10 (all_bytes ps) s.0 (λ l. omega arith) (lines_start_low ps) (sym (append-nil (all_bytes ps)) ∙ s.1), lined_whole file ps)

no_line_left : NoLine []
no_line_left = record { none = λ p g s. not_line p s.0 s.1 }

unmarked : (file : List ℕ) (ps : List Placed) → file ≡ all_bytes ps → Starts file MARK → ⊥
unmarked file ps e s = low_not 0xEF (all_bytes ps) (0xBB ∷ 0xBF ∷ s.0) (λ l. omega arith) (lines_start_low ps) (sym e ∙ s.1)

pub lined_front : (file : List ℕ) (ps : List Placed) → Lined file ps → Front file ps []
lined_front file ps l = record {
  mark = l.mark;
  marked = elim l.marked [ inl e ↦ inr (e, unmarked file ps (l.are ∙ ap (λ m. m ++ all_bytes ps) e)) | inr e ↦ inl e ];
  are = l.are ∙ ap (λ bs. l.mark ++ bs) (sym (append-nil (all_bytes ps)));
  good = l.good;
  placed = l.placed;
  whole = lined_whole file ps;
  ends = no_line_left;
}

abbrev CutEnd : List ℕ → List ℕ → Type 0
CutEnd e x = e ≡ 13 ∷ [] → Starts x (10 ∷ []) → ⊥

end_clash : (a b : ℕ) (x y : List ℕ) → (a ≡ b → ⊥) → a ∷ x ≡ b ∷ y → ⊥
end_clash a b x y h e = h (head-eq_of_cons-eq e)

ended_once : (e f x y : List ℕ) → LineEnd e → LineEnd f → CutEnd e x → CutEnd f y → e ++ x ≡ f ++ y → (e ≡ f) × (x ≡ y)
ended_once e f x y (inl a) (inl b) c d h = (a ∙ sym b, tail-eq_of_cons-eq (tail-eq_of_cons-eq (ap (λ l. l ++ x) (sym a) ∙ h ∙ ap (λ l. l ++ y) b)))
ended_once e f x y (inl a) (inr (inl b)) c d h = absurd (d b (x, sym (tail-eq_of_cons-eq (ap (λ l. l ++ x) (sym a) ∙ h ∙ ap (λ l. l ++ y) b))))
ended_once e f x y (inl a) (inr (inr b)) c d h = absurd (end_clash 13 10 (10 ∷ x) y (λ z. omega arith) (ap (λ l. l ++ x) (sym a) ∙ h ∙ ap (λ l. l ++ y) b))
ended_once e f x y (inr (inl a)) (inl b) c d h = absurd (c a (y, tail-eq_of_cons-eq (ap (λ l. l ++ x) (sym a) ∙ h ∙ ap (λ l. l ++ y) b)))
ended_once e f x y (inr (inl a)) (inr (inl b)) c d h = (a ∙ sym b, tail-eq_of_cons-eq (ap (λ l. l ++ x) (sym a) ∙ h ∙ ap (λ l. l ++ y) b))
ended_once e f x y (inr (inl a)) (inr (inr b)) c d h = absurd (end_clash 13 10 x y (λ z. omega arith) (ap (λ l. l ++ x) (sym a) ∙ h ∙ ap (λ l. l ++ y) b))
ended_once e f x y (inr (inr a)) (inl b) c d h = absurd (end_clash 10 13 x (10 ∷ y) (λ z. omega arith) (ap (λ l. l ++ x) (sym a) ∙ h ∙ ap (λ l. l ++ y) b))
ended_once e f x y (inr (inr a)) (inr (inl b)) c d h = absurd (end_clash 10 13 x y (λ z. omega arith) (ap (λ l. l ++ x) (sym a) ∙ h ∙ ap (λ l. l ++ y) b))
ended_once e f x y (inr (inr a)) (inr (inr b)) c d h = (a ∙ sym b, tail-eq_of_cons-eq (ap (λ l. l ++ x) (sym a) ∙ h ∙ ap (λ l. l ++ y) b))

line_then : (p : Placed) (ps : List Placed) (r : List ℕ) → all_bytes (p ∷ ps) ++ r ≡ spell p.line ++ (p.ended ++ (all_bytes ps ++ r))
line_then p ps r = append_assoc (bytes_of p) (all_bytes ps) r ∙ append_assoc (spell p.line) p.ended (all_bytes ps ++ r)

run_once : (file : List ℕ) (ps qs : List Placed) (r s : List ℕ) (at : ℕ) → AllByRecursion GoodPlaced ps → AllByRecursion GoodPlaced qs → EndsWhole file ps r → EndsWhole file qs s → NoLine r → NoLine s → InPlace at ps → InPlace at qs → all_bytes ps ++ r ≡ all_bytes qs ++ s → (ps ≡ qs) × (r ≡ s)
run_once file [] [] r s at g h w x m n a b e = (refl, e)
run_once file [] (q ∷ qs) r s at g h w x m n a b e = absurd (m.none q h.0 (all_bytes qs ++ s, e ∙ append_assoc (bytes_of q) (all_bytes qs) s))
run_once file (p ∷ ps) [] r s at g h w x m n a b e = absurd (n.none p g.0 (all_bytes ps ++ r, sym e ∙ append_assoc (bytes_of p) (all_bytes ps) r))
run_once file (p ∷ ps) (q ∷ qs) r s at g h w x m n a b e =
    let one = spell_once_before p.line q.line (p.ended ++ (all_bytes ps ++ r)) (q.ended ++ (all_bytes qs ++ s)) g.0.good h.0.good (end_starts p.ended (all_bytes ps ++ r) g.0.ends) (end_starts q.ended (all_bytes qs ++ s) h.0.ends) (sym (line_then p ps r) ∙ e ∙ line_then q qs s) in
    let two = ended_once p.ended q.ended (all_bytes ps ++ r) (all_bytes qs ++ s) g.0.ends h.0.ends w.0 x.0 one.1 in
    let byte = a.0 ∙ sym b.0 in
    let same : p ≡ q = λ i. record { byte = byte i; line = one.0 i; ended = two.0 i } in
    let rest = run_once file ps qs r s (at + length (bytes_of p)) g.1 h.1 w.1 x.1 m n a.1 (subst (λ t. InPlace (at + length (bytes_of t)) qs) (sym same) b.1) two.1 in
    (λ i. same i ∷ rest.0 i, rest.1)

abbrev Marked : List ℕ → List ℕ → Type 0
Marked file m = (m ≡ MARK) ⊎ ((m ≡ []) × (Starts file MARK → ⊥))

marks_once : (file m n x y : List ℕ) → Marked file m → Marked file n → file ≡ m ++ x → file ≡ n ++ y → m ≡ n
marks_once file m n x y (inl a) (inl b) e f = a ∙ sym b
marks_once file m n x y (inl a) (inr b) e f = absurd (b.1 (x, e ∙ ap (λ l. l ++ x) a))
marks_once file m n x y (inr a) (inl b) e f = absurd (a.1 (y, f ∙ ap (λ l. l ++ y) b))
marks_once file m n x y (inr a) (inr b) e f = a.0 ∙ sym b.0

-- a file has one longest front of lines
pub front_once : (file : List ℕ) (ps qs : List Placed) (r s : List ℕ) (a : Front file ps r) (b : Front file qs s) → (ps ≡ qs) × (r ≡ s) × (a.mark ≡ b.mark)
front_once file ps qs r s a b =
    let mark = marks_once file a.mark b.mark (all_bytes ps ++ r) (all_bytes qs ++ s) a.marked b.marked a.are b.are in
    let same = append_cancel_left a.mark (all_bytes ps ++ r) (all_bytes qs ++ s) (sym a.are ∙ b.are ∙ ap (λ m. m ++ (all_bytes qs ++ s)) (sym mark)) in
    let t = run_once file ps qs r s (length a.mark) a.good b.good a.whole b.whole a.ends b.ends a.placed (subst (λ m. InPlace (length m) qs) (sym mark) b.placed) same in
    (t.0, t.1, mark)

pub unlined_not_lined : (file : List ℕ) (ps qs : List Placed) → Unlined file ps → Lined file qs → 0 < length qs → ⊥
unlined_not_lined file ps qs u l some =
    let t = front_once file ps qs u.rest [] (unlined_front file ps u) (lined_front file qs l) in
    elim u.wrong [
      | inl h ↦ omega (arith, ap length t.1)
      | inr h ↦ omega (arith, ap length t.0)
    ]

-- The rules of the lines

abbrev AllKept : List Line → Type 0
AllKept ls = Ordered ls × Throughout Keeps12 ls × Throughout Keeps13 ls

pub lines_keep : (cards : ℕ) (ps : List Placed) → AllKept (lines_of ps) → length (others ps) ≤ min cards 65535 → (r : LineRule) (i : ℕ) → i < length ps → LineKeeps r cards ps i
lines_keep cards ps k few levels i h = k.0.levels i (omega (arith, length-map ps (λ p. p.line)))
lines_keep cards ps k few first i h = k.0.first i (omega (arith, length-map ps (λ p. p.line)))
lines_keep cards ps k few last i h = k.0.last i (omega (arith, length-map ps (λ p. p.line)))
lines_keep cards ps k few steps i h = k.0.steps i (omega (arith, length-map ps (λ p. p.line)))
lines_keep cards ps k few named i h = k.0.named i (omega (arith, length-map ps (λ p. p.line)))
lines_keep cards ps k few continued i h = k.0.continued i (omega (arith, length-map ps (λ p. p.line)))
lines_keep cards ps k few room i h = λ j below there. omega arith
lines_keep cards ps k few apart i h = k.1 i (omega (arith, length-map ps (λ p. p.line)))
lines_keep cards ps k few aimed i h = k.2 i (omega (arith, length-map ps (λ p. p.line)))

-- The rules of the book

book_kept : (number : ℕ) (ps : List Placed) (ss : List Situation) (Keeps : Situation → Type 0) (f : Fault) → AllByRecursion Keeps ss → BreaksBook number ps ss Keeps f → ⊥
book_kept number ps ss Keeps f h b = b.broken (every_right Keeps b.before (b.one ∷ b.after) (subst (AllByRecursion Keeps) b.are h)).0

pub book_keeps : (m : Meaning) (ps : List Placed) (d : Dataset) (r : BookRule) (f : Fault) → Belongs m d → BookTells m ps d r f → ⊥
book_keeps m ps d known f h t = book_kept 14 ps (situations m d) _ f h.known t
book_keeps m ps d taken f h t = book_kept 15 ps (situations m d) _ f h.taken t
book_keeps m ps d aimed_right f h t = book_kept 16 ps (situations m d) _ f h.aimed t
book_keeps m ps d single f h t = book_kept 17 ps (situations m d) _ f h.single t
book_keeps m ps d needed f h (inl t) = t.first.breaks (h.top_complete t.need)
book_keeps m ps d needed f h (inr t) = t.1.first.breaks ((every_right _ t.1.before (t.1.one ∷ t.1.after) (subst (AllByRecursion (Rattle.model.specs.Rules.Keeps18 m)) t.1.are h.complete)).0 t.1.need)
book_keeps m ps d filled f h t = book_kept 19 ps (situations m d) _ f h.filled t

-- Readings

pub refuses_none : (m : Meaning) (file : List ℕ) (n : ℕ) (f : Fault) → Refuses m file n f → (d : Dataset) → ReadsAs m file n d → ⊥
refuses_none m file n f (too_long h e) d r = let s = r.within.short in omega arith
refuses_none m file n f (malformed b s v e) d r = valid_not_text file b v (clean_utf8 file (lined_clean file r.has_lines.0 r.has_lines.1))
refuses_none m file n f (forbidden b s u x e) d r = banned_not_clean file b x (lined_clean file r.has_lines.0 r.has_lines.1)
refuses_none m file n f (unlined ps s c u e) d r =
    let some : 0 < length r.has_lines.0 = let p : 0 < length (lines_of r.has_lines.0) = subst (λ ls. 0 < length ls) (sym r.has_lines.2) (dataset_ordered d r.is).0.some in omega (arith, length-map r.has_lines.0 (λ p. p.line)) in
    unlined_not_lined file ps r.has_lines.0 u r.has_lines.1 some
refuses_none m file n f (lined ps s c l x) d r =
    let same = lined_once file ps r.has_lines.0 l r.has_lines.1 in
    let are : lines_of ps ≡ lines d = ap lines_of same ∙ r.has_lines.2 in
    let kept : AllKept (lines_of ps) = subst AllKept (sym are) (dataset_ordered d r.is) in
    let few = r.within.few in
    x.breaks.first.breaks (lines_keep n ps kept (omega (arith, others_count ps d r.is are)) x.rule x.breaks.place x.breaks.first.within)
refuses_none m file n f (booked ps e p is are few x) d r =
    let same = lined_once file ps r.has_lines.0 p.lined r.has_lines.1 in
    let there : e ≡ d = same_lines_once e d is r.is (sym are ∙ ap lines_of same ∙ r.has_lines.2) in
    book_keeps m ps e x.rule f (subst (Belongs m) (sym there) r.belongs) x.tells
