-- The number of a line by the line ends before its byte. Assumes nothing.
use Rattle.std.proofs.Common.{◌≡◌, ℕ, zero, suc, ◌+◌, ◌<◌, Bool, true, false, cond, not, ◌&&◌, ◌||◌, eqb, List, [], ◌∷◌, ◌++◌, length, get_or, drop, sym, refl, ap, ◌∙◌, subst, inl, inr, append_assoc, arith, length-append}
use Rattle.std.specs.List.{AllByRecursion}
use Rattle.std.proofs.lemmas.List.{get_or-append-add, length_push}
use Rattle.std.proofs.lemmas.Bool.{ne_eqb}
use Rattle.std.proofs.lemmas.Bool.Decides.{nat_tests}
use Rattle.model.specs.Datasets.{MARK}
use Rattle.model.specs.Lines.{spell}
use Rattle.model.specs.Scan.{in_line}
use Rattle.model.specs.Files.{LineEnd, Placed, GoodPlaced, bytes_of, all_bytes, InPlace, Lined}
use Rattle.model.specs.Refusals.{Starts, EndsWhole, is_end_at, ends_before, line_at, byte_at}
use Rattle.model.specs.LineTurns.{Marked, Scanned}
use Rattle.model.proofs.Bytes.{ends_more}
use Rattle.model.proofs.Cutting.{spell_line, no_end_passes}
use Rattle.model.proofs.Refusing.{lined_front}

abbrev InLine : ℕ → Type 0
InLine c = in_line c ≡ true

getD_here : (pre : List ℕ) (c : ℕ) (rest : List ℕ) → get_or (pre ++ c ∷ rest) (length pre) 0 ≡ c
getD_here pre c rest = ap (λ n. get_or (pre ++ c ∷ rest) n 0) (let z : length pre ≡ length pre + 0 = omega arith in z) ∙ get_or-append-add pre (c ∷ rest) 0 0

in_line_no_end : (c d : ℕ) → in_line c ≡ true → (eqb c 10 || (eqb c 13 && not (eqb d 10))) ≡ false
in_line_no_end c d h = grind (arith, nat_tests)

ends_same : (file pre xs rest : List ℕ) → file ≡ pre ++ (xs ++ rest) → AllByRecursion InLine xs → ends_before file (length pre + length xs) ≡ ends_before file (length pre)
ends_same file pre [] rest e h = ap (ends_before file) (let z : length pre + 0 ≡ length pre = omega arith in z)
ends_same file pre (x ∷ xs) rest e h =
    let here : get_or file (length pre) 0 ≡ x = ap (λ f. get_or f (length pre) 0) e ∙ getD_here pre x (xs ++ rest) in
    let none : is_end_at file (length pre) ≡ false = subst (λ c. (eqb c 10 || (eqb c 13 && not (eqb (get_or file (length pre + 1) 0) 10))) ≡ false) (sym here) (in_line_no_end x (get_or file (length pre + 1) 0) h.0) in
    let one : ends_before file (length pre + 1) ≡ ends_before file (length pre) = ends_more file (length pre) ∙ ap (λ b. ends_before file (length pre) + cond b 1 0) none ∙ (let z : ends_before file (length pre) + 0 ≡ ends_before file (length pre) = omega arith in z) in
    let long = length_push pre x in
    let to : length pre + length (x ∷ xs) ≡ length (pre ++ x ∷ []) + length xs = omega arith in
    ap (ends_before file) to ∙ ends_same file (pre ++ x ∷ []) xs rest (e ∙ sym (append_assoc pre (x ∷ []) (xs ++ rest))) h.1 ∙ ap (ends_before file) long ∙ one

-- one byte, with what follows it
ends_one : (file pre : List ℕ) (c : ℕ) (rest : List ℕ) (b : Bool) → file ≡ pre ++ c ∷ rest → (eqb c 10 || (eqb c 13 && not (eqb (get_or rest 0 0) 10))) ≡ b → ends_before file (length pre + 1) ≡ ends_before file (length pre) + cond b 1 0
ends_one file pre c rest b e t =
    let here : get_or file (length pre) 0 ≡ c = ap (λ f. get_or f (length pre) 0) e ∙ getD_here pre c rest in
    let next : get_or file (length pre + 1) 0 ≡ get_or rest 0 0 = ap (λ f. get_or f (length pre + 1) 0) e ∙ get_or-append-add pre (c ∷ rest) 1 0 in
    let is : is_end_at file (length pre) ≡ b = (λ i. eqb (here i) 10 || (eqb (here i) 13 && not (eqb (next i) 10))) ∙ t in
    ends_more file (length pre) ∙ ap (λ b. ends_before file (length pre) + cond b 1 0) is

starts_lf : (rest : List ℕ) → get_or rest 0 0 ≡ 10 → Starts rest (10 ∷ [])
starts_lf [] e = absurd (let z : ◌≡◌ {A = ℕ} 0 10 = e in omega arith)
starts_lf (c ∷ rest) e = (rest, λ i. e i ∷ rest)

end_counted : (file pre ended rest : List ℕ) → file ≡ pre ++ (ended ++ rest) → LineEnd ended → (ended ≡ 13 ∷ [] → Starts rest (10 ∷ []) → ⊥) → ends_before file (length pre + length ended) ≡ ends_before file (length pre) + 1
end_counted file pre ended rest e (inl q) c =
    let two : file ≡ pre ++ 13 ∷ 10 ∷ rest = e ∙ ap (λ x. pre ++ (x ++ rest)) q in
    let long = length_push pre 13 in
    let first = ends_one file pre 13 (10 ∷ rest) false two refl in
    let second = ends_one file (pre ++ 13 ∷ []) 10 rest true (two ∙ sym (append_assoc pre (13 ∷ []) (10 ∷ rest))) refl in
    let to : length pre + length ended ≡ length (pre ++ 13 ∷ []) + 1 = omega (arith, ap length q) in
    let on : ends_before file (length (pre ++ 13 ∷ [])) ≡ ends_before file (length pre + 1) = ap (ends_before file) long in
    ap (ends_before file) to ∙ second ∙ omega arith
end_counted file pre ended rest e (inr (inl q)) c =
    let one : file ≡ pre ++ 13 ∷ rest = e ∙ ap (λ x. pre ++ (x ++ rest)) q in
    let lone : eqb (get_or rest 0 0) 10 ≡ false = ne_eqb (get_or rest 0 0) 10 (λ z. c q (starts_lf rest z)) in
    ap (λ n. ends_before file (length pre + n)) (ap length q) ∙ ends_one file pre 13 rest true one (ap not lone)
end_counted file pre ended rest e (inr (inr q)) c =
    ap (λ n. ends_before file (length pre + n)) (ap length q) ∙ ends_one file pre 10 rest true (e ∙ ap (λ x. pre ++ (x ++ rest)) q) refl

line_counted : (file pre : List ℕ) (p : Placed) (rest : List ℕ) → file ≡ pre ++ (bytes_of p ++ rest) → GoodPlaced p → (p.ended ≡ 13 ∷ [] → Starts rest (10 ∷ []) → ⊥) → ends_before file (length (pre ++ bytes_of p)) ≡ ends_before file (length pre) + 1
line_counted file pre p rest e g c =
    let s : file ≡ pre ++ (spell p.line ++ (p.ended ++ rest)) = e ∙ ap (λ x. pre ++ x) (append_assoc (spell p.line) p.ended rest) in
    let text = ends_same file pre (spell p.line) (p.ended ++ rest) s (no_end_passes (spell p.line) (spell_line p.line g.good).one) in
    let end = end_counted file (pre ++ spell p.line) p.ended rest (s ∙ sym (append_assoc pre (spell p.line) (p.ended ++ rest))) g.ends c in
    let to : length (pre ++ bytes_of p) ≡ length (pre ++ spell p.line) + length p.ended = simp length-append (omega arith) in
    let on : ends_before file (length (pre ++ spell p.line)) ≡ ends_before file (length pre + length (spell p.line)) = ap (ends_before file) (length-append pre (spell p.line)) in
    ap (ends_before file) to ∙ end ∙ ap (λ n. n + 1) (on ∙ text)

numbered : (file pre : List ℕ) (ps : List Placed) (rest : List ℕ) (n : ℕ) → file ≡ pre ++ (all_bytes ps ++ rest) → AllByRecursion GoodPlaced ps → EndsWhole file ps rest → InPlace (length pre) ps → ends_before file (length pre) ≡ n → (k : ℕ) → k < length ps → ends_before file (byte_at ps k) ≡ n + k
numbered file pre [] rest n e g w i c k h = absurd (omega arith)
numbered file pre (p ∷ ps) rest n e g w i c zero h = ap (ends_before file) i.0 ∙ c ∙ omega arith
numbered file pre (p ∷ ps) rest n e g w i c (suc k) h =
    let s : file ≡ pre ++ (bytes_of p ++ (all_bytes ps ++ rest)) = e ∙ ap (λ x. pre ++ x) (append_assoc (bytes_of p) (all_bytes ps) rest) in
    let one = line_counted file pre p (all_bytes ps ++ rest) s g.0 w.0 in
    numbered file (pre ++ bytes_of p) ps rest (n + 1) (s ∙ sym (append_assoc pre (bytes_of p) (all_bytes ps ++ rest))) g.1 w.1 (subst (λ m. InPlace m ps) (sym (length-append pre (bytes_of p))) i.1) (one ∙ ap (λ m. m + 1) c) k (omega arith) ∙ omega arith

mark_ends : (file mark rest : List ℕ) → Marked file mark → file ≡ mark ++ rest → ends_before file (length mark) ≡ 0
mark_ends file mark rest (inl q) e = ap (λ m. ends_before file (length m)) q ∙ ends_same file [] MARK rest (e ∙ ap (λ m. m ++ rest) q) (refl, (refl, (refl, tt)))
mark_ends file mark rest (inr q) e = ap (λ m. ends_before file (length m)) q.0

-- a line's number is one more than the line ends before it
pub line_number : (file : List ℕ) (ps : List Placed) (i : ℕ) → Scanned file ps i → (k : ℕ) → k < length ps → line_at file (byte_at ps k) ≡ k + 1
line_number file ps i s k h =
    let z = numbered file s.mark ps (drop i file) 0 s.are s.good s.whole s.placed (mark_ends file s.mark (all_bytes ps ++ drop i file) s.marked s.are) k h in
    omega arith

pub lined_number : (file : List ℕ) (ps : List Placed) → Lined file ps → (k : ℕ) → k < length ps → line_at file (byte_at ps k) ≡ k + 1
lined_number file ps l k h =
    let s = lined_front file ps l in
    let z = numbered file s.mark ps [] 0 s.are s.good s.whole s.placed (mark_ends file s.mark (all_bytes ps ++ []) s.marked s.are) k h in
    omega arith
