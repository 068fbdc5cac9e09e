-- A file has the lines of one dataset, and a drawer holds one dataset of it. Assumes nothing.
use Rattle.std.proofs.Common.{◌≡◌, ℕ, ◌+◌, ◌<◌, ◌≤◌, List, [], ◌∷◌, ◌++◌, map, length, sym, refl, ap, ◌∙◌, subst, append_assoc, append-nil, arith}
use mathlib.Core.List.{map-append, head-eq_of_cons-eq, tail-eq_of_cons-eq}
use Rattle.std.specs.List.{AllByRecursion}
use Rattle.model.specs.declared.Card.{Card}
use Rattle.model.specs.declared.State.{State}
use Rattle.model.specs.declared.State.TheVariants.{Filed, Voided, Emptied, Blank}
use Rattle.model.specs.Lines.{Line}
use Rattle.model.specs.Datasets.{Payload, Entry, entry, entries, entry_lines, first_value, further, CONT, Dataset, IsDataset}
use Rattle.model.specs.Files.{Placed, bytes_of, InPlace, HasLines}
use Rattle.model.specs.Cards.{Blanks, after, Allowed, StandsAt, Files, FilesAll, Holds}
use Rattle.model.proofs.Parts.{Begins, clash, part_once}
use Rattle.model.proofs.Lining.{not_line, lined_once}
use Rattle.model.proofs.Entries.{Settled, Continuing, Alike, payload_once, entry_lines_once, all_settled, entries_once, same_lines_once}

pub lines_once : (file : List ℕ) (d e : Dataset) → IsDataset d → IsDataset e → HasLines file d → HasLines file e → d ≡ e
lines_once file d e a b h k = same_lines_once d e a b (sym h.2 ∙ ap (map (λ p. p.line)) (lined_once file h.0 k.0 h.1 k.1) ∙ k.2)

-- The cards that name lines

allowed_named : (s : State) (p : Payload) → Allowed s p → s ≡ Blank → ⊥
allowed_named s p a e = subst (λ t. Allowed t p) e a

pub files_named : (ps : List Placed) (cs : List Card) (es : List Entry) → FilesAll ps cs es → AllByRecursion (λ c. c.state ≡ Blank → ⊥) cs
files_named ps [] [] f = tt
files_named ps [] (e ∷ es) f = tt
files_named ps (c ∷ cs) [] f = absurd f
files_named ps (c ∷ cs) (e ∷ es) f = (allowed_named c.state f.0.filed f.0.allowed, files_named ps cs es f.1)

pub blanks_start : (cs : List Card) → Blanks cs → Begins (λ c. c.state ≡ Blank) cs
blanks_start [] b = tt
blanks_start (c ∷ cs) b = ap (λ (x : Card). x.state) b.0

-- A byte is where one line begins

positive : (xs : List ℕ) → (◌≡◌ {A = List ℕ} [] xs → ⊥) → 0 < length xs
positive [] h = absurd (h refl)
positive (x ∷ xs) h = omega arith

pub bytes_positive : (p : Placed) → 0 < length (bytes_of p)
bytes_positive p = positive (bytes_of p) (λ e. not_line p [] (e ∙ sym (append-nil (bytes_of p))))

pub begins_after : (at : ℕ) (b : List Placed) (q : Placed) (v : List Placed) → InPlace at (b ++ (q ∷ v)) → at ≤ q.byte
begins_after at [] q v h = omega arith
begins_after at (r ∷ b) q v h = let k = begins_after (at + length (bytes_of r)) b q v h.1 in omega arith

not_later : (at : ℕ) (p q : Placed) (u b v : List Placed) → InPlace at (p ∷ u) → u ≡ b ++ (q ∷ v) → p.byte ≡ q.byte → ⊥
not_later at p q u b v h e same = let k = begins_after (at + length (bytes_of p)) b q v (subst (InPlace (at + length (bytes_of p))) e h.1) in omega (arith, bytes_positive p)

pub byte_once : (at : ℕ) (a b : List Placed) (p q : Placed) (u v : List Placed) → InPlace at (a ++ (p ∷ u)) → InPlace at (b ++ (q ∷ v)) → a ++ (p ∷ u) ≡ b ++ (q ∷ v) → p.byte ≡ q.byte → p ∷ u ≡ q ∷ v
byte_once at [] [] p q u v h k e same = e
byte_once at [] (r ∷ b) p q u v h k e same = absurd (not_later at p q u b v h (tail-eq_of_cons-eq e) same)
byte_once at (r ∷ a) [] p q u v h k e same = absurd (not_later at q p v a u k (sym (tail-eq_of_cons-eq e)) (sym same))
byte_once at (r ∷ a) (s ∷ b) p q u v h k e same = byte_once (at + length (bytes_of r)) a b p q u v h.1 (subst (λ x. InPlace (at + length (bytes_of x)) (b ++ (q ∷ v))) (sym (head-eq_of_cons-eq e)) k.1) (tail-eq_of_cons-eq e) same

-- A card and a file name one entry

line_there : (own : List Placed) (e : Entry) → map (λ p. p.line) own ≡ entry_lines e → (p : Placed) × (more : List Placed) × (own ≡ p ∷ more)
line_there [] e h = absurd (clash {A = Line} (λ x. Unit {0}) (λ x. ⊥) (λ x p q. q) _ _ [] tt tt h)
line_there (p ∷ more) e h = (p, more, refl)

rest_starts : (rest : List Placed) → ((p : Placed) (more : List Placed) → rest ≡ p ∷ more → p.line.tag ≡ CONT → ⊥) → Begins (λ l. Continuing l → ⊥) (map (λ p. p.line) rest)
rest_starts [] h = tt
rest_starts (p ∷ more) h = h p more refl

pub stands_once : (ps : List Placed) (at b : ℕ) (e f : Entry) → InPlace at ps → StandsAt ps b e → StandsAt ps b f → Alike e f
stands_once ps at b e f h s t =
    let x = line_there s.own e s.reads in
    let y = line_there t.own f t.reads in
    let left : ps ≡ s.before ++ (x.0 ∷ (x.1 ++ s.rest)) = s.are ∙ append_assoc s.before s.own s.rest ∙ ap (λ o. s.before ++ (o ++ s.rest)) x.2 in
    let right : ps ≡ t.before ++ (y.0 ∷ (y.1 ++ t.rest)) = t.are ∙ append_assoc t.before t.own t.rest ∙ ap (λ o. t.before ++ (o ++ t.rest)) y.2 in
    let same = byte_once at s.before t.before x.0 y.0 (x.1 ++ s.rest) (y.1 ++ t.rest) (subst (InPlace at) left h) (subst (InPlace at) right h) (sym left ∙ right) (s.begins x.0 x.1 x.2 ∙ sym (t.begins y.0 y.1 y.2)) in
    let parts : s.own ++ s.rest ≡ t.own ++ t.rest = ap (λ o. o ++ s.rest) x.2 ∙ same ∙ ap (λ o. o ++ t.rest) (sym y.2) in
    let of_left : map (λ p. p.line) (s.own ++ s.rest) ≡ entry_lines e ++ map (λ p. p.line) s.rest = map-append (λ p. p.line) s.own s.rest ∙ ap (λ o. o ++ map (λ p. p.line) s.rest) s.reads in
    let of_right : map (λ p. p.line) (t.own ++ t.rest) ≡ entry_lines f ++ map (λ p. p.line) t.rest = map-append (λ p. p.line) t.own t.rest ∙ ap (λ o. o ++ map (λ p. p.line) t.rest) t.reads in
    (entry_lines_once e f (map (λ p. p.line) s.rest) (map (λ p. p.line) t.rest) (rest_starts s.rest s.whole) (rest_starts t.rest t.whole) (sym of_left ∙ ap (map (λ p. p.line)) parts ∙ of_right)).0

shown_once : (s : State) (p q x y : Payload) → Allowed s p → first_value p ≡ first_value q → further p ≡ further q → x ≡ after s p → y ≡ after s q → Settled x → Settled y → x ≡ y
shown_once Filed p q x y a e f xs ys sx sy = xs ∙ payload_once p q (λ h. sx (xs ∙ h)) (λ h. sy (ys ∙ h)) e f ∙ sym ys
shown_once Voided p q x y a e f xs ys sx sy = xs ∙ sym ys
shown_once Emptied p q x y a e f xs ys sx sy = xs ∙ sym ys
shown_once Blank p q x y a e f xs ys sx sy = absurd a

pub files_once : (ps : List Placed) (at : ℕ) (c : Card) (e f : Entry) → InPlace at ps → Settled e.payload → Settled f.payload → Files ps c e → Files ps c f → e ≡ f
files_once ps at c e f h s t x y =
    let a = stands_once ps at c.byte (entry e.level e.identifier e.tag x.filed) (entry f.level f.identifier f.tag y.filed) h x.stands y.stands in
    let payload = shown_once c.state x.filed y.filed e.payload f.payload x.allowed a.value a.more x.shows y.shows s t in
    λ i. record { level = a.level i; identifier = a.identifier i; tag = a.tag i; payload = payload i }

pub files_all_once : (ps : List Placed) (at : ℕ) (cs : List Card) (es fs : List Entry) → InPlace at ps → AllByRecursion (λ e. Settled e.payload) es → AllByRecursion (λ e. Settled e.payload) fs → FilesAll ps cs es → FilesAll ps cs fs → es ≡ fs
files_all_once ps at [] [] [] h s t x y = refl
files_all_once ps at [] [] (f ∷ fs) h s t x y = absurd y
files_all_once ps at [] (e ∷ es) fs h s t x y = absurd x
files_all_once ps at (c ∷ cs) [] fs h s t x y = absurd x
files_all_once ps at (c ∷ cs) (e ∷ es) [] h s t x y = absurd y
files_all_once ps at (c ∷ cs) (e ∷ es) (f ∷ fs) h s t x y =
    let first = files_once ps at c e f h s.0 t.0 x.0 y.0 in
    let rest = files_all_once ps at cs es fs h s.1 t.1 x.1 y.1 in
    λ i. first i ∷ rest i

pub held_once : (file : List ℕ) (cards : List Card) (d e : Dataset) → Holds file cards d → Holds file cards e → d ≡ e
held_once file cards d e x y =
    let placed = lined_once file x.placed y.placed x.passes.lined y.passes.lined in
    let named = (part_once (λ c. c.state ≡ Blank → ⊥) (λ c. c.state ≡ Blank) (λ c p q. p q) x.named y.named x.blanks y.blanks (files_named x.placed x.named (entries d) x.files) (files_named y.placed y.named (entries e) y.files) (blanks_start x.blanks x.rest_blank) (blanks_start y.blanks y.rest_blank) (sym x.are ∙ y.are)).0 in
    let there = subst (λ ps. FilesAll ps y.named (entries e)) (sym placed) y.files in
    entries_once d e (files_all_once x.placed (length x.passes.lined.mark) x.named (entries d) (entries e) x.passes.lined.placed (all_settled d x.is) (all_settled e y.is) x.files (subst (λ cs. FilesAll x.placed cs (entries e)) (sym named) there))
