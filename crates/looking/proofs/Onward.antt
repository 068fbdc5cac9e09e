-- The lines behind that of an entry, as an iterator over them gives them. Assumes nothing.
use Rattle.std.proofs.Common.{◌≡◌, ℕ, zero, suc, ◌+◌, Bool, true, false, cond, List, [], ◌∷◌, ◌++◌, map, take, drop, Some, None, Decides, Option, sym, refl, ap, ◌∙◌, subst, inl, inr, arith}
use mathlib.Core.List.{head-eq_of_cons-eq, tail-eq_of_cons-eq}
use Rattle.std.specs.List.{slice_get, prefix_len}
use Rattle.std.specs.Option.{option_map}
use Rattle.std.specs.Str.{bytes_eq}
use Rattle.std.proofs.lemmas.Bool.{cases_Bool}
use Rattle.std.proofs.lemmas.Slice.Eq.{bytes_eq-Decides}
use Rattle.std.proofs.lemmas.Iterator.{YieldsList}
use Rattle.std.specs.Iterator.{AlwaysYields}
use Rattle.model.specs.Lines.{Line, Value}
use Rattle.model.specs.Datasets.{CONT, text_value, further, continuations, Entry}
use Rattle.model.specs.Files.{Placed}
use Rattle.model.specs.Refusals.{lines_of}
use Rattle.model.proofs.Parts.{not_nil}
use Rattle.model.proofs.Options.{never, some_same}
use Rattle.lines.specs.declared.cursor.Cursor.{Cursor}
use Rattle.lines.specs.declared.steps.Found.{Found}
use Rattle.lines.specs.Shown.{value_of}
use Rattle.lines.specs.Iterating.{GivesNext}
use Rattle.looking.specs.Looking.{LinesFrom, text_in}
use Rattle.looking.proofs.Left.{Left, left_none, left_more, left_shows, given_goes, cut_left}
use Rattle.looking.proofs.Trailing.{Whole, text_is}

-- the tag and the value of a line
abbrev pub Part : Type 0
Part = List ℕ × Value

abbrev pub seen : Found → Part
seen f = (f.line.tag.now, value_of f.line.payload)

abbrev pub part_of : Placed → Part
part_of p = (p.line.tag, p.line.value)

abbrev pub text_part : List ℕ → Part
text_part t = (CONT, text_value t)

abbrev pub goes_on : Part → Bool
goes_on y = bytes_eq y.0 CONT

came : (rest : List Placed) (s : Cursor) → Left s.file.now s.at rest → AlwaysYields GivesNext seen s (map part_of rest)
came [] s l = λ x j y. absurd (let e = y.comes.ended in omega (arith, left_none s.file.now s.at l))
came (p ∷ rest) s l = (
  λ j y. left_more s.file.now s.at p rest l y.1,
  λ x j y.
      let shows = left_shows s.file.now s.at _ _ _ x p rest l y.comes in
      (ap (λ (t : List ℕ). (t, value_of x.line.payload)) shows.tag ∙ ap (λ (v : Value). (p.line.tag, v)) shows.value, came rest j (given_goes s j (Some x) p rest l y)),
)

-- a cursor behind the own line of an entry
pub cursor_gives : (ps : List Placed) (b : ℕ) (e : Entry) (w : Whole ps b e) (s t : Cursor) (f : Found) → LinesFrom s.file.now s.at (drop w.place ps) → GivesNext s (Some f) t → YieldsList GivesNext seen t (map part_of (w.own ++ w.rest))
cursor_gives ps b e w s t f before goes =
    let behind = given_goes s t (Some f) w.cut.line w.cut.more (cut_left s.file.now s.at ps w.place w.cut before) goes in
    record { runs = came (w.own ++ w.rest) t (subst (Left t.file.now t.at) w.are behind) }

other : (rest : List Placed) → ((p : Placed) (more : List Placed) → rest ≡ p ∷ more → p.line.tag ≡ CONT → ⊥) → take (prefix_len goes_on (map part_of rest)) (map part_of rest) ≡ []
other [] w = refl
other (p ∷ rest) w =
    let no : goes_on (part_of p) ≡ false = elim (cases_Bool (goes_on (part_of p))) [
      | inl y ↦ absurd (w p rest refl ((bytes_eq-Decides p.line.tag CONT).0 y))
      | inr n ↦ n
    ] in
    ap (λ b. take (cond b (1 + prefix_len goes_on (map part_of rest)) 0) (part_of p ∷ map part_of rest)) no

-- those that continue a text are its further lines
text_parts : (level : ℕ) (own rest : List Placed) (texts : List (List ℕ)) → lines_of own ≡ continuations level texts → ((p : Placed) (more : List Placed) → rest ≡ p ∷ more → p.line.tag ≡ CONT → ⊥) → take (prefix_len goes_on (map part_of (own ++ rest))) (map part_of (own ++ rest)) ≡ map text_part texts
text_parts level [] rest [] e w = other rest w
text_parts level [] rest (t ∷ ts) e w = absurd (not_nil _ (continuations level ts) e)
text_parts level (o ∷ own) rest [] e w = absurd (not_nil o.line (lines_of own) (sym e))
text_parts level (o ∷ own) rest (t ∷ ts) e w =
    let first = head-eq_of_cons-eq e in
    let same : part_of o ≡ text_part t = ap (λ (l : Line). (l.tag, l.value)) first in
    let on : goes_on (part_of o) ≡ true = ap goes_on same in
    let ys = map part_of (own ++ rest) in
    let one : 1 + prefix_len goes_on ys ≡ suc (prefix_len goes_on ys) = omega arith in
    ap (λ b. take (cond b (1 + prefix_len goes_on ys) 0) (part_of o ∷ ys)) on
    ∙ ap (λ m. take m (part_of o ∷ ys)) one
    ∙ ap (λ x. x ∷ take (prefix_len goes_on ys) ys) same
    ∙ ap (λ zs. text_part t ∷ zs) (text_parts level own rest ts (tail-eq_of_cons-eq e) w)

text_read : (texts : List (List ℕ)) (n : ℕ) (r : Option Found) → option_map seen r ≡ slice_get (map text_part texts) n → option_map (λ f. text_in f.line.payload) r ≡ slice_get texts n
text_read [] n None e = refl
text_read [] n (Some f) e = absurd (never _ (sym e))
text_read (t ∷ ts) zero None e = absurd (never _ e)
text_read (t ∷ ts) zero (Some f) e = ap Some (text_is f.line.payload t (ap (λ (y : Part). y.1) (some_same _ _ e)))
text_read (t ∷ ts) (suc n) r e = text_read ts n r e

-- what an answer by its place says of the entry's text
pub further_read : (ps : List Placed) (b : ℕ) (e : Entry) (w : Whole ps b e) (n : ℕ) (r : Option Found) → option_map seen r ≡ slice_get (take (prefix_len goes_on (map part_of (w.own ++ w.rest))) (map part_of (w.own ++ w.rest))) n → option_map (λ f. text_in f.line.payload) r ≡ slice_get (further e.payload) n
further_read ps b e w n r told = text_read (further e.payload) n r (told ∙ ap (λ ys. slice_get ys n) (text_parts (e.level + 1) w.own w.rest (further e.payload) w.reads w.whole))

pub tested : (b : Bool) (t : List ℕ) → Decides b (t ≡ CONT) → b ≡ bytes_eq t CONT
tested true t d = sym ((bytes_eq-Decides t CONT).1 (d.0 refl))
tested false t d = elim (cases_Bool (bytes_eq t CONT)) [
  | inl y ↦ d.1 ((bytes_eq-Decides t CONT).0 y) ∙ sym y
  | inr n ↦ sym n
]
