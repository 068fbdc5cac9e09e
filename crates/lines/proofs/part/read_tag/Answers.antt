use Rattle.std.proofs.Common.{◌≡◌, ℕ, Bool, refl, true, false, cond, List, take, drop, Some, None, Option, sym, ap, ◌∙◌, subst}
use Rattle.std.specs.List.{prefix_len}
use Rattle.model.specs.Lines.{tag_char, tag_chars, is_tag}
use Rattle.model.specs.Scan.{front, read_tag}
use Rattle.model.proofs.Scanning.{front_passes, all_tag_chars}
use Rattle.std.specs.Bool.{then_some}
use Rattle.lines.specs.Parsed.{Part, ReadsTag}
use Rattle.lines.proofs.part.read_tag.Goals as goal

characters : (bs : List ℕ) (n : ℕ) → n ≡ prefix_len tag_char bs → tag_chars (take n bs) ≡ true
characters bs n e = subst (λ k. tag_chars (take k bs) ≡ true) (sym e) (all_tag_chars (front tag_char bs) (front_passes tag_char bs))

taken : (bs tag rest : List ℕ) (n : ℕ) → n ≡ prefix_len tag_char bs → tag ≡ take n bs → rest ≡ drop n bs → is_tag (take n bs) ≡ true → read_tag bs ≡ Some (tag, rest)
taken bs tag rest n e a b is =
    ap {B = Option (List ℕ × List ℕ)} (λ k. cond (is_tag (take k bs)) (Some (take k bs, drop k bs)) None) (sym e)
    ∙ ap {B = Option (List ℕ × List ℕ)} (λ t. cond t (Some (take n bs, drop n bs)) None) is
    ∙ (λ i. Some (sym a i, sym b i))

left : (bs : List ℕ) (n : ℕ) → n ≡ prefix_len tag_char bs → is_tag (take n bs) ≡ false → read_tag bs ≡ None
left bs n e is =
    ap {B = Option (List ℕ × List ℕ)} (λ k. cond (is_tag (take k bs)) (Some (take k bs, drop k bs)) None) (sym e)
    ∙ ap {B = Option (List ℕ × List ℕ)} (λ t. cond t (Some (take n bs, drop n bs)) None) is

by : (bs : List ℕ) (r : Option (Part × Part)) (b : Bool) (x : Part × Part) → r ≡ then_some b x → (b ≡ true → ReadsTag bs (Some x)) → (b ≡ false → ReadsTag bs None) → ReadsTag bs r
by bs r true x e f g = subst (ReadsTag bs) (sym e) (f refl)
by bs r false x e f g = subst (ReadsTag bs) (sym e) (g refl)

pub returns : goal.returns
returns c =
    let bs = c.args.bytes.now in
    let n = c.run.result in
    let front = c.split_at.ensures.front in
    let run = c.run.ensures.value tag_char (λ b r e. e) in
    let all = subst (λ t. tag_chars t ≡ true) (sym front) (characters bs n run) in
    let is = c.is_tag.ensures all in
    by bs c.then_some.result c.is_tag.result _ c.then_some.ensures
    (λ t. taken bs c.split_at.result.0.now c.split_at.result.1.now n run front c.split_at.ensures.back (subst (λ t. is_tag t ≡ true) front (sym is ∙ t)))
    (λ t. left bs n run (subst (λ t. is_tag t ≡ false) front (sym is ∙ t)))
