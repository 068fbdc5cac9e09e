-- What goes into a buffer, piece by piece. Assumes nothing.
use Rattle.std.proofs.Common.{◌≡◌, ℕ, ◌≤◌, List, [], ◌++◌, length, drop, sym, ap, ◌∙◌, subst, append_assoc, append-nil, arith, length-append, length-drop}
use Rattle.writing.specs.Written.{over, Adds}

pub adds_none : (buffer : List ℕ) (at : ℕ) → Adds buffer at [] at buffer
adds_none buffer at w first e a room = (e ∙ ap (λ x. over x first) (sym (append-nil w)), a ∙ ap length (sym (append-nil w)))

pub adds_then : (buffer : List ℕ) (at : ℕ) (xs : List ℕ) (mid : ℕ) (middle ys : List ℕ) (r : ℕ) (out : List ℕ) → Adds buffer at xs mid middle → Adds middle mid ys r out → Adds buffer at (xs ++ ys) r out
adds_then buffer at xs mid middle ys r out p q w first e a room =
    let long = length-append xs ys in
    let (m, n) = p w first e a (omega arith) in
    let (o, s) = q (w ++ xs) first m n (omega (arith, length-append w xs)) in
    (o ∙ ap (λ x. over x first) (append_assoc w xs ys), s ∙ ap length (append_assoc w xs ys))

pub adds_same : (buffer : List ℕ) (at : ℕ) (xs ys : List ℕ) (r : ℕ) (out : List ℕ) → xs ≡ ys → Adds buffer at xs r out → Adds buffer at ys r out
adds_same buffer at xs ys r out e p = subst (λ x. Adds buffer at x r out) e p

long_over : (w first : List ℕ) → length w ≤ length first → length (over w first) ≡ length first
long_over w first h = omega (arith, length-append w (drop (length w) first), length-drop (length w) first)
