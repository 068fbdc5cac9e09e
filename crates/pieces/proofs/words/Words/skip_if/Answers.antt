use Rattle.std.proofs.Common.{◌≡◌, ℕ, Bool, true, false, cond, List, ◌∷◌, sym, refl, ap, ◌∙◌}
use Rattle.pieces.specs.Words.{words_of, behind_if}
use Rattle.pieces.proofs.words.Words.skip_if.Goals as goal

-- where the test of the first word answers b
asked : (test : List ℕ → Bool) (ws rest : List (List ℕ)) (w : List ℕ) (b : Bool) → ws ≡ w ∷ rest → b ≡ test w → cond b rest (w ∷ rest) ≡ behind_if test ws
asked test ws rest w b e is = ap (λ b. cond b rest (w ∷ rest)) is ∙ sym (ap (behind_if test) e)

pub returns-in-Some : goal.returns-in-Some
returns-in-Some g c test tests = asked test (words_of c.args.self) (words_of c.in-Some.rest) c.in-Some.word.now true c.in-Some.ensures (tests c.in-Some.word.now true (c.in-Some.word, c.if-passes.ensures, refl))

pub returns-in_default : goal.returns-in_default
returns-in_default g c test tests = c.in-Some.ensures ∙ asked test (words_of c.args.self) (words_of c.in-Some.rest) c.in-Some.word.now false c.in-Some.ensures (tests c.in-Some.word.now false (c.in-Some.word, c.if-passes.ensures, refl))
