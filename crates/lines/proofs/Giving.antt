-- What a cursor comes to, by the lines that came before. Assumes nothing.
use Rattle.std.proofs.Common.{◌≡◌, ℕ, ◌+◌, List, [], ◌∷◌, ◌++◌, length, drop, sym, ap, ◌∙◌, subst, inl, inr, Ok, Some, None, Option, ◌≤◌}
use Rattle.std.specs.List.{prefix_len}
use Rattle.std.proofs.lemmas.List.{drop_all, drop-drop}
use Rattle.model.specs.Files.{Placed}
use Rattle.model.specs.Refusals.{Unlined}
use Rattle.model.specs.Scan.{in_line}
use Rattle.model.specs.LineTurns.{Scanned, line_end, found_at}
use Rattle.model.proofs.Cutting.{no_line_spelled, no_line_ended}
use Rattle.model.proofs.LineTurns.{scanned_more, scanned_unlined}
use Rattle.lines.specs.declared.steps.Found.{Found}
use Rattle.lines.specs.Steps.{Comes, NoLineAt, Stays, Steps, Gives}

pub broken_given : (file : List ℕ) (at : ℕ) (ps : List Placed) → NoLineAt file at → Scanned file ps at → Unlined file ps
broken_given file at ps (h, inl e) s = scanned_unlined file ps at s (no_line_spelled (drop at file) e) (inl h)
broken_given file at ps (h, inr e) s = scanned_unlined file ps at s (no_line_ended (drop at file) (drop-drop (prefix_len in_line (drop at file)) at file ∙ drop_all (line_end file at) file e)) (inl h)

pub line_given : (file : List ℕ) (at n at' n' : ℕ) (f : Found) (ps : List Placed) → Comes file at n at' n' f → Scanned file ps at → length ps ≡ n → Gives file ps at' (Ok (Some f))
line_given file at n at' n' f ps c s e =
    let p = found_at file at c.line in
    (p, c.byte, c.number ∙ ap (λ k. k + 1) (sym e), c.shows, subst (Scanned file (ps ++ p ∷ [])) (sym c.next_at) (scanned_more file ps at c.line s c.ended c.spelled))

-- What a step answers, where it is known which

module _ (file : List ℕ) (at n at' n' : ℕ) (o : Option Found) (steps : Steps file at n at' n' (Ok o)) where
  pub came : (f : Found) → o ≡ Some f → Comes file at n at' n' f
  came f is = subst (λ x. Steps file at n at' n' (Ok x)) is steps

  pub ended : o ≡ None → (length file ≤ at) × Stays at n at' n'
  ended is = subst (λ x. Steps file at n at' n' (Ok x)) is steps
