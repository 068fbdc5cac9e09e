-- A text cut at the first of a byte, by its place. Assumes nothing.
use Rattle.std.proofs.Common.{◌≡◌, ℕ, ◌+◌, ◌-◌, ◌<◌, ◌≤◌, Bool, not, ◌&&◌, Bor, List, [], ◌∷◌, length, take, drop, Some, None, Option, sym, refl, ap, ◌∙◌, arith, length-drop}
use Rattle.std.specs.List.{prefix_len}
use Rattle.std.specs.Option.{option_map}
use Rattle.std.proofs.lemmas.List.{drop_more, drop_all, take_all, take_rest}
use Rattle.model.specs.Kinds.{cut, left_trimmed, right_trimmed}
use Rattle.model.specs.Grammar.{other_than, piece, behind_first, behind, pieces, starts_blank, ends_blank, begins_well, ends_well, are_texts, later_pass, pieces_pass}
use Rattle.model.proofs.Grammars.{cut_step}

module _ (c : ℕ) (t : List ℕ) (e : ℕ) (is : e ≡ prefix_len (other_than c) t) where
  pub before_it : take e t ≡ piece c t
  before_it = ap (λ n. take n t) is

  pub behind_it : e < length t → Some (take (length t - (e + 1)) (drop (e + 1) t)) ≡ behind c t
  behind_it h = ap Some (take_rest t (e + 1)) ∙ sym (ap behind_first (drop_more t e 0 h)) ∙ ap (λ n. behind_first (drop n t)) is

  pub none_behind : length t ≤ e → None ≡ behind c t
  none_behind h = sym (ap behind_first (drop_all e t h)) ∙ ap (λ n. behind_first (drop n t)) is

  -- what is got from behind that place, if it lies within
  pub got_behind : (r : Option (Bor (List ℕ))) → (r ≡ None → length t ≤ e) → ((x : Bor (List ℕ)) → r ≡ Some x → (e < length t) × (x.now ≡ take (length t - (e + 1)) (drop (e + 1) t))) → option_map (λ x. x.now) r ≡ behind c t
  got_behind None past within = none_behind (past refl)
  got_behind (Some x) past within = let w = within x refl in ap Some w.1 ∙ behind_it w.0

-- where no such byte stands, the first piece is the whole
no_more_from : (xs : List ℕ) → None ≡ behind_first xs → length xs ≡ 0
no_more_from [] e = refl
no_more_from (x ∷ xs) e = cc

pub whole_piece : (c : ℕ) (t : List ℕ) → None ≡ behind c t → piece c t ≡ t
whole_piece c t is =
    let n = prefix_len (other_than c) t in
    take_all n t (omega (arith, length-drop n t, no_more_from (drop n t) is))

-- What is asked of the pieces of a text, by its first cut

-- what f asks of a piece and those behind it is g of those behind it
over_first : (f g : List (List ℕ) → Bool) (w t : List ℕ) → ((v : List ℕ) (vs : List (List ℕ)) → f (w ∷ v ∷ vs) ≡ g (v ∷ vs)) → f (w ∷ cut 44 t) ≡ g (cut 44 t)
over_first f g w t step = ap (λ ws. f (w ∷ ws)) (cut_step 44 t) ∙ step (piece 44 t) (pieces 44 (behind 44 t)) ∙ sym (ap g (cut_step 44 t))

-- f of the only piece, or what g asks of the first piece and of those behind it
abbrev by_first : (List ℕ → Bool) → (List ℕ → List (List ℕ) → Bool) → List ℕ → Option (List ℕ) → Bool
by_first f g w None = f w
by_first f g w (Some rest) = g w (cut 44 rest)

asked_by_first : (h : List (List ℕ) → Bool) (f : List ℕ → Bool) (g : List ℕ → List (List ℕ) → Bool) → ((w : List ℕ) → h (w ∷ []) ≡ f w) → ((w v : List ℕ) (vs : List (List ℕ)) → h (w ∷ v ∷ vs) ≡ g w (v ∷ vs)) → (w : List ℕ) (o : Option (List ℕ)) → h (w ∷ pieces 44 o) ≡ by_first f g w o
asked_by_first h f g one more w None = one w
asked_by_first h f g one more w (Some rest) = over_first h (g w) w rest (more w)

module _ (t : List ℕ) where
  pub ends_by_first : ends_well (cut 44 t) ≡ by_first (λ w. ends_well (w ∷ [])) (λ w ws. ends_well ws) (piece 44 t) (behind 44 t)
  ends_by_first = ap ends_well (cut_step 44 t) ∙ asked_by_first ends_well (λ w. ends_well (w ∷ [])) (λ w ws. ends_well ws) (λ w. refl) (λ w v vs. refl) (piece 44 t) (behind 44 t)

  pub texts_by_first : are_texts (cut 44 t) ≡ by_first (λ w. not (starts_blank w) && not (ends_blank w)) (λ w ws. begins_well w && ends_well ws) (piece 44 t) (behind 44 t)
  texts_by_first = ap are_texts (cut_step 44 t) ∙ asked_by_first are_texts (λ w. not (starts_blank w) && not (ends_blank w)) (λ w ws. begins_well w && ends_well ws) (λ w. refl) (λ w v vs. refl) (piece 44 t) (behind 44 t)

module _ (p : List ℕ → Bool) (t : List ℕ) where
  pub later_by_first : later_pass p (cut 44 t) ≡ by_first (λ w. p (left_trimmed w)) (λ w ws. p (right_trimmed (left_trimmed w)) && later_pass p ws) (piece 44 t) (behind 44 t)
  later_by_first = ap (later_pass p) (cut_step 44 t) ∙ asked_by_first (later_pass p) (λ w. p (left_trimmed w)) (λ w ws. p (right_trimmed (left_trimmed w)) && later_pass p ws) (λ w. refl) (λ w v vs. refl) (piece 44 t) (behind 44 t)

  pub words_by_first : pieces_pass p (cut 44 t) ≡ by_first p (λ w ws. p (right_trimmed w) && later_pass p ws) (piece 44 t) (behind 44 t)
  words_by_first = ap (pieces_pass p) (cut_step 44 t) ∙ asked_by_first (pieces_pass p) p (λ w ws. p (right_trimmed w) && later_pass p ws) (λ w. refl) (λ w v vs. refl) (piece 44 t) (behind 44 t)
