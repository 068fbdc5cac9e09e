-- The least of the cards that neighbours in an index have. Assumes nothing.
use Rattle.std.proofs.Common.{◌≡◌, ℕ, ◌+◌, ◌-◌, ◌<◌, ◌≤◌, min, Bool, cond, List, [], ◌∷◌, map, length, get_or, take, drop, Some, None, Option, Decides, filter, sym, refl, ap, ◌∙◌, subst, arith, length-drop, Bor}
use Rattle.std.specs.List.{fold, reduce}
use Rattle.std.specs.declared.slice.Windows.{Windows}
use Rattle.std.specs.Slice.Iter.{windows_size, windows_rest, windows_steps}
use Rattle.std.proofs.lemmas.List.{drop_more}
use Rattle.std.proofs.lemmas.Bool.{cond_both}
use Rattle.std.proofs.lemmas.Iterator.{YieldsList}
use Rattle.std.proofs.lemmas.Iterator.Splits.{YieldsList-from_shown_while}
use Rattle.model.specs.Index.{LeastRepeat, lesser}
use Rattle.model.proofs.Index.{least_more}
use Rattle.naming.specs.Naming.{Name, LeastName}

-- each element and the next
abbrev pub pairs : {X : Type 0} → List X → List (X × X)
pairs [] = []
pairs (x ∷ []) = []
pairs (x ∷ y ∷ xs) = (x, y) ∷ pairs (y ∷ xs)

module _ {X : Type 0} (d : X) where
  -- the two elements of a window
  abbrev pub pair_of : Bor (List X) → X × X
  pair_of w = (get_or w.now 0 d, get_or w.now 1 d)

  short : (xs : List X) → length xs < 2 → length (pairs xs) ≡ 0
  short [] h = refl
  short (x ∷ []) h = refl
  short (x ∷ y ∷ xs) h = absurd (omega arith)

  next : (xs : List X) (w : Bor (List X)) → 2 ≤ length xs → w.now ≡ take 2 xs → pairs xs ≡ pair_of w ∷ pairs (drop 1 xs)
  next [] w h e = absurd (omega arith)
  next (x ∷ []) w h e = absurd (omega arith)
  next (x ∷ y ∷ xs) w h e = ap (λ ys. (get_or ys 0 d, get_or ys 1 d) ∷ pairs (y ∷ xs)) (sym e)

module _ {X : Type 0} (test : X × X → Bool) (f : X × X → ℕ) where
  abbrev turned : Option ℕ → List (X × X) → Option ℕ
  turned o ps = fold (λ o p. lesser o (test p) (f p)) o ps

  abbrev least_of : Option ℕ → List ℕ → Option ℕ
  least_of None ks = reduce min ks
  least_of (Some m) ks = Some (fold min m ks)

  turns : (o : Option ℕ) (ps : List (X × X)) → least_of o (map f (filter test ps)) ≡ turned o ps
  turns None [] = refl
  turns (Some m) [] = refl
  turns None (p ∷ ps) = cond_both (test p) (p ∷ filter test ps) (filter test ps) (λ xs. least_of None (map f xs) ≡ turned None (p ∷ ps)) (λ e. turns (Some (f p)) ps ∙ ap (λ b. turned (cond b (Some (f p)) None) ps) (sym e)) (λ e. turns None ps ∙ ap (λ b. turned (cond b (Some (f p)) None) ps) (sym e))
  turns (Some m) (p ∷ ps) = cond_both (test p) (p ∷ filter test ps) (filter test ps) (λ xs. least_of (Some m) (map f xs) ≡ turned (Some m) (p ∷ ps)) (λ e. turns (Some (min m (f p))) ps ∙ ap (λ b. turned (cond b (Some (min m (f p))) (Some m)) ps) (sym e)) (λ e. turns (Some m) ps ∙ ap (λ b. turned (cond b (Some (min m (f p))) (Some m)) ps) (sym e))

-- by the turns of a search
module _ (names : List Name) (test : Name × Name → Bool) (decides : (x y : Name) → Decides (test (x, y)) (x.0.now ≡ y.0.now)) (d : Name) where
  abbrev Least : ℕ → Option ℕ → Type 0
  Least n o = LeastRepeat (λ a. (get_or names a d).0.now) (λ a. (get_or names a d).1) n o

  along : (n : ℕ) (y : Name) (ys : List Name) (o : Option ℕ) → drop n names ≡ y ∷ ys → Least (n + 1) o → Least (length names) (turned test (λ p. p.1.1) o (pairs (y ∷ ys)))
  along n y [] o e l = subst (λ k. Least k o) (let long = ap length e in let z : n + 1 ≡ length names = omega (arith, length-drop n names) in z) l
  along n y (z ∷ ys) o e l =
      let low : n + 1 < length names = let long = ap length e in omega (arith, length-drop n names) in
      let here : get_or names n d ≡ y = ap (λ (xs : List Name). get_or xs 0 d) (sym (drop_more names n d (omega arith)) ∙ e) in
      let rest : drop (n + 1) names ≡ z ∷ ys = ap (drop 1) (sym (drop_more names n d (omega arith)) ∙ e) in
      let there : get_or names (n + 1) d ≡ z = ap (λ (xs : List Name). get_or xs 0 d) (sym (drop_more names (n + 1) d low) ∙ rest) in
      let q : Decides (test (y, z)) ((get_or names (n + 1 - 1) d).0.now ≡ (get_or names (n + 1) d).0.now) = subst (λ k. Decides (test (y, z)) ((get_or names k d).0.now ≡ (get_or names (n + 1) d).0.now)) (let w : n ≡ n + 1 - 1 = omega arith in w) (subst (λ (x : Name). Decides (test (y, z)) (x.0.now ≡ (get_or names (n + 1) d).0.now)) (sym here) (subst (λ (x : Name). Decides (test (y, z)) (y.0.now ≡ x.0.now)) (sym there) (decides y z))) in
      along (n + 1) z ys (lesser o (test (y, z)) z.1) rest (subst (λ k. Least (n + 1 + 1) (lesser o (test (y, z)) k)) (ap (λ (x : Name). x.1) there) (least_more (λ a. (get_or names a d).0.now) (λ a. (get_or names a d).1) (n + 1) o (test (y, z)) (omega arith) q l))

pub least_found : (names : List Name) (test : Name × Name → Bool) → ((x y : Name) → Decides (test (x, y)) (x.0.now ≡ y.0.now)) → (r : Option ℕ) → r ≡ reduce min (map (λ (p : Name × Name). p.1.1) (filter test (pairs names))) → LeastName names (length names) r
least_found names test decides r e d = subst (LeastRepeat (λ a. (get_or names a d).0.now) (λ a. (get_or names a d).1) (length names)) (sym (e ∙ turns test (λ p. p.1.1) None (pairs names))) (all names refl)
  where
    all : (xs : List Name) → names ≡ xs → LeastRepeat (λ a. (get_or names a d).0.now) (λ a. (get_or names a d).1) (length names) (turned test (λ p. p.1.1) None (pairs names))
    all [] f = subst (λ (ns : List Name). LeastRepeat (λ a. (get_or ns a d).0.now) (λ a. (get_or ns a d).1) (length ns) (turned test (λ p. p.1.1) None (pairs ns))) (sym f) (λ a h. absurd (omega arith))
    all (x ∷ xs) f = subst (λ ns. LeastRepeat (λ a. (get_or names a d).0.now) (λ a. (get_or names a d).1) (length names) (turned test (λ p. p.1.1) None (pairs ns))) (sym f) (along names test decides d 0 x xs None f (λ a h. absurd (omega arith)))

pub windows_pairs : {X : Type 0} (d : X) (s : Windows X) (xs : List X) → windows_size s ≡ 2 → windows_rest s ≡ xs → YieldsList windows_steps (pair_of d) s (pairs xs)
windows_pairs d s xs two e = subst (λ ys. YieldsList windows_steps (pair_of d) s (pairs ys)) e (YieldsList-from_shown_while windows_steps (pair_of d) (λ s. pairs (windows_rest s)) (λ s. windows_size s ≡ 2) (λ s t q k. short d (windows_rest s) (let z = k.1.0 in omega arith)) (λ s x t q k. (k.0 ∙ q, next d (windows_rest s) x (let z = k.1.0 in omega arith) (k.1.1 ∙ ap (λ n. take n (windows_rest s)) q) ∙ ap (λ ys. pair_of d x ∷ pairs ys) (sym k.1.2))) s two)
