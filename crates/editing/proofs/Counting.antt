-- How many structures of a type stand in a row, by the positions of the row. Assumes nothing.
use Rattle.std.proofs.Common.{◌≡◌, ℕ, zero, suc, ◌+◌, ◌<◌, ◌≤◌, Bool, true, false, true≢false, cond, not, ◌&&◌, eqb, ltb, ◌⊎◌, List, [], ◌∷◌, length, get_or, drop, Some, None, Option, MatchOption, ◌-◌, filter, subst, sym, refl, ap, ◌∙◌, ap₂, inl, inr, arith}
use Rattle.std.specs.List.{range_with_len}
use Rattle.std.specs.Option.{option_map, IfSome, IsSomeAnd}
use Rattle.std.proofs.lemmas.Option.{same_Some}
use Rattle.model.proofs.Options.{never}
use Rattle.std.proofs.lemmas.Bool.{cases_lt, eq-eqb, ne_eqb, lt-ltb, ltb-true, ltb-false}
use Rattle.model.specs.Books.{Meaning}
use Rattle.model.specs.Datasets.{Entry}
use Rattle.model.specs.Edits.{no_entry, row_types}
use Rattle.model.specs.Positions.{level_at}
use Rattle.model.specs.Removal.{how_many}
use Rattle.model.proofs.Flat.{types_end, types_stop, types_pass, types_more}
use Rattle.editing.specs.declared.rows.Siblings.{Siblings}
use Rattle.editing.specs.Rows.{is_typed, stands_at, told_at}

and_test : (x y z : Bool) → y ≡ false → (x && (y && z)) ≡ false
and_test true y z e = ap (λ w. w && z) e
and_test false y z e = refl

one_more : {X : Type 0} (s : Bool) (x : X) (rest : List X) → length (cond s (x ∷ rest) rest) ≡ cond s 1 0 + length rest
one_more true x rest = omega arith
one_more false x rest = omega arith

-- as many answers are yes as there are positions where the test passes
pub picked : (f : ℕ → Bool) (items : List Bool) (a n : ℕ) → length items ≡ n → ((k : ℕ) → k < n → get_or items k false ≡ f (a + k)) → length (filter (λ x. x) items) ≡ length (filter f (range_with_len a n))
picked f [] a zero e at = refl
picked f [] a (suc n) e at = absurd (omega arith)
picked f (x ∷ xs) a zero e at = absurd (omega arith)
picked f (x ∷ xs) a (suc n) e at =
    let here : a + 0 ≡ a = omega arith in
    let first : x ≡ f a = at 0 (omega arith) ∙ ap f here in
    let rest = picked f xs (a + 1) n (omega arith) (λ k h. let next : a + suc k ≡ a + 1 + k = omega arith in at (suc k) (omega arith) ∙ ap f next) in
    one_more x x (filter (λ y. y) xs) ∙ ap₂ (λ y z. cond y 1 0 + z) first rest ∙ sym (one_more (f a) a (filter f (range_with_len (a + 1) n)))

module _ (m : Meaning) (b : List Entry) (row : Siblings) (t : ℕ) where
  -- at the first position and behind it
  pub counted : (n j : ℕ) → ((k : ℕ) → j ≤ k → k < j + n → (k < length b) × (row.level ≤ level_at b k)) → (length b ≤ j + n ⊎ (j + n < length b) × (level_at b (j + n) < row.level)) → length (filter (stands_at m b row t) (range_with_len j n)) ≡ how_many (Some t) (row_types m row.context row.level (drop j b))
  counted zero j deep (inl over) = sym (ap (how_many (Some t)) (types_end b j row.level m row.context (omega arith)))
  counted zero j deep (inr (h, low)) =
      let here : j + 0 ≡ j = omega arith in
      sym (ap (how_many (Some t)) (types_stop b j row.level m row.context (omega arith) (subst (λ x. level_at b x < row.level) here low)))
  counted (suc n) j deep end =
      let rest = counted n (j + 1) (λ k lo hi. deep k (omega arith) (omega arith)) (subst (λ x. length b ≤ x ⊎ (x < length b) × (level_at b x < row.level)) (let e : j + suc n ≡ j + 1 + n = omega arith in e) end) in
      let kept = filter (stands_at m b row t) (range_with_len (j + 1) n) in
      let (h, low) = deep j (omega arith) (omega arith) in
      elim (cases_lt row.level (level_at b j)) [
        | inl deeper ↦ ap (λ s. length (cond s (j ∷ kept) kept)) (passed h deeper) ∙ rest ∙ sym (ap (how_many (Some t)) (types_pass b j row.level m row.context h deeper))
        | inr above ↦
            let same : level_at b j ≡ row.level = omega arith in
            ap (λ s. length (cond s (j ∷ kept) kept)) (typed_here h same) ∙ one_more (is_typed t (m.row row.context (get_or b j no_entry).tag)) j kept ∙ ap (λ x. cond (is_typed t (m.row row.context (get_or b j no_entry).tag)) 1 0 + x) rest ∙ sym (ap (how_many (Some t)) (types_more b j row.level m row.context h same))
      ]
    where
      passed : j < length b → row.level < level_at b j → stands_at m b row t j ≡ false
      passed h deeper = and_test (ltb j (length b)) (eqb (level_at b j) row.level) _ (ne_eqb (level_at b j) row.level (λ e. omega arith))

      typed_here : j < length b → level_at b j ≡ row.level → stands_at m b row t j ≡ is_typed t (m.row row.context (get_or b j no_entry).tag)
      typed_here h same = ap₂ (λ x y. x && (y && is_typed t (m.row row.context (get_or b j no_entry).tag))) (lt-ltb j (length b) h) (eq-eqb (level_at b j) row.level same)

-- Of a walk over the positions from a on, as far as they are kept

known : (o : Option ℕ) (x : ℕ) → option_map (λ y. y) o ≡ Some x → o ≡ Some x
known None x e = never x e
known (Some y) x e = e

module _ (a e len rlen : ℕ) (qat rat : ℕ → Option ℕ) (same : (k : ℕ) → k < len → rat k ≡ qat k) (within : len ≤ rlen) (up : (k : ℕ) → k < rlen → option_map (λ y. y) (rat k) ≡ Some (a + k)) where
  here : (k : ℕ) → k < len → qat k ≡ Some (a + k)
  here k h = known (qat k) (a + k) (ap (option_map (λ y. y)) (sym (same k h)) ∙ up k (omega arith))

  module _ (bound : (k : ℕ) → IfSome (rat k) (λ x. (x ≡ a + k) × (x < e))) where
    pub kept_to : (P Q : ℕ → Type 0) → ((x : ℕ) → x < e → P x → Q x) → ((k : ℕ) → IfSome (qat k) P) → (k : ℕ) → a ≤ k → k < a + len → (k < e) × Q k
    kept_to P Q told kept k low h =
        let i = k - a in
        let at : a + i ≡ k = omega arith in
        let p : P (a + i) = subst (λ o. IfSome o P) (here i (omega arith)) (kept i) in
        let less : (a + i ≡ a + i) × (a + i < e) = subst (λ o. IfSome o (λ x. (x ≡ a + i) × (x < e))) (same i (omega arith) ∙ here i (omega arith)) (bound i) in
        (let l = less.1 in omega arith, subst Q at (told (a + i) less.1 p))

    pub stopped : (P Q : ℕ → Type 0) (whole : Bool) → ((x : ℕ) → x < e → P x → Q x) → (whole ≡ true → rlen ≡ e - a) → MatchOption (rat len) ((whole ≡ true) × (rlen ≡ len)) P → e ≤ a + len ⊎ (a + len < e) × Q (a + len)
    stopped P Q whole told all = go (rat len) refl
      where
        go : (o : Option ℕ) → rat len ≡ o → MatchOption o ((whole ≡ true) × (rlen ≡ len)) P → e ≤ a + len ⊎ (a + len < e) × Q (a + len)
        go None is (w, l) = inl (let all_of = all w in omega arith)
        go (Some x) is p =
            let (at, less) = subst (λ o. IfSome o (λ x. (x ≡ a + len) × (x < e))) is (bound len) in
            inr (omega arith, subst Q at (told x less p))

-- Of answers about the positions of a row, as far as they come

told_by : (c d s : Bool) (y : Bool) → Some y ≡ cond (c && not d) (Some s) None → (c ≡ true) × (d ≡ false) × (y ≡ s)
told_by true false s y e = (refl, refl, same_Some _ _ e)
told_by true true s y e = never y (sym e)
told_by false d s y e = never y (sym e)

ended_by : (c d s : Bool) → None ≡ cond (c && not d) (Some s) None → c ≡ true → d ≡ true
ended_by true true s e h = refl
ended_by true false s e h = never s e
ended_by false d s e h = absurd (true≢false (sym h))

module _ (m : Meaning) (b : List Entry) (row : Siblings) (t : ℕ) where
  pub told_end : (k : ℕ) → k < length b → None ≡ told_at m b row t k → level_at b k < row.level
  told_end k h e = ltb-true (level_at b k) row.level (ended_by (ltb k (length b)) (ltb (level_at b k) row.level) (stands_at m b row t k) e (lt-ltb k (length b) h))

  module _ (a len rlen : ℕ) (pat : ℕ → Option Bool) (rat : ℕ → Option ℕ) (within : len ≤ rlen) (up : (k : ℕ) → k < rlen → option_map (λ y. y) (rat k) ≡ Some (a + k)) (P : ℕ → Bool → Type 0) (tells : (x : ℕ) (y : Bool) → P x y → Some y ≡ told_at m b row t x) (each : (k : ℕ) → k < len → IfSome (rat k) (λ x. IsSomeAnd (pat k) (λ y. P x y))) where
    told_of : (k : ℕ) → k < len → (y : Bool) × (pat k ≡ Some y) × (Some y ≡ told_at m b row t (a + k))
    told_of k h = go (pat k) refl (subst (λ o. IfSome o (λ x. IsSomeAnd (pat k) (λ y. P x y))) (known (rat k) (a + k) (up k (omega arith))) (each k h))
      where
        go : (o : Option Bool) → pat k ≡ o → IsSomeAnd o (λ y. P (a + k) y) → (y : Bool) × (pat k ≡ Some y) × (Some y ≡ told_at m b row t (a + k))
        go None is p = absurd p
        go (Some y) is p = (y, is, tells (a + k) y p)

    told_so : (k : ℕ) → k < len → (y : Bool) × (pat k ≡ Some y) × (a + k < length b) × (row.level ≤ level_at b (a + k)) × (y ≡ stands_at m b row t (a + k))
    told_so k h =
        let (y, is, e) = told_of k h in
        let (c, d, s) = told_by (ltb (a + k) (length b)) (ltb (level_at b (a + k)) row.level) (stands_at m b row t (a + k)) y e in
        (y, is, ltb-true (a + k) (length b) c, ltb-false (level_at b (a + k)) row.level d, s)

    pub answers : (items : List Bool) → ((k : ℕ) (d : Bool) → k < len → option_map (λ y. y) (pat k) ≡ Some (get_or items k d)) → (k : ℕ) → k < len → get_or items k false ≡ stands_at m b row t (a + k)
    answers items reads k h =
        let (y, is, _, _, s) = told_so k h in
        same_Some _ _ (sym (reads k false h) ∙ ap (option_map (λ y. y)) is) ∙ s

    pub deep_to : (k : ℕ) → a ≤ k → k < a + len → (k < length b) × (row.level ≤ level_at b k)
    deep_to k low h =
        let i = k - a in
        let at : a + i ≡ k = omega arith in
        let (_, _, c, d, _) = told_so i (omega arith) in
        (omega arith, subst (λ x. row.level ≤ level_at b x) at d)
