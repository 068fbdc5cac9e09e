-- What the rules ask of a row and of the records, by recursion. Assumes nothing.
use Rattle.std.proofs.Common.{◌≡◌, ℕ, Bool, true, false, List, [], ◌∷◌, ◌++◌, IfSome, IfNone, Some, None, Option, sym, refl, subst}
use Rattle.std.specs.List.{ContainsAt as Has, AllByRecursion}
use Rattle.std.proofs.ByRecursion.{All-append}
use Rattle.model.specs.declared.Context.{Context}
use Rattle.model.specs.declared.Context.TheVariants.{Top}
use Rattle.model.specs.declared.Row.{Row}
use Rattle.model.specs.declared.Kind.TheVariants.{Pointer}
use Rattle.model.specs.Books.{Meaning}
use Rattle.model.specs.Datasets.{pointer, Structures, end, next, Record, Dataset, tops}
use Rattle.model.specs.Kinds.{Takes}
use Rattle.model.specs.Rules.{below, typed, types_of, top_types, Situation, situation, situations_in, situations_of, situations, Keeps14, Keeps15, NamesType, Keeps16, Keeps17, NeedsMet, Keeps18, Bare, Excused, Keeps19, Belongs}

-- all that the rules ask of one structure; N i t says that only records of type t have the identifier i
pub record Fit (m : Meaning) (N : List ℕ → ℕ → Type 0) (s : Situation) : Type 0 where
  pub own : Row
  pub is : s.row ≡ Some own
  pub taken : Takes m (m.kind own.typed) s.payload
  pub aimed : (t : ℕ) (i : List ℕ) → m.kind own.typed ≡ Pointer t → s.payload ≡ pointer i → N i t
  pub single : Has s.before (Some own.typed) → own.many ≡ true
  pub complete : NeedsMet m s.inside (types_of m s.inside s.subs)
  pub filled : Bare s.payload s.subs → Excused m s.header own

abbrev pub Fits : (m : Meaning) → (List ℕ → ℕ → Type 0) → Context → List (Option ℕ) → Structures → Type 0
Fits m N c before end = Unit {0}
Fits m N c before (next tag p subs rest) = Fit m N (situation m false c before tag p subs) × Fits m N (below m c tag) [] subs × Fits m N c (before ++ typed m c tag ∷ []) rest

abbrev pub Fits-of : (m : Meaning) → (List ℕ → ℕ → Type 0) → Bool → List (Option ℕ) → List Record → Type 0
Fits-of m N h before [] = Unit {0}
Fits-of m N h before (r ∷ rs) = Fit m N (situation m h Top before r.tag r.payload r.subs) × Fits m N (below m Top r.tag) [] r.subs × Fits-of m N false (before ++ typed m Top r.tag ∷ []) rs

pub every_left : {X : Type 0} (P : X → Type 0) (xs ys : List X) → AllByRecursion P (xs ++ ys) → AllByRecursion P xs
every_left P [] ys h = tt
every_left P (x ∷ xs) ys h = (h.0, every_left P xs ys h.1)

pub every_right : {X : Type 0} (P : X → Type 0) (xs ys : List X) → AllByRecursion P (xs ++ ys) → AllByRecursion P ys
every_right P [] ys h = h
every_right P (x ∷ xs) ys h = every_right P xs ys h.1

module _ (m : Meaning) (d : Dataset) where
  fit : (s : Situation) → Keeps14 s → Keeps15 m s → Keeps16 m d s → Keeps17 s → Keeps18 m s → Keeps19 m s → Fit m (NamesType m d) s
  fit s a b c e f g = go s.row refl a b c e g
    where
      go : (o : Option Row) → s.row ≡ o → IfNone o ⊥ → IfSome o (λ r. Takes m (m.kind r.typed) s.payload) → IfSome o (λ r. (t : ℕ) (i : List ℕ) → m.kind r.typed ≡ Pointer t → s.payload ≡ pointer i → NamesType m d i t) → IfSome o (λ r. Has s.before (Some r.typed) → r.many ≡ true) → IfSome o (λ r. Bare s.payload s.subs → Excused m s.header r) → Fit m (NamesType m d) s
      go None is a b c e g = absurd a
      go (Some r) is a b c e g = record { own = r; is = is; taken = b; aimed = c; single = e; complete = f; filled = g }

  fit_all : (ss : List Situation) → AllByRecursion Keeps14 ss → AllByRecursion (Keeps15 m) ss → AllByRecursion (Keeps16 m d) ss → AllByRecursion Keeps17 ss → AllByRecursion (Keeps18 m) ss → AllByRecursion (Keeps19 m) ss → AllByRecursion (Fit m (NamesType m d)) ss
  fit_all [] a b c e f g = tt
  fit_all (s ∷ ss) a b c e f g = (fit s a.0 b.0 c.0 e.0 f.0 g.0, fit_all ss a.1 b.1 c.1 e.1 f.1 g.1)

module _ (m : Meaning) (N : List ℕ → ℕ → Type 0) where
  in_fits : (c : Context) (before : List (Option ℕ)) (s : Structures) → AllByRecursion (Fit m N) (situations_in m c before s) → Fits m N c before s
  in_fits c before end h = tt
  in_fits c before (next tag p subs rest) h =
      let inner = situations_in m (below m c tag) [] subs in
      let after = situations_in m c (before ++ typed m c tag ∷ []) rest in
      (h.0, in_fits (below m c tag) [] subs (every_left (Fit m N) inner after h.1), in_fits c (before ++ typed m c tag ∷ []) rest (every_right (Fit m N) inner after h.1))

  of_fits : (h : Bool) (before : List (Option ℕ)) (rs : List Record) → AllByRecursion (Fit m N) (situations_of m h before rs) → Fits-of m N h before rs
  of_fits h before [] f = tt
  of_fits h before (r ∷ rs) f =
      let inner = situations_in m (below m Top r.tag) [] r.subs in
      let after = situations_of m false (before ++ typed m Top r.tag ∷ []) rs in
      (f.0, in_fits (below m Top r.tag) [] r.subs (every_left (Fit m N) inner after f.1), of_fits false (before ++ typed m Top r.tag ∷ []) rs (every_right (Fit m N) inner after f.1))

  fits_in : (c : Context) (before : List (Option ℕ)) (s : Structures) → Fits m N c before s → AllByRecursion (Fit m N) (situations_in m c before s)
  fits_in c before end h = tt
  fits_in c before (next tag p subs rest) h =
      let inner = situations_in m (below m c tag) [] subs in
      let after = situations_in m c (before ++ typed m c tag ∷ []) rest in
      (h.0, All-append (Fit m N) inner after (fits_in (below m c tag) [] subs h.1) (fits_in c (before ++ typed m c tag ∷ []) rest h.2))

  fits_of : (h : Bool) (before : List (Option ℕ)) (rs : List Record) → Fits-of m N h before rs → AllByRecursion (Fit m N) (situations_of m h before rs)
  fits_of h before [] f = tt
  fits_of h before (r ∷ rs) f =
      let inner = situations_in m (below m Top r.tag) [] r.subs in
      let after = situations_of m false (before ++ typed m Top r.tag ∷ []) rs in
      (f.0, All-append (Fit m N) inner after (fits_in (below m Top r.tag) [] r.subs f.1) (fits_of false (before ++ typed m Top r.tag ∷ []) rs f.2))

pub belongs_fits : (m : Meaning) (d : Dataset) → Belongs m d → Fits-of m (NamesType m d) true [] (tops d)
belongs_fits m d b = of_fits m (NamesType m d) true [] (tops d) (fit_all m d (situations m d) b.known b.taken b.aimed b.single b.complete b.filled)

-- and back
module _ (m : Meaning) (d : Dataset) where
  by_row : (o : Option Row) (r : Row) (P : Row → Type 0) → o ≡ Some r → P r → IfSome o P
  by_row o r P is p = subst (λ o. IfSome o P) (sym is) p

  weaker : (P Q : Situation → Type 0) → ((s : Situation) → P s → Q s) → (ss : List Situation) → AllByRecursion P ss → AllByRecursion Q ss
  weaker P Q f [] h = tt
  weaker P Q f (s ∷ ss) h = (f s h.0, weaker P Q f ss h.1)

  pub fits_belong : Fits-of m (NamesType m d) true [] (tops d) → NeedsMet m Top (top_types m (tops d)) → Belongs m d
  fits_belong f top =
      let N = NamesType m d in
      let all = fits_of m N true [] (tops d) f in
      let ss = situations m d in
      record {
        known = weaker (Fit m N) Keeps14 (λ s w. subst (λ o. IfNone o ⊥) (sym w.is) tt) ss all;
        taken = weaker (Fit m N) (Keeps15 m) (λ s w. by_row s.row w.own (λ r. Takes m (m.kind r.typed) s.payload) w.is w.taken) ss all;
        aimed = weaker (Fit m N) (Keeps16 m d) (λ s w. by_row s.row w.own (λ r. (t : ℕ) (i : List ℕ) → m.kind r.typed ≡ Pointer t → s.payload ≡ pointer i → NamesType m d i t) w.is w.aimed) ss all;
        single = weaker (Fit m N) Keeps17 (λ s w. by_row s.row w.own (λ r. Has s.before (Some r.typed) → r.many ≡ true) w.is w.single) ss all;
        top_complete = top;
        complete = weaker (Fit m N) (Keeps18 m) (λ s w. w.complete) ss all;
        filled = weaker (Fit m N) (Keeps19 m) (λ s w. by_row s.row w.own (λ r. Bare s.payload s.subs → Excused m s.header r) w.is w.filled) ss all;
      }
