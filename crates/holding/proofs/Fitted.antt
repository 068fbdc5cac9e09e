-- What the tests of the cards decide. Assumes nothing.
use Rattle.std.proofs.Common.{◌≡◌, ℕ, ◌+◌, ◌<◌, ◌≤◌, Bool, true, false, not, ◌⊎◌, List, length, get_or, Some, None, Decides, IsSomeAnd, Option, sym, refl, ap, ◌∙◌, subst, inl, inr, true≢false, arith}
use lib.ListN.{length-map}
use Rattle.std.specs.Option.{MatchOption}
use Rattle.std.proofs.lemmas.List.{get_or_default}
use Rattle.std.proofs.lemmas.Bool.{cases_lt}
use Rattle.std.proofs.lemmas.Bool.Decides.{not_from_Decides}
use Rattle.model.specs.declared.Card.{Card}
use Rattle.model.specs.Lines as model
use Rattle.model.specs.Datasets.{HEAD, TRLR}
use Rattle.model.specs.Files.{Placed, Lined, Passes, at}
use Rattle.model.specs.Cards.{blank}
use Rattle.model.specs.Refusals.{lines_of}
use Rattle.lines.specs.declared.line.Line.{Line}
use Rattle.lines.specs.Shown.{Shows, value_of}
use Rattle.looking.specs.Looking.{LineAt}
use Rattle.holding.specs.Standing.{card, LineOn, OnLine, OnLines, AllowedValue, Top, Follows, Fits}

pub never : (P : Type 0) → (P → ⊥) → Decides false P
never P h = (λ e. absurd (true≢false (sym e)), λ p. absurd (h p))

pub turned : (b : Bool) (P : Type 0) → Decides b P → Decides (not b) (P → ⊥)
turned true P d = (λ e. absurd (true≢false (sym e)), λ h. absurd (h (d.0 refl)))
turned false P d = (λ e p. true≢false (sym (d.1 p)), λ h. refl)

pub card_is : (cards : List Card) (k : ℕ) (d : Card) → k < length cards → get_or cards k d ≡ card cards k
card_is cards k d h = get_or_default cards k d blank h

pub line_on : (ps : List Placed) (b : ℕ) → OnLine ps b → (l : model.Line) × LineOn ps b l
line_on ps b (i, h, e, n) = (at (lines_of ps) i, (i, h, e, refl))

shallow : (file : List ℕ) (ps : List Placed) (b : ℕ) (l : model.Line) → Passes file ps → LineOn ps b l → l.level ≤ 63
shallow file ps b l p (i, h, e, is) = subst (λ (x : model.Line). x.level ≤ 63) is (p.ordered.levels i (omega (arith, length-map ps (λ q. q.line))))

-- a line that was read is the one that is placed there
read : (file : List ℕ) (ps : List Placed) (b : ℕ) (r : Option Line) (v : Line) (l : model.Line) → Lined file ps → LineAt file b r → r ≡ Some v → LineOn ps b l → Shows v l
read file ps b r v l lined there e (i, h, f, is) = subst (Shows v) is (subst (λ o. IsSomeAnd o (λ v. Shows v (at (lines_of ps) i))) e (there ps i lined h f))

-- Of the cards before k, the last of which has this line

pub record Fitting (ps : List Placed) (cards : List Card) (k : ℕ) (before : Option Line) : Type 0 where
  pub last : MatchOption before (k ≡ 0) (λ v. (j : ℕ) × (k ≡ j + 1) × ((l : model.Line) → LineOn ps (card cards j).byte l → Shows v l))
  pub header : 0 < k → (l : model.Line) → LineOn ps (card cards 0).byte l → Top HEAD l
  pub allowed : (j : ℕ) → j < k → (l : model.Line) → LineOn ps (card cards j).byte l → AllowedValue (card cards j).state l.value
  pub steps : (j : ℕ) → j + 1 < k → (l m : model.Line) → LineOn ps (card cards j).byte l → LineOn ps (card cards (j + 1)).byte m → m.level ≤ l.level + 1

module _ (file : List ℕ) (ps : List Placed) (cards : List Card) (passes : Passes file ps) (ons : OnLines ps cards) where
  module _ (k : ℕ) (low : k < length cards) (before : Option Line) (d : Card) where
    -- each card has a line
    pub unread : LineAt file (get_or cards k d).byte None → ⊥
    unread there = let (i, h, e, n) = ons.lines k low in there ps i passes.lined h (e ∙ sym (ap (λ (c : Card). c.byte) (card_is cards k d low)))

    module _ (r : Option Line) (v : Line) (there : LineAt file (get_or cards k d).byte r) (is : r ≡ Some v) where
      here : (l : model.Line) → LineOn ps (card cards k).byte l → Shows v l
      here l on = read file ps (get_or cards k d).byte r v l passes.lined there is (subst (λ (c : Card). LineOn ps c.byte l) (sym (card_is cards k d low)) on)

      module _ (b : Bool) (may : Decides b (AllowedValue (get_or cards k d).state (value_of v.payload))) where
        may_stand : Decides b ((l : model.Line) → LineOn ps (card cards k).byte l → AllowedValue (card cards k).state l.value)
        may_stand =
            let by : (l : model.Line) → LineOn ps (card cards k).byte l → Decides b (AllowedValue (card cards k).state l.value) = λ l on. subst (λ x. Decides b (AllowedValue (card cards k).state x)) (here l on).value (subst (λ (c : Card). Decides b (AllowedValue c.state (value_of v.payload))) (card_is cards k d low) may) in
            let (l, on) = line_on ps (card cards k).byte (ons.lines k low) in
            (λ t l on. (by l on).0 t, λ f. (by l on).1 (f l on))

        pub not_allowed : b ≡ false → Fits ps cards → ⊥
        not_allowed e f = not_from_Decides b may_stand e (f.each k low).allowed

        module _ (t : Bool) (up : Follows before v t) (so : Fitting ps cards k before) where
          abbrev Last : Option Line → Type 0
          Last o = MatchOption o (k ≡ 0) (λ w. (j : ℕ) × (k ≡ j + 1) × ((l : model.Line) → LineOn ps (card cards j).byte l → Shows w l))

          -- what the line decides by the one before it
          followed : (o : Option Line) → Follows o v t → Last o → ((k ≡ 0) × Decides t ((l : model.Line) → LineOn ps (card cards 0).byte l → Top HEAD l)) ⊎ ((j : ℕ) × (k ≡ j + 1) × Decides t ((l m : model.Line) → LineOn ps (card cards j).byte l → LineOn ps (card cards (j + 1)).byte m → m.level ≤ l.level + 1))
          followed None u e = inl (
            e,
            (
              λ q l on. (u l (here l (subst (λ n. LineOn ps (card cards n).byte l) (sym e) on))).0 q,
              λ f. let (l, on) = line_on ps (card cards k).byte (ons.lines k low) in (u l (here l on)).1 (f l (subst (λ n. LineOn ps (card cards n).byte l) e on)),
            ),
          )
          followed (Some w) u (j, e, shows) = inr (
            j,
            e,
            (
              λ q l m on on'. (u m (here m (subst (λ n. LineOn ps (card cards n).byte m) (sym e) on')) l (shows l on) (shallow file ps (card cards j).byte l passes on)).0 q,
              λ f.
                  let (m, on') = line_on ps (card cards k).byte (ons.lines k low) in
                  let (l, on) = line_on ps (card cards j).byte (ons.lines j (omega arith)) in
                  (u m (here m on') l (shows l on) (shallow file ps (card cards j).byte l passes on)).1 (f l m on (subst (λ n. LineOn ps (card cards n).byte m) e on')),
            ),
          )

          pub not_followed : t ≡ false → Fits ps cards → ⊥
          not_followed e f = elim (followed before up so.last) [
            | inl (z, d) ↦ not_from_Decides t d e f.header
            | inr (j, z, d) ↦ not_from_Decides t d e ((f.each j (omega arith)).followed.step (omega arith))
          ]

          pub fitting_more : b ≡ true → t ≡ true → Fitting ps cards (k + 1) (Some v)
          fitting_more e g = record {
            last = (k, refl, here);
            header = λ _. elim (followed before up so.last) [
              | inl (z, d) ↦ d.0 g
              | inr (j, z, d) ↦ so.header (omega arith)
            ];
            allowed = λ j h. elim (cases_lt j k) [
              | inl q ↦ so.allowed j q
              | inr q ↦ subst (λ n. (l : model.Line) → LineOn ps (card cards n).byte l → AllowedValue (card cards n).state l.value) (let z : k ≡ j = omega arith in z) (may_stand.0 e)
            ];
            steps = λ j h. elim (cases_lt (j + 1) k) [
              | inl q ↦ so.steps j q
              | inr q ↦ elim (followed before up so.last) [
                | inl (z, d) ↦ absurd (omega arith)
                | inr (i, z, d) ↦ subst (λ n. (l m : model.Line) → LineOn ps (card cards n).byte l → LineOn ps (card cards (n + 1)).byte m → m.level ≤ l.level + 1) (let w : i ≡ j = omega arith in w) (d.0 g)
              ]
            ];
          }

  -- all of them
  pub fitted : (before : Option Line) (r : Bool) → Fitting ps cards (length cards) before → MatchOption before (r ≡ false) (λ v. (l : model.Line) → Shows v l → Decides r (Top TRLR l)) → Decides r (Fits ps cards)
  fitted None r so top = subst (λ b. Decides b (Fits ps cards)) (sym top) (never _ (λ f. let some = f.some in let none = so.last in omega arith))
  fitted (Some v) r so top =
      let (j, e, shows) = so.last in (
        λ t. record {
          some = omega arith;
          header = so.header (omega arith);
          each = λ k h. record {
            allowed = so.allowed k h;
            followed = record {
              step = λ q. so.steps k q;
              trailer = λ q l on. (top l (shows l (subst (λ n. LineOn ps (card cards n).byte l) (let w : k ≡ j = omega arith in w) on))).0 t;
            };
          };
        },
        λ f. let (l, on) = line_on ps (card cards j).byte (ons.lines j (omega arith)) in (top l (shows l on)).1 ((f.each j (omega arith)).followed.trailer (sym e) l on),
      )
