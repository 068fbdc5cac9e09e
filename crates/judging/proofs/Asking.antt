-- The rules asked one after another. Assumes nothing.
use Rattle.std.proofs.Common.{◌≡◌, ℕ, ◌+◌, ◌≤◌, cond, eqb, List, length, Some, None, Option, sym, refl, ap, ◌∙◌, subst, inl, inr, arith}
use Rattle.std.specs.Option.{option_map}
use Rattle.std.proofs.lemmas.Bool.{cases_eq}
use Rattle.model.specs.Books.{Meaning}
use Rattle.model.specs.Datasets.{Entry}
use Rattle.model.specs.Refusals.{BookRule, known, taken, aimed_right, single, needed, filled, book_rule_number, First}
use Rattle.model.specs.Positions.{KeepsAt, FirstOf, NeedsOf, TopAt, AllKeep, BrokenAt}
use Rattle.model.proofs.Options.{never}
use Rattle.judging.specs.declared.finding.Finding.{Finding}
use Rattle.judging.specs.declared.finding.Rule.{Rule}
use Rattle.judging.specs.declared.finding.Rule.TheVariants.{Known, Taken, Aimed, Single, Needed, Filled}
use Rattle.judging.specs.Findings.{rule_number, missing_type, Judged, Asked}

-- a rule is told by its number

rule_at : ℕ → BookRule
rule_at n = cond (eqb n 14) known (cond (eqb n 15) taken (cond (eqb n 16) aimed_right (cond (eqb n 17) single (cond (eqb n 18) needed filled))))

rule_read : (r : BookRule) → rule_at (book_rule_number r) ≡ r
unfolding rule_at
rule_read known = refl
rule_read taken = refl
rule_read aimed_right = refl
rule_read single = refl
rule_read needed = refl
rule_read filled = refl

one_rule : (r s : BookRule) → book_rule_number r ≡ book_rule_number s → r ≡ s
one_rule r s e = sym (rule_read r) ∙ ap rule_at e ∙ rule_read s

last_rule : (r : BookRule) → book_rule_number r ≤ 19
last_rule known = omega arith
last_rule taken = omega arith
last_rule aimed_right = omega arith
last_rule single = omega arith
last_rule needed = omega arith
last_rule filled = omega arith

-- one that tells no missing type is not that of the needs
unlike : (rule : Rule) (asked : BookRule) → rule_number rule ≡ book_rule_number asked → missing_type rule ≡ None → book_rule_number asked ≡ 18 → ⊥
unlike Known asked e missing f = omega arith
unlike Taken asked e missing f = omega arith
unlike Aimed asked e missing f = omega arith
unlike Single asked e missing f = omega arith
unlike (Needed t) asked e missing f = never t (sym missing)
unlike Filled asked e missing f = omega arith

module _ (m : Meaning) (b : List Entry) where
  -- the rules up to number n hold throughout
  abbrev pub Upto : ℕ → Type 0
  Upto n = (r : BookRule) → book_rule_number r ≤ n → TopAt m b r × AllKeep m b r

  pub upto_known : AllKeep m b known → Upto 14
  upto_known k known h = (tt, k)
  upto_known k taken h = absurd (omega arith)
  upto_known k aimed_right h = absurd (omega arith)
  upto_known k single h = absurd (omega arith)
  upto_known k needed h = absurd (omega arith)
  upto_known k filled h = absurd (omega arith)

  pub upto_next : (n : ℕ) (rule : BookRule) → book_rule_number rule ≡ n + 1 → Upto n → Asked m b rule None → Upto (n + 1)
  upto_next n rule e all kept r h = elim (cases_eq (book_rule_number r) (n + 1)) [
    | inl same ↦ subst (λ s. TopAt m b s × AllKeep m b s) (one_rule rule r (e ∙ sym same)) kept
    | inr other ↦ all r (let ne : book_rule_number r ≡ n + 1 → ⊥ = other in omega arith)
  ]

  -- the next is the last that is asked
  pub judged : (n : ℕ) (rule : BookRule) → book_rule_number rule ≡ n + 1 → Upto n → (f : Finding) → Asked m b rule (Some f) → (o : Option Finding) → o ≡ Some f → Judged m b o
  judged n rule e all f (number, broken) o is = subst (Judged m b) (sym is) (record { rule = rule; numbered = number; finds = record { earlier = λ r h. all r (omega arith); broken = broken } })

  pub judged_last : Upto 18 → (o : Option Finding) → Asked m b filled o → Judged m b o
  judged_last all None kept = let each = upto_next 18 filled refl all kept in record { all = λ r. (each r (last_rule r)).1; top = (all needed (omega arith)).0 }
  judged_last all (Some f) broken = judged 18 filled refl all f broken (Some f) refl

  -- a rule that asks of one card at a time

  alone : (rule : BookRule) → (book_rule_number rule ≡ 18 → ⊥) → TopAt m b rule × ((i : ℕ) (o : Option ℕ) → First (KeepsAt m b rule) (length b) i → o ≡ None → BrokenAt m b rule i o)
  alone known n = (tt, λ i o f e. (f, e))
  alone taken n = (tt, λ i o f e. (f, e))
  alone aimed_right n = (tt, λ i o f e. (f, e))
  alone single n = (tt, λ i o f e. (f, e))
  alone needed n = absurd (n refl)
  alone filled n = (tt, λ i o f e. (f, e))

  pub asked_first : (rule : Rule) (asked : BookRule) → rule_number rule ≡ book_rule_number asked → missing_type rule ≡ None → (o : Option ℕ) → FirstOf (KeepsAt m b asked) (length b) o → Asked m b asked (option_map (λ i. record { rule = rule; card = i }) o)
  asked_first rule asked e missing None all = ((alone asked (unlike rule asked e missing)).0, all)
  asked_first rule asked e missing (Some i) first = (e, (alone asked (unlike rule asked e missing)).1 i (missing_type rule) first missing)

  -- the needs
  pub asked_needs : (o : Option (ℕ × ℕ)) → NeedsOf m b o → Asked m b needed (option_map (λ p. record { rule = Needed p.1; card = p.0 }) o)
  asked_needs None needs = needs
  asked_needs (Some p) needs = (refl, (p.1, refl, needs))
