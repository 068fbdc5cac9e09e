-- What a drawer's cards say of what it holds, and what a removal does. Assumes nothing.
use Rattle.std.proofs.Common.{◌≡◌, ℕ, suc, ◌+◌, ◌-◌, ◌<◌, ◌≤◌, Bool, false, ◌||◌, eqb, leb, ◌⊎◌, List, [], ◌∷◌, ◌++◌, length, Some, None, Option, sym, refl, ap, ◌∙◌, subst, inl, inr, arith}
use Rattle.std.proofs.lemmas.Bool.{cases_Bool, cond-true, cond-false, or_parts, eqb-false, leb-false}
use Rattle.model.specs.declared.Card.{Card}
use Rattle.model.specs.Datasets.{Dataset, IsDataset, Entry, entries}
use Rattle.model.specs.Files.{Placed}
use Rattle.model.specs.Cards.{blank, Blanks, Allowed, Files, FilesAll, Holds}
use Rattle.model.specs.Books.{Meaning, Lawful}
use Rattle.model.specs.Rules.{Belongs}
use Rattle.model.specs.Removal.{removed, card_count}
use Rattle.model.specs.Laws.{BelongsKept}
use Rattle.model.specs.Runs.{Reply, refused, number, after_removal, remove_reply}

no_blank_files : (ps : List Placed) (c : Card) (e : Entry) → c ≡ blank → Files ps c e → ⊥
no_blank_files ps c e b f = subst (λ s. Allowed s f.filed) (ap {A = Card} (λ x. x.state) b) f.allowed

no_blanks_file : (ps : List Placed) (cs rest : List Card) (e : Entry) (es : List Entry) → Blanks (cs ++ rest) → FilesAll ps cs (e ∷ es) → ⊥
no_blanks_file ps [] rest e es b f = f
no_blanks_file ps (c ∷ cs) rest e es b f = no_blank_files ps c e b.0 f.0

-- a blank drawer holds nothing
pub blanks_unheld : (file : List ℕ) (cards : List Card) → Blanks cards → (d : Dataset) → Holds file cards d → ⊥
blanks_unheld file cards b d h = no_blanks_file h.placed h.named h.blanks _ _ (subst Blanks h.are b) h.files

pub files_long : (ps : List Placed) (cs : List Card) (es : List Entry) → FilesAll ps cs es → length cs ≡ length es
files_long ps [] [] f = refl
files_long ps [] (e ∷ es) f = absurd f
files_long ps (c ∷ cs) [] f = absurd f
files_long ps (c ∷ cs) (e ∷ es) f = ap suc (files_long ps cs es f.1)

pub held_few : (file : List ℕ) (cards : List Card) (d : Dataset) → Holds file cards d → card_count d ≤ 65535
held_few file cards d h = omega (arith, files_long h.placed h.named (entries d) h.files, h.few)

-- A removal

abbrev pub out_of_range : Dataset → ℕ → Bool
out_of_range d k = eqb k 0 || leb (card_count d) (k + 1)

-- it is not granted, and leaves the dataset
pub record Idle (m : Meaning) (d : Dataset) (k : ℕ) : Type 0 where
  pub after_same : after_removal m d k ≡ d
  pub not_granted : (n : ℕ) → remove_reply m d k ≡ number n → ⊥

-- it is granted, and leaves what is removed of it
pub record Granted (m : Meaning) (d : Dataset) (k : ℕ) : Type 0 where
  pub remains : Dataset
  pub some : 1 ≤ k
  pub inside : k + 1 < card_count d
  pub is_removed : removed m d k ≡ Some remains
  pub after_is : after_removal m d k ≡ remains
  pub answers : remove_reply m d k ≡ number (card_count d - card_count remains)

refused_not_number : (x : Reply) (i n : ℕ) → x ≡ refused i → x ≡ number n → ⊥
refused_not_number x i n p q = let z : ◌≡◌ {A = ℕ} 0 1 = cc in omega arith

in_range_cases : (m : Meaning) (d : Dataset) (k : ℕ) → out_of_range d k ≡ false → (o : Option Dataset) → removed m d k ≡ o → Idle m d k ⊎ Granted m d k
in_range_cases m d k f None q =
    inl (record {
      after_same = cond-false (out_of_range d k) d (elim (removed m d k) [ None ↦ d | Some e ↦ e ]) f ∙ ap (λ o. elim o as (λ v. Dataset) [ None ↦ d | Some e ↦ e ]) q;
      not_granted = λ n. refused_not_number (remove_reply m d k) 23 n (cond-false (out_of_range d k) (refused 22) (elim (removed m d k) [ None ↦ refused 23 | Some e ↦ number (card_count d - card_count e) ]) f ∙ ap (λ o. elim o as (λ v. Reply) [ None ↦ refused 23 | Some e ↦ number (card_count d - card_count e) ]) q);
    })
in_range_cases m d k f (Some x) q =
    let parts = or_parts (eqb k 0) (leb (card_count d) (k + 1)) f in
    let apart : k ≡ 0 → ⊥ = eqb-false k 0 parts.0 in
    inr (record {
      remains = x;
      some = omega arith;
      inside = leb-false (card_count d) (k + 1) parts.1;
      is_removed = q;
      after_is = cond-false (out_of_range d k) d (elim (removed m d k) [ None ↦ d | Some e ↦ e ]) f ∙ ap (λ o. elim o as (λ v. Dataset) [ None ↦ d | Some e ↦ e ]) q;
      answers = cond-false (out_of_range d k) (refused 22) (elim (removed m d k) [ None ↦ refused 23 | Some e ↦ number (card_count d - card_count e) ]) f ∙ ap (λ o. elim o as (λ v. Reply) [ None ↦ refused 23 | Some e ↦ number (card_count d - card_count e) ]) q;
    })

pub removal_cases : (m : Meaning) (d : Dataset) (k : ℕ) → Idle m d k ⊎ Granted m d k
removal_cases m d k =
    elim (cases_Bool (out_of_range d k)) [
      | inl t ↦ inl (record {
        after_same = cond-true (out_of_range d k) d (elim (removed m d k) [ None ↦ d | Some e ↦ e ]) t;
        not_granted = λ n. refused_not_number (remove_reply m d k) 22 n (cond-true (out_of_range d k) (refused 22) (elim (removed m d k) [ None ↦ refused 23 | Some e ↦ number (card_count d - card_count e) ]) t);
      })
      | inr f ↦ in_range_cases m d k f (removed m d k) refl
    ]

pub after_belongs : BelongsKept → (m : Meaning) → Lawful m → (d : Dataset) (k : ℕ) → IsDataset d → Belongs m d → Belongs m (after_removal m d k)
after_belongs kept m lawful d k is b =
    elim (removal_cases m d k) [
      | inl i ↦ subst (Belongs m) (sym i.after_same) b
      | inr g ↦ subst (Belongs m) (sym g.after_is) (kept m lawful d g.remains k is b g.some g.inside g.is_removed)
    ]
