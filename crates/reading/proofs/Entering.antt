-- What a card of entered cards says of its entry. Assumes nothing.
use Rattle.std.proofs.Common.{◌≡◌, ℕ, zero, suc, ◌-◌, ◌<◌, ◌≤◌, List, [], ◌∷◌, length, get_or, Some, None, Option, sym, ap, ◌∙◌, subst, inl, inr, arith, length-append, Bor}
use Rattle.std.proofs.ByRecursion.{All-get_or}
use Rattle.std.proofs.lemmas.List.{get_or_at}
use Rattle.std.proofs.lemmas.Bool.{cases_lt}
use Rattle.model.proofs.Options.{never}
use Rattle.model.specs.declared.Card.{Card}
use Rattle.model.specs.Datasets.{none, text, pointer, Dataset, Entry, entries, entries_of, tops, entry, TRLR, identifiers, GoodPayload}
use Rattle.model.specs.Cards.{blank, Files, FilesAll}
use Rattle.model.specs.Edits.{no_entry}
use Rattle.model.specs.Files.{Placed}
use Rattle.model.specs.Tables.{plain}
use Rattle.model.proofs.Drawers.{files_long}
use Rattle.model.proofs.Turns.{dataset_sound, body_at, length_body}
use Rattle.naming.specs.Naming.{Name, FindsName}
use Rattle.judging.specs.Entries.{Targets}
use Rattle.reading.specs.Entered.{Enters}

files_at : (ps : List Placed) (cs : List Card) (es : List Entry) → FilesAll ps cs es → (i : ℕ) (c : Card) (e : Entry) → i < length es → Files ps (get_or cs i c) (get_or es i e)
files_at ps [] [] f i c e h = absurd (omega arith)
files_at ps [] (y ∷ es) f i c e h = elim f [ ]
files_at ps (x ∷ cs) [] f i c e h = elim f [ ]
files_at ps (x ∷ cs) (y ∷ es) f zero c e h = f.0
files_at ps (x ∷ cs) (y ∷ es) f (suc i) c e h = files_at ps cs es f.1 i c e (omega arith)

pointers : (x y : List ℕ) → pointer x ≡ pointer y → x ≡ y
pointers x y e = cc

module _ (file : List ℕ) (cards : List Card) (names : List Name) (b : List Entry) (s : Enters file cards names b) where
  abbrev d : Dataset
  d = s.0

  all_long : length cards ≡ length (entries d)
  all_long = files_long s.1.placed cards (entries d) s.1.files

  body_long : length b ≡ length (entries d) - 1
  body_long = ap length s.2 ∙ length_body (entries d)

  pub counted : length cards - 1 ≡ length b
  counted = let x = all_long in let y = body_long in omega arith

  module _ (i : ℕ) (h : i < length b) where
    entry_is : get_or (entries d) i no_entry ≡ get_or b i no_entry
    entry_is = let y = body_long in sym (ap (λ es. get_or es i no_entry) s.2 ∙ body_at (entries d) i (omega arith))

    -- the card files the entry
    pub filed : (c : Card) → Files s.1.placed (get_or cards i c) (get_or b i no_entry)
    filed c = let y = body_long in subst (Files s.1.placed (get_or cards i c)) entry_is (files_at s.1.placed cards (entries d) s.1.files i c no_entry (omega arith))

    pub filed_by : (c : Card) → c ≡ get_or cards i blank → Files s.1.placed c (get_or b i no_entry)
    filed_by c e = subst (λ x. Files s.1.placed x (get_or b i no_entry)) (sym e) (filed blank)

    pub shallow : (get_or b i no_entry).level ≤ 63
    shallow = subst (λ es. (i < length es) → (get_or es i no_entry).level ≤ 63) (sym s.2) (λ k. ((dataset_sound plain d s.1.is).levelled i k).1) h

    pub worded : (get_or b i no_entry).payload ≡ text [] [] → ⊥
    worded e =
        let y = body_long in
        let good = All-get_or (λ x. GoodPayload (identifiers (entries d)) x.payload) (entries d) i no_entry (omega arith) s.1.is.payloads in
        let bad : GoodPayload (identifiers (entries d)) (text [] []) = subst (GoodPayload (identifiers (entries d))) (ap (λ (x : Entry). x.payload) entry_is ∙ e) good in
        elim bad [ inl q ↦ absurd (omega arith) | inr q ↦ absurd (omega arith) ]

  -- the trailer has no identifier
  named_within : (k : ℕ) (x : List ℕ) → k < length (entries d) → (get_or (entries d) k no_entry).identifier ≡ Some x → k < length b
  named_within k x h e = elim (cases_lt k (length b)) [
    | inl q ↦ q
    | inr q ↦ (let y = body_long in
        let es = entries_of (tops d) in
        let long = length-append es (entry 0 None TRLR none ∷ []) in
        let last : length es ≡ k = omega arith in
        never x (ap (λ (t : Entry). t.identifier) (sym (get_or_at es (entry 0 None TRLR none) [] no_entry k last)) ∙ e))
  ]

  pub targets : (i : ℕ) → i < length b → (q : Bor (List ℕ)) (r : Option ℕ) → (get_or b i no_entry).payload ≡ pointer q.now → FindsName names q.now r → Targets b i r
  targets i h q None p f = λ j x n.
      let y = body_long in
      let same : q.now ≡ x = pointers q.now x (sym p ∙ n.points) in
      let k = n.within in
      let (a, low, is) = s.1.names_are.all j x (omega arith) (ap (λ (t : Entry). t.identifier) (entry_is j n.within) ∙ n.named) in
      f s.1.names_are.order a (q, 0) low (is (q, 0) ∙ sym same)
  targets i h q (Some k) p (a, low, is) =
      let (within, named) = All-get_or (λ (e : Name). (e.1 < length (entries d)) × ((get_or (entries d) e.1 no_entry).identifier ≡ Some e.0.now)) names a (q, 0) low s.1.names_are.each in
      let (at, card) = is (q, 0) in
      let there : k < length (entries d) = subst (λ n. n < length (entries d)) card within in
      let called : (get_or (entries d) k no_entry).identifier ≡ Some q.now = ap (λ n. (get_or (entries d) n no_entry).identifier) (sym card) ∙ named ∙ ap {B = Option (List ℕ)} Some at in
      let low' = named_within k q.now there called in
      (q.now, record { points = p; within = low'; named = ap (λ (t : Entry). t.identifier) (sym (entry_is k low')) ∙ called })
