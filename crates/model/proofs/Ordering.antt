-- The lines of a dataset keep the rules of the lines. Assumes nothing.
use Rattle.std.proofs.Common.{◌≡◌, ℕ, suc, ◌+◌, ◌<◌, List, [], ◌∷◌, ◌++◌, length, None, sym, refl, ap, ◌∙◌, subst, append_assoc, arith}
use Rattle.std.specs.List.{AllByRecursion, ContainsAt as Has}
use Rattle.std.proofs.ByRecursion.{All-append}
use Rattle.model.specs.Lines.{Line, line_of}
use Rattle.model.specs.Lines as line
use Rattle.model.specs.Datasets.{Payload, none, text, void, pointer, Dataset, HEAD, TRLR, CONT, Entry, entry, entries, text_value, first_value, further, continuations, entry_lines, all_lines, lines, identifiers, GoodPayload, OwnTag, IsDataset}
use Rattle.model.specs.Files.{IsPointer, Throughout, Ordered}
use Rattle.model.specs.Refusals.{Keeps12, Keeps13}
use Rattle.model.proofs.Names.{every_left, every_right}
use Rattle.model.proofs.Growing.{Stepping, Named, TopTag, entries_shaped}
use Rattle.model.proofs.Walking.{Follows, done, more, other, HEAD_line, TRLR_line, TopLine, NamedLine, Shallow, framed, Framed, framed_ordered}
use Rattle.model.proofs.Called.{called_lines, apart_kept, Aimed, aimed_kept}

-- Lines of entries

abbrev pub own_line : Entry → Line
own_line e = line_of e.level e.identifier e.tag (first_value e.payload)

pub all_lines_append : (es fs : List Entry) → all_lines (es ++ fs) ≡ all_lines es ++ all_lines fs
all_lines_append [] fs = refl
all_lines_append (e ∷ es) fs = ap (λ ls. entry_lines e ++ ls) (all_lines_append es fs) ∙ sym (append_assoc (entry_lines e) (all_lines es) (all_lines fs))

abbrev pub cont_line : ℕ → List ℕ → Line
cont_line level t = line_of level None CONT (text_value t)

module _ (P : Line → Type 0) where
  every_continuation : (level : ℕ) → ((t : List ℕ) → P (cont_line level t)) → (ts : List (List ℕ)) → AllByRecursion P (continuations level ts)
  every_continuation level h [] = tt
  every_continuation level h (t ∷ ts) = (h t, every_continuation level h ts)

  pub every_line : (es : List Entry) → ((level : ℕ) (t : List ℕ) → P (cont_line (level + 1) t)) → AllByRecursion (λ e. P (own_line e)) es → AllByRecursion P (all_lines es)
  every_line [] h k = tt
  every_line (e ∷ es) h k = (k.0, All-append P (continuations (e.level + 1) (further e.payload)) (all_lines es) (every_continuation (e.level + 1) (h e.level) (further e.payload)) (every_line es h k.1))

  pub every_own : (es : List Entry) → AllByRecursion P (all_lines es) → AllByRecursion (λ e. P (own_line e)) es
  every_own [] h = tt
  every_own (e ∷ es) h = (h.0, every_own es (every_right P (continuations (e.level + 1) (further e.payload)) (all_lines es) h.1))

text_no_pointer : (t : List ℕ) → IsPointer (text_value t) → ⊥
text_no_pointer [] p = p
text_no_pointer (c ∷ cs) p = p

further_text : (p : Payload) → 0 < length (further p) → IsPointer (first_value p) → ⊥
further_text none h p = p
further_text (text t ts) h p = text_no_pointer t p
further_text void h p = omega arith
further_text (pointer i) h p = omega arith

continues : (j n : ℕ) (o : Line) (ts : List (List ℕ)) (u : List Line) → 0 < j → j < n → (0 < length ts → IsPointer o.value → ⊥) → ((m : ℕ) → j < m → Follows j o m u) → Follows j o n (continuations (o.level + 1) ts ++ u)
continues j n o [] u p q plain after = after n q
continues j n o (t ∷ ts) u p q plain after = more refl refl p (plain (omega arith)) (text_no_pointer t) (continues j (suc n) o ts u p (omega arith) (λ h. plain (omega arith)) after)

lines_follow : (es : List Entry) (j n : ℕ) (o : Line) → 0 < n → Stepping o.level es → AllByRecursion OwnTag es → Follows j o n (all_lines es)
lines_follow [] j n o p s t = done
lines_follow (e ∷ es) j n o p s t = other t.0.no_continuation t.0.no_joint s.0 (continues n (suc n) (own_line e) (further e.payload) (all_lines es) p (omega arith) (further_text e.payload) (λ m h. lines_follow es n m (own_line e) (omega arith) s.1 t.1))

pub entries_framed : (es : List Entry) → Stepping 0 es → Named es → AllByRecursion TopTag es → AllByRecursion OwnTag es → AllByRecursion Shallow (all_lines es) → Framed (all_lines es)
entries_framed es s n t o h = record {
  follows = lines_follow es 0 1 HEAD_line (omega arith) s o;
  tops = every_line TopLine es (λ level x. record { no_header = λ e k. omega arith; no_trailer = λ e k. omega arith }) (tops_of es t);
  named = every_line NamedLine es (λ level x p. refl) n;
  levels = h;
}
  where
    tops_of : (es : List Entry) → AllByRecursion TopTag es → AllByRecursion (λ e. TopLine (own_line e)) es
    tops_of [] t = tt
    tops_of (e ∷ es) t = (record { no_header = t.0.no_header; no_trailer = t.0.no_trailer }, tops_of es t.1)

-- Datasets

pub framed_lines : (es : List Entry) → all_lines (entry 0 None HEAD none ∷ es ++ entry 0 None TRLR none ∷ []) ≡ framed (all_lines es)
framed_lines es = ap (λ ls. HEAD_line ∷ ls) (all_lines_append es (entry 0 None TRLR none ∷ []))

pub dataset_framed : (d : Dataset) → IsDataset d → (mid : List Entry) × (lines d ≡ framed (all_lines mid)) × Framed (all_lines mid)
dataset_framed d is =
    let s = entries_shaped d is.records_tagged in
    let are : lines d ≡ framed (all_lines s.middle) = ap all_lines s.are ∙ framed_lines s.middle in
    let tagged : AllByRecursion OwnTag (entry 0 None HEAD none ∷ s.middle ++ entry 0 None TRLR none ∷ []) = subst (AllByRecursion OwnTag) s.are is.tagged in
    let levels : AllByRecursion Shallow (framed (all_lines s.middle)) = subst (AllByRecursion Shallow) are is.shallow in
    (s.middle, are, entries_framed s.middle s.stepping s.named s.tagged (every_left OwnTag s.middle (entry 0 None TRLR none ∷ []) tagged.1) (every_left Shallow (all_lines s.middle) (TRLR_line ∷ []) levels.1))

text_not_aimed : (t x : List ℕ) → text_value t ≡ line.pointer x → ⊥
text_not_aimed [] x e = let z : ◌≡◌ {A = ℕ} 0 1 = cc in omega arith
text_not_aimed (c ∷ cs) x e = let z : ◌≡◌ {A = ℕ} 0 1 = cc in omega arith

payload_aimed : (is : List (List ℕ)) (p : Payload) → GoodPayload is p → (x : List ℕ) → first_value p ≡ line.pointer x → Has is x
payload_aimed is none g x e = absurd (text_not_aimed [] x e)
payload_aimed is (text t ts) g x e = absurd (text_not_aimed t x e)
payload_aimed is void g x e = absurd (let z : ◌≡◌ {A = ℕ} 0 1 = cc in omega arith)
payload_aimed is (pointer i) g x e = let same : i ≡ x = cc in subst (Has is) same g

entries_aimed : (is : List (List ℕ)) (es : List Entry) → AllByRecursion (λ e. GoodPayload is e.payload) es → AllByRecursion (λ e. Aimed is (own_line e)) es
entries_aimed is [] g = tt
entries_aimed is (e ∷ es) g = (payload_aimed is e.payload g.0, entries_aimed is es g.1)

pub dataset_ordered : (d : Dataset) → IsDataset d → Ordered (lines d) × Throughout Keeps12 (lines d) × Throughout Keeps13 (lines d)
dataset_ordered d is =
    let f = dataset_framed d is in
    let names = called_lines (entries d) in
    let aimed : AllByRecursion (Aimed (identifiers (entries d))) (lines d) = every_line (Aimed (identifiers (entries d))) (entries d) (λ level t x e. absurd (text_not_aimed t x e)) (entries_aimed (identifiers (entries d)) (entries d) is.payloads) in (
      subst Ordered (sym f.1) (framed_ordered (all_lines f.0) f.2),
      apart_kept (lines d) (subst (λ is. Rattle.model.specs.Datasets.Apart is) (sym names) is.apart),
      aimed_kept (lines d) (subst (λ is. AllByRecursion (Aimed is) (lines d)) (sym names) aimed),
    )
