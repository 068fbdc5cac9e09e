-- The entries whose lines a file has, where its lines keep the rules 1 to 10. Assumes nothing.
use Rattle.std.proofs.Common.{◌≡◌, ℕ, zero, suc, ◌+◌, ◌<◌, List, [], ◌∷◌, ◌++◌, length, None, sym, refl, ap, ◌∙◌, subst, arith}
use Rattle.std.specs.List.{AllByRecursion}
use Rattle.std.proofs.ByRecursion.{All-append}
use Rattle.std.proofs.lemmas.List.{nil_from_length}
use Rattle.model.specs.Lines.{Line, Value, GoodValue, GoodLine, line_of}
use Rattle.model.specs.Lines as line
use Rattle.model.specs.Datasets.{Payload, none, text, void, pointer, HEAD, TRLR, CONT, Entry, entry, text_value, first_value, further, continuations, all_lines, OwnTag}
use Rattle.model.specs.Files.{IsPointer, Ordered}
use Rattle.model.proofs.Names.{every_left}
use Rattle.model.proofs.Entries.{Settled}
use Rattle.model.proofs.Growing.{Stepping, TopTag, Shaped}
use Rattle.model.proofs.Walking.{Follows, done, more, other, HEAD_line, TRLR_line, TopLine, NamedLine, framed, Framed, framed_of, head_not_cont, head_not_conc, trlr_not_cont, trlr_not_conc}
use Rattle.model.proofs.Ordering.{own_line, every_own, framed_lines}

-- A line and its further texts

abbrev payload_of : Value → List (List ℕ) → Payload
payload_of line.nothing [] = none
payload_of line.nothing (t ∷ ts) = text [] (t ∷ ts)
payload_of line.void ts = void
payload_of (line.pointer i) ts = pointer i
payload_of (line.text t) ts = text t ts

first_of : (v : Value) (ts : List (List ℕ)) → GoodValue v → first_value (payload_of v ts) ≡ v
first_of line.nothing [] g = refl
first_of line.nothing (t ∷ ts) g = refl
first_of line.void ts g = refl
first_of (line.pointer i) ts g = refl
first_of (line.text []) ts g = absurd (let h = g.1 in omega arith)
first_of (line.text (c ∷ cs)) ts g = refl

further_of : (v : Value) (ts : List (List ℕ)) → (0 < length ts → IsPointer v → ⊥) → further (payload_of v ts) ≡ ts
further_of line.nothing [] h = refl
further_of line.nothing (t ∷ ts) h = refl
further_of line.void [] h = refl
further_of line.void (t ∷ ts) h = absurd (h (omega arith) tt)
further_of (line.pointer i) [] h = refl
further_of (line.pointer i) (t ∷ ts) h = absurd (h (omega arith) tt)
further_of (line.text t) ts h = refl

settled_of : (v : Value) (ts : List (List ℕ)) → GoodValue v → Settled (payload_of v ts)
settled_of line.nothing [] g e = let z : ◌≡◌ {A = ℕ} 0 1 = cc in omega arith
settled_of line.nothing (t ∷ ts) g e = let same : t ∷ ts ≡ [] = cc in omega (arith, ap length same)
settled_of line.void ts g e = let z : ◌≡◌ {A = ℕ} 0 1 = cc in omega arith
settled_of (line.pointer i) ts g e = let z : ◌≡◌ {A = ℕ} 0 1 = cc in omega arith
settled_of (line.text t) ts g e = let same : t ≡ [] = cc in let h = g.1 in omega (arith, ap length same)

abbrev text_of : Value → List ℕ
text_of line.nothing = []
text_of line.void = []
text_of (line.pointer i) = []
text_of (line.text t) = t

text_there : (v : Value) → GoodValue v → (IsPointer v → ⊥) → v ≡ text_value (text_of v)
text_there line.nothing g h = refl
text_there line.void g h = absurd (h tt)
text_there (line.pointer i) g h = absurd (h tt)
text_there (line.text []) g h = absurd (let k = g.1 in omega arith)
text_there (line.text (c ∷ cs)) g h = refl

-- Groups: what continues the line before, then the entries

record Grouped (j : ℕ) (o : Line) (ls : List Line) : Type 0 where
  texts : List (List ℕ)
  es : List Entry
  are : ls ≡ continuations (o.level + 1) texts ++ all_lines es
  later : 0 < length texts → 0 < j
  plain : 0 < length texts → IsPointer o.value → ⊥
  stepping : Stepping o.level es
  own : AllByRecursion OwnTag es
  settled : AllByRecursion (λ e. Settled e.payload) es

continuing : (k : ℕ) (l : Line) → l.tag ≡ CONT → l.level ≡ k + 1 → (IsPointer l.value → ⊥) → GoodLine l → NamedLine l → l ≡ line_of (k + 1) None CONT (text_value (text_of l.value))
continuing k l t h p g n = let unnamed = n (omega arith) in let value = text_there l.value g.valued p in λ i. record { level = h i; identifier = unnamed i; tag = t i; value = value i }

group : (j : ℕ) (o : Line) (n : ℕ) (ls : List Line) → AllByRecursion GoodLine ls → AllByRecursion NamedLine ls → Follows j o n ls → Grouped j o ls
group j o n [] g h done = record { texts = []; es = []; are = refl; later = λ p. absurd (omega arith); plain = λ p q. omega arith; stepping = tt; own = tt; settled = tt }
group j o n (l ∷ ls) g h (more tag level late before here w) =
    let r = group j o (suc n) ls g.1 h.1 w in
    let first = continuing o.level l tag level here g.0 h.0 in
    record { texts = text_of l.value ∷ r.texts; es = r.es; are = λ i. first i ∷ r.are i; later = λ p. late; plain = λ p. before; stepping = r.stepping; own = r.own; settled = r.settled }
group j o n (l ∷ ls) g h (other tag joint level w) =
    let r = group n l (suc n) ls g.1 h.1 w in
    let value = first_of l.value r.texts g.0.valued in
    let after = further_of l.value r.texts r.plain in
    let rest : ls ≡ continuations (l.level + 1) (further (payload_of l.value r.texts)) ++ all_lines r.es = r.are ∙ ap (λ ts. continuations (l.level + 1) ts ++ all_lines r.es) (sym after) in
    record { texts = []; es = entry l.level l.identifier l.tag (payload_of l.value r.texts) ∷ r.es; are = λ i. record { level = l.level; identifier = l.identifier; tag = l.tag; value = sym value i } ∷ rest i; later = λ p. absurd (omega arith); plain = λ p q. omega arith; stepping = (level, r.stepping); own = (record { no_continuation = tag; no_joint = joint }, r.own); settled = (settled_of l.value r.texts g.0.valued, r.settled) }

top_tags : (es : List Entry) → AllByRecursion (λ e. TopLine (own_line e)) es → AllByRecursion TopTag es
top_tags [] t = tt
top_tags (e ∷ es) t = (record { no_header = t.0.no_header; no_trailer = t.0.no_trailer }, top_tags es t.1)

abbrev pub Grown : List Line → Type 0
Grown ls = (es : List Entry) × (all_lines es ≡ ls) × Shaped es × AllByRecursion OwnTag es × AllByRecursion (λ e. Settled e.payload) es

framed_grown : (mid : List Line) → Framed mid → AllByRecursion GoodLine (framed mid) → Grown (framed mid)
framed_grown mid f g =
    let r = group 0 HEAD_line 1 mid (every_left GoodLine mid (TRLR_line ∷ []) g.1) f.named f.follows in
    let no_texts : r.texts ≡ [] = nil_from_length r.texts (none_there (length r.texts) r.later) in
    let are : mid ≡ all_lines r.es = r.are ∙ ap (λ ts. continuations 1 ts ++ all_lines r.es) no_texts in
    let tops = every_own TopLine r.es (subst (AllByRecursion TopLine) are f.tops) in
    let named = every_own NamedLine r.es (subst (AllByRecursion NamedLine) are f.named) in (
      entry 0 None HEAD none ∷ r.es ++ entry 0 None TRLR none ∷ [],
      framed_lines r.es ∙ ap framed (sym are),
      record { middle = r.es; are = refl; stepping = r.stepping; named = named; tagged = top_tags r.es tops },
      (record { no_continuation = head_not_cont; no_joint = head_not_conc }, All-append OwnTag r.es (entry 0 None TRLR none ∷ []) r.own (record { no_continuation = trlr_not_cont; no_joint = trlr_not_conc }, tt)),
      (λ e. let z : ◌≡◌ {A = ℕ} 0 1 = cc in omega arith, All-append (λ e. Settled e.payload) r.es (entry 0 None TRLR none ∷ []) r.settled (λ e. let z : ◌≡◌ {A = ℕ} 0 1 = cc in omega arith, tt)),
    )
  where
    none_there : (n : ℕ) → (0 < n → ◌<◌ 0 0) → n ≡ 0
    none_there zero h = refl
    none_there (suc n) h = absurd (let k : 0 < 0 = h (omega arith) in omega arith)

pub ordered_grown : (ls : List Line) → AllByRecursion GoodLine ls → Ordered ls → Grown ls
ordered_grown ls g o =
    let f = framed_of ls o in
    subst Grown (sym f.1) (framed_grown f.0 f.2 (subst (AllByRecursion GoodLine) f.1 g))
