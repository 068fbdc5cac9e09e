-- The written form of a card by its state. Assumes nothing.
use Rattle.std.proofs.Common.{◌≡◌, ℕ, ◌+◌, Bool, true, false, cond, eqb, List, [], ◌∷◌, ◌++◌, length, get_or, None, sym, refl, ap, ◌∙◌, subst, append_assoc, append-nil, arith, length-append}
use Rattle.model.specs.declared.Card.{Card}
use Rattle.model.specs.declared.State.{State}
use Rattle.model.specs.declared.State.TheVariants.{Filed, Voided, Emptied, Blank}
use Rattle.model.specs.Lines.{Line, VOID, line_of, spell, escaped}
use Rattle.model.specs.Datasets.{CONT, text_value, continuations, entry, Entry, with_line_feeds}
use Rattle.model.specs.Cards.{after, Allowed}
use Rattle.looking.specs.Looking.{Shown}
use Rattle.writing.specs.Written.{card_bytes, head_of}
use Rattle.writing.specs.Own.{own_line, NextOf}

-- The line of an entry as it was filed

abbrev pub filed_entry : (file : List ℕ) (c : Card) (e : Entry) → Shown file c e → Entry
filed_entry file c e s = entry e.level e.identifier e.tag s.files.filed

pub filed_bytes : (file : List ℕ) (c : Card) (e : Entry) (s : Shown file c e) → c.state ≡ Filed → card_bytes e ≡ card_bytes (filed_entry file c e s)
filed_bytes file c e s is = ap (λ p. card_bytes (entry e.level e.identifier e.tag p)) (s.files.shows ∙ ap (λ (x : State). after x s.files.filed) is)

pub voided_bytes : (file : List ℕ) (c : Card) (e : Entry) (s : Shown file c e) → c.state ≡ Voided → card_bytes e ≡ head_of (own_line (filed_entry file c e s)) ++ (32 ∷ VOID ++ 10 ∷ [])
voided_bytes file c e s is = ap (λ p. card_bytes (entry e.level e.identifier e.tag p)) (s.files.shows ∙ ap (λ (x : State). after x s.files.filed) is) ∙ append_assoc (head_of (own_line e)) (32 ∷ VOID) (10 ∷ [])

pub emptied_bytes : (file : List ℕ) (c : Card) (e : Entry) (s : Shown file c e) → c.state ≡ Emptied → card_bytes e ≡ head_of (own_line (filed_entry file c e s)) ++ 10 ∷ []
emptied_bytes file c e s is = ap (λ p. card_bytes (entry e.level e.identifier e.tag p)) (s.files.shows ∙ ap (λ (x : State). after x s.files.filed) is) ∙ ap (λ x. x ++ 10 ∷ []) (append-nil (head_of (own_line e)))

pub never_blank : (file : List ℕ) (c : Card) (e : Entry) → Shown file c e → c.state ≡ Blank → ⊥
never_blank file c e s is = subst (λ x. Allowed x s.files.filed) is s.files.allowed

pub voided_long : (file : List ℕ) (c : Card) (e : Entry) (s : Shown file c e) → c.state ≡ Voided → length (card_bytes e) ≡ length (head_of (own_line (filed_entry file c e s))) + 8
voided_long file c e s is = ap length (voided_bytes file c e s is) ∙ length-append (head_of (own_line (filed_entry file c e s))) (32 ∷ VOID ++ 10 ∷ [])

pub emptied_long : (file : List ℕ) (c : Card) (e : Entry) (s : Shown file c e) → c.state ≡ Emptied → length (card_bytes e) ≡ length (head_of (own_line (filed_entry file c e s))) + 1
emptied_long file c e s is = ap length (emptied_bytes file c e s is) ∙ length-append (head_of (own_line (filed_entry file c e s))) (10 ∷ [])

-- A line without its payload

pub long_escaped : (t : List ℕ) → length (escaped t) ≡ cond (eqb (get_or t 0 0) 64) 1 0 + length t
long_escaped [] = refl
long_escaped (x ∷ xs) = go (eqb x 64)
  where
    go : (b : Bool) → length (cond b (64 ∷ x ∷ xs) (x ∷ xs)) ≡ cond b 1 0 + length (x ∷ xs)
    go true = omega arith
    go false = omega arith

-- Its lines

pub feeds_more : (l : Line) (ls : List Line) → (spell l ++ 10 ∷ []) ++ with_line_feeds ls ≡ with_line_feeds (l ∷ ls)
feeds_more l ls = append_assoc (spell l) (10 ∷ []) (with_line_feeds ls)

pub feeds_long : (l : Line) (ls : List Line) → length (with_line_feeds (l ∷ ls)) ≡ length (spell l) + 1 + length (with_line_feeds ls)
feeds_long l ls = omega (arith, length-append (spell l) (10 ∷ with_line_feeds ls))

-- The CONT lines

module _ (file : List ℕ) (next level : ℕ) (more : List (List ℕ)) (bytes : List ℕ) (n : NextOf file next level more bytes) where
  pub sized_more : (size total : ℕ) → size + length (with_line_feeds (continuations level more)) ≡ total → size + (length bytes + 1) + length (with_line_feeds (continuations level n.more)) ≡ total
  sized_more size total e =
      let l = line_of level None CONT (text_value n.text) in
      let are : length (with_line_feeds (continuations level more)) ≡ length (with_line_feeds (l ∷ continuations level n.more)) = ap (λ ts. length (with_line_feeds (continuations level ts))) n.are in
      let long = ap length n.spelled in
      omega (arith, feeds_long l (continuations level n.more))

  pub put_more : (done whole : List ℕ) → done ++ with_line_feeds (continuations level more) ≡ whole → (done ++ (bytes ++ 10 ∷ [])) ++ with_line_feeds (continuations level n.more) ≡ whole
  put_more done whole e =
      let l = line_of level None CONT (text_value n.text) in
      append_assoc done (bytes ++ 10 ∷ []) (with_line_feeds (continuations level n.more)) ∙ ap (λ x. done ++ ((x ++ 10 ∷ []) ++ with_line_feeds (continuations level n.more))) n.spelled
      ∙ ap (λ x. done ++ x) (feeds_more l (continuations level n.more)) ∙ ap (λ ts. done ++ with_line_feeds (continuations level ts)) (sym n.are) ∙ e
