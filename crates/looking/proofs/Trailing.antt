-- The further lines of an entry's text, one after the other. Assumes nothing.
use Rattle.std.proofs.Common.{◌≡◌, ℕ, ◌+◌, Bool, true, false, List, [], ◌∷◌, ◌++◌, length, Decides, sym, refl, ap, ◌∙◌, subst, true≢false, append_assoc, arith}
use mathlib.Core.List.{head-eq_of_cons-eq, tail-eq_of_cons-eq}
use Rattle.model.specs.Lines.{Line}
use Rattle.model.specs.Lines as model
use Rattle.model.specs.Datasets.{CONT, text_value, first_value, further, continuations, Entry}
use Rattle.model.specs.Files.{Placed, at}
use Rattle.model.specs.Cards.{StandsAt}
use Rattle.model.specs.Refusals.{lines_of, byte_at}
use Rattle.model.proofs.Parts.{not_nil}
use Rattle.lines.specs.declared.line.Payload as line
use Rattle.lines.specs.declared.line.Payload.TheVariants as payload
use Rattle.lines.specs.Shown.{value_of}
use Rattle.looking.specs.Looking.{text_in, BeginsOn}
use Rattle.looking.proofs.Placing.{byte_there, line_there}
use Rattle.looking.proofs.Left.{Cut}

-- the own line of an entry, with its continuations behind it
pub record Whole (ps : List Placed) (b : ℕ) (e : Entry) : Type 0 where
  pub place : ℕ
  pub cut : Cut ps place
  pub begins : byte_at ps place ≡ b
  pub line : cut.line.line ≡ model.line_of e.level e.identifier e.tag (first_value e.payload)
  pub own : List Placed
  pub rest : List Placed
  pub are : cut.more ≡ own ++ rest
  pub reads : lines_of own ≡ continuations (e.level + 1) (further e.payload)
  pub whole : (p : Placed) (more : List Placed) → rest ≡ p ∷ more → p.line.tag ≡ CONT → ⊥

pub whole_of : (ps : List Placed) (b : ℕ) (e : Entry) → StandsAt ps b e → Whole ps b e
whole_of ps b e s = go s.own refl
  where
    go : (own : List Placed) → s.own ≡ own → Whole ps b e
    go [] q = absurd (not_nil _ _ (ap lines_of (sym q) ∙ s.reads))
    go (p ∷ more) q =
        let all : ps ≡ s.before ++ p ∷ (more ++ s.rest) = s.are ∙ append_assoc s.before s.own s.rest ∙ ap (λ o. s.before ++ (o ++ s.rest)) q in
        let byte = ap (λ qs. byte_at qs (length s.before)) all ∙ byte_there s.before p (more ++ s.rest) in
        record {
          place = length s.before;
          cut = record { before = s.before; line = p; more = more ++ s.rest; are = all; counted = refl; byte = byte; is = ap (λ qs. at (lines_of qs) (length s.before)) all ∙ line_there s.before p (more ++ s.rest) };
          begins = byte ∙ s.begins p more q;
          line = head-eq_of_cons-eq (ap lines_of (sym q) ∙ s.reads);
          own = more;
          rest = s.rest;
          are = refl;
          reads = tail-eq_of_cons-eq (ap lines_of (sym q) ∙ s.reads);
          whole = s.whole;
        }

no_more : (rest : List Placed) → ((p : Placed) (more : List Placed) → rest ≡ p ∷ more → p.line.tag ≡ CONT → ⊥) → BeginsOn rest → ⊥
no_more [] h b = b
no_more (p ∷ rest) h b = h p rest refl b

begins_on : (level : ℕ) (own rest : List Placed) (t : List ℕ) (ts : List (List ℕ)) → lines_of own ≡ continuations level (t ∷ ts) → BeginsOn (own ++ rest)
begins_on level [] rest t ts e = absurd (not_nil _ (continuations level ts) e)
begins_on level (o ∷ own) rest t ts e = ap (λ (l : Line). l.tag) (head-eq_of_cons-eq e)

-- whether the line behind that of an entry continues it, by the entry's text
pub record Goes (ps : List Placed) (b : ℕ) (e : Entry) (w : Whole ps b e) : Type 0 where
  pub on : Bool
  pub decides : Decides on (BeginsOn w.cut.more)
  pub alone : further e.payload ≡ [] → on ≡ false
  pub followed : (t : List ℕ) (ts : List (List ℕ)) → further e.payload ≡ t ∷ ts → on ≡ true

pub whole_goes : (ps : List Placed) (b : ℕ) (e : Entry) (w : Whole ps b e) → Goes ps b e w
whole_goes ps b e w = go (further e.payload) refl
  where
    no_own : (own : List Placed) → lines_of own ≡ [] → own ≡ []
    no_own [] x = refl
    no_own (o ∷ own) x = absurd (not_nil o.line (lines_of own) (sym x))

    go : (texts : List (List ℕ)) → further e.payload ≡ texts → Goes ps b e w
    go [] q =
        let none = no_own w.own (w.reads ∙ ap (continuations (e.level + 1)) q) in
        let is : w.cut.more ≡ w.rest = w.are ∙ ap (λ o. o ++ w.rest) none in
        record {
          on = false;
          decides = (λ x. absurd (true≢false (sym x)), λ x. absurd (no_more w.rest w.whole (subst BeginsOn is x)));
          alone = λ x. refl;
          followed = λ t ts x. absurd (not_nil t ts (sym q ∙ x));
        }
    go (t ∷ ts) q = record {
      on = true;
      decides = (λ x. subst BeginsOn (sym w.are) (begins_on (e.level + 1) w.own w.rest t ts (w.reads ∙ ap (continuations (e.level + 1)) q)), λ x. refl);
      alone = λ x. absurd (not_nil t ts (sym x ∙ q));
      followed = λ u us x. refl;
    }

clash : {A : Type 0} → ◌≡◌ {A = ℕ} 0 1 → A
clash e = absurd (omega arith)

pub text_is : (v : line.Payload) (t : List ℕ) → value_of v ≡ text_value t → text_in v ≡ t
text_is payload.None [] e = refl
text_is payload.Void [] e = refl
text_is (payload.Pointer p) [] e = refl
text_is (payload.Text x) [] e = clash (cc)
text_is payload.None (c ∷ cs) e = clash (cc)
text_is payload.Void (c ∷ cs) e = clash (cc)
text_is (payload.Pointer p) (c ∷ cs) e = clash (cc)
text_is (payload.Text x) (c ∷ cs) e = cc
