-- The CONT lines that follow a line, one after the other. Assumes nothing.
use Rattle.std.proofs.Common.{◌≡◌, ℕ, ◌+◌, ◌<◌, ◌≤◌, List, [], ◌∷◌, ◌++◌, length, drop, Some, None, Option, sym, refl, ap, ◌∙◌, subst, arith, length-take}
use mathlib.Core.List.{head-eq_of_cons-eq, tail-eq_of_cons-eq}
use Rattle.model.specs.Lines.{Line, spell}
use Rattle.model.specs.Datasets.{CONT, continuations, Entry}
use Rattle.model.specs.Files.{Placed}
use Rattle.model.specs.Refusals.{lines_of}
use Rattle.model.proofs.Parts.{not_nil}
use Rattle.lines.specs.declared.steps.Found.{Found}
use Rattle.lines.specs.Steps.{bytes_at, Comes}
use Rattle.lines.specs.declared.cursor.Cursor.{Cursor}
use Rattle.lines.specs.Iterating.{StopsAt, GivesNext}
use Rattle.looking.proofs.Left.{Left, left_more, left_stops, left_comes, left_goes, left_shows, left_bytes}
use Rattle.looking.proofs.Trailing.{Whole}
use Rattle.lines.specs.Shown.{Shows}
use Rattle.model.specs.Scan.{front, in_line}
use Rattle.model.specs.LineTurns.{line_end, next_line, is_pair}
use Rattle.std.proofs.lemmas.Bool.{cond_both}
use Rattle.std.specs.List.{prefix_len}
use Rattle.std.proofs.lemmas.List.Sums.{prefix_len-le-length}
use Rattle.writing.specs.Own.{Trails, NextOf, Before, OwnOf, OwnNext, Passed}

-- before the own line of an entry
pub before_start : (file : List ℕ) (from : ℕ) (ps : List Placed) (b : ℕ) (e : Entry) (w : Whole ps b e) → Left file from (w.cut.line ∷ w.cut.more) → Before file from e
before_start file from ps b e w l = record { first = w.cut.line; own = w.own; rest = w.rest; left = subst (λ more. Left file from (w.cut.line ∷ more)) w.are l; line = w.line; reads = w.reads; whole = w.whole }

-- and behind it
pub own_comes : (file : List ℕ) (from n next n' : ℕ) (f : Found) (e : Entry) → Before file from e → Comes file from n next n' f → f.bytes.now ≡ bytes_at file from → OwnOf f file next e
own_comes file from n next n' f e b c bytes =
    let rest = b.own ++ b.rest in
    record {
      shows = subst (Shows f.line) b.line (left_shows file from n next n' f b.first rest b.left c);
      spelled = left_bytes file from f b.first rest b.left bytes ∙ ap spell b.line;
      behind = record { own = b.own; rest = b.rest; left = left_goes file from n next n' f b.first rest b.left c; reads = b.reads; whole = b.whole };
    }

pub before_end : (file : List ℕ) (from : ℕ) (e : Entry) → Before file from e → StopsAt file from → ⊥
before_end file from e b h = left_more file from b.first (b.own ++ b.rest) b.left h

-- how far a line takes a cursor
pub comes_past : (file : List ℕ) (from n next n' : ℕ) (f : Found) → Comes file from n next n' f → f.bytes.now ≡ bytes_at file from → from + length f.bytes.now + 1 ≤ next
comes_past file from n next n' f c bytes =
    let bs = drop from file in
    let long : length f.bytes.now ≡ length (front in_line bs) = ap length bytes in
    let on = c.next_at in
    let end = line_end file from in
    let past : end < next_line file end = cond_both (is_pair file end) (end + 2) (end + 1) (λ k. end < k) (λ q. omega arith) (λ q. omega arith) in
    omega (arith, length-take (prefix_len in_line bs) bs, prefix_len-le-length in_line bs)

-- the same of whatever comes next
pub own_given : (s t : Cursor) (r : Option Found) → GivesNext s r t → OwnNext s.file.now s.at t.file.now t.at r
own_given s t None (file, stops, stays) e b = before_end s.file.now s.at e b stops
own_given s t (Some f) y e b = subst (λ file. OwnOf f file t.at e) (sym y.file) (own_comes s.file.now s.at _ _ _ f e b y.comes y.bytes)

pub passed_given : (s t : Cursor) (r : Option Found) → GivesNext s r t → Passed t.at r
passed_given s t None g = tt
passed_given s t (Some f) y = let past = comes_past s.file.now s.at _ _ _ f y.comes y.bytes in omega arith

no_texts : (level : ℕ) (ts : List (List ℕ)) → ◌≡◌ {A = List Line} [] (continuations level ts) → ts ≡ []
no_texts level [] e = refl
no_texts level (t ∷ ts) e = absurd (not_nil _ (continuations level ts) e)

none_own : (own rest : List Placed) → own ++ rest ≡ [] → own ≡ []
none_own [] rest e = refl
none_own (p ∷ own) rest e = absurd (not_nil p (own ++ rest) (sym e))

pub trails_end : (file : List ℕ) (from level : ℕ) (texts : List (List ℕ)) → Trails file from level texts → StopsAt file from → texts ≡ []
trails_end file from level texts t h =
    let none = none_own t.own t.rest (left_stops file from (t.own ++ t.rest) t.left h) in
    no_texts level texts (ap lines_of (sym none) ∙ t.reads)

module _ (file : List ℕ) (from n next n' level : ℕ) (f : Found) (c : Comes file from n next n' f) (bytes : f.bytes.now ≡ bytes_at file from) where
  pub trails_next : (texts : List (List ℕ)) → Trails file from level texts → f.line.tag.now ≡ CONT → NextOf file next level texts f.bytes.now
  trails_next texts t tag = go t.own texts refl t.reads
    where
      go : (own : List Placed) (ts : List (List ℕ)) → t.own ≡ own → lines_of t.own ≡ continuations level ts → NextOf file next level ts f.bytes.now
      go [] ts p r =
          let w = left_comes file from n next n' f t.rest (subst (λ o. Left file from (o ++ t.rest)) p t.left) c in
          absurd (t.whole w.line w.more w.are (sym w.shows.tag ∙ tag))
      go (o ∷ own) [] p r = absurd (not_nil o.line (lines_of own) (sym (ap lines_of (sym p) ∙ r)))
      go (o ∷ own) (x ∷ xs) p r =
          let left = subst (λ o. Left file from (o ++ t.rest)) p t.left in
          let reads = ap lines_of (sym p) ∙ r in
          record {
            text = x;
            more = xs;
            are = refl;
            spelled = left_bytes file from f o (own ++ t.rest) left bytes ∙ ap spell (head-eq_of_cons-eq reads);
            behind = record { own = own; rest = t.rest; left = left_goes file from n next n' f o (own ++ t.rest) left c; reads = tail-eq_of_cons-eq reads; whole = t.whole };
          }

  pub trails_stop : (texts : List (List ℕ)) → Trails file from level texts → (f.line.tag.now ≡ CONT → ⊥) → texts ≡ []
  trails_stop texts t other = go t.own texts refl t.reads
    where
      go : (own : List Placed) (ts : List (List ℕ)) → t.own ≡ own → lines_of t.own ≡ continuations level ts → ts ≡ []
      go own [] p r = refl
      go [] (x ∷ xs) p r = absurd (not_nil _ (continuations level xs) (ap lines_of (sym p) ∙ r))
      go (o ∷ own) (x ∷ xs) p r =
          let left = subst (λ o. Left file from (o ++ t.rest)) p t.left in
          let shows = left_shows file from n next n' f o (own ++ t.rest) left c in
          absurd (other (shows.tag ∙ ap (λ (l : Line). l.tag) (head-eq_of_cons-eq (ap lines_of (sym p) ∙ r))))
