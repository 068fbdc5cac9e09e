-- A drawer, a file and calls for which the premises of the promises hold. Assumes nothing.
use Rattle.std.proofs.Common.{◌≡◌, ℕ, zero, suc, ◌<◌, not, T, List, [], ◌∷◌, ◌++◌, replicate, Some, None, codes, sym, refl, ap, ◌∙◌, subst, inl, inr, arith, lit<, lit≤}
use lib.Utf8.{encode}
use Rattle.std.specs.Str.{bytes_eq}
use Rattle.std.proofs.lemmas.Slice.Eq.{bytes_eq-Decides}
use Rattle.model.proofs.Refusing.{refuses_none}
use Rattle.model.specs.declared.Card.{Card}
use Rattle.model.specs.declared.State.TheVariants.{Filed}
use Rattle.model.specs.declared.Call.TheVariants.{Read, Remove, Count, Write}
use Rattle.model.specs.declared.Kind.TheVariants.{Anything, Pointer}
use Rattle.model.specs.Characters.{Clean}
use Rattle.model.specs.Lines.{Line, GoodLine, line_of}
use Rattle.model.specs.Lines as line
use Rattle.model.specs.Datasets.{none, text, end, Record, Dataset, IsDataset, OwnTag, Entry, entry, lines, HEAD, TRLR, CONT, CONC, MARK, written}
use Rattle.model.specs.Files.{Placed, Lined, Passes, HasLines, Throughout, Keeps5, Keeps6, Keeps7, Keeps8, Keeps9, Keeps10}
use Rattle.model.specs.Rules.{Belongs}
use Rattle.model.specs.Cards.{Holds, StandsAt, blank}
use Rattle.model.specs.Removal.{removed, settled}
use Rattle.model.specs.Runs.{ReadsAs, number, reply, after_removal, written_over}
use Rattle.model.specs.Calls.{Event, PerformsEvent}
use Rattle.model.specs.Laws.{Side, LinesOnce, HeldOnce}
use Rattle.model.specs.Tables.{plain}

differ : (a b : List ℕ) → T (not (bytes_eq a b)) → a ≡ b → ⊥
differ a b t e = subst (λ r. T (not r)) ((bytes_eq-Decides a b).1 e) t

abbrev pub one : Record
one = record { identifier = None; tag = codes "A"; payload = text (codes "x") []; subs = end }

abbrev pub tree : Dataset
tree = record { header = end; records = one ∷ [] }

abbrev bare : Dataset
bare = record { header = end; records = [] }

abbrev pub file : List ℕ
file = written tree

abbrev line_feed : List ℕ
line_feed = 10 ∷ []

abbrev head_at : Placed
head_at = record { byte = 3; line = line_of 0 None HEAD line.nothing; ended = line_feed }

abbrev one_at : Placed
one_at = record { byte = 10; line = line_of 0 None (codes "A") (line.text (codes "x")); ended = line_feed }

abbrev end_at : Placed
end_at = record { byte = 16; line = line_of 0 None TRLR line.nothing; ended = line_feed }

abbrev placed : List Placed
placed = head_at ∷ one_at ∷ end_at ∷ []

clean_x : Clean (codes "x")
unfolding encode
clean_x = record { characters = codes "x"; real = refl; allowed = refl; are = refl }

clean_file : Clean file
unfolding encode
clean_file = record { characters = 65279 ∷ codes "0 HEAD" ++ 10 ∷ codes "0 A x" ++ 10 ∷ codes "0 TRLR" ++ 10 ∷ []; real = refl; allowed = refl; are = refl }

good_head : GoodLine head_at.line
good_head = record { identified = tt; tagged = refl; valued = tt }

good_one : GoodLine one_at.line
good_one = record { identified = tt; tagged = refl; valued = (record { clean = clean_x; one = refl }, lit< tt) }

good_end : GoodLine end_at.line
good_end = record { identified = tt; tagged = refl; valued = tt }

pub own_tag : (e : Entry) → T (not (bytes_eq e.tag CONT)) → T (not (bytes_eq e.tag CONC)) → OwnTag e
own_tag e a b = record { no_continuation = differ e.tag CONT a; no_joint = differ e.tag CONC b }

is_tree : IsDataset tree
is_tree = record {
  spelled = (good_head, (good_one, (good_end, tt)));
  shallow = (lit≤ tt, (lit≤ tt, (lit≤ tt, tt)));
  tagged = (own_tag (entry 0 None HEAD none) tt tt, (own_tag (entry 0 None (codes "A") (text (codes "x") [])) tt tt, (own_tag (entry 0 None TRLR none) tt tt, tt)));
  records_tagged = (record { no_header = differ (codes "A") HEAD tt; no_trailer = differ (codes "A") TRLR tt }, tt);
  apart = tt;
  payloads = (tt, (inl (lit< tt), (tt, tt)));
}

is_bare : IsDataset bare
is_bare = record {
  spelled = (good_head, (good_end, tt));
  shallow = (lit≤ tt, (lit≤ tt, tt));
  tagged = (own_tag (entry 0 None HEAD none) tt tt, (own_tag (entry 0 None TRLR none) tt tt, tt));
  records_tagged = tt;
  apart = tt;
  payloads = (tt, (tt, tt));
}

lined : Lined file placed
lined = record {
  mark = MARK;
  marked = inr refl;
  are = refl;
  good = (record { good = good_head; ends = inr (inr refl) }, (record { good = good_one; ends = inr (inr refl) }, (record { good = good_end; ends = inr (inr refl) }, tt)));
  placed = (refl, (refl, (refl, tt)));
}

has_lines : HasLines file tree
has_lines = (placed, lined, refl)

no_pointer : (t : ℕ) → Anything ≡ Pointer t → ⊥
no_pointer t e = let z : ◌≡◌ {A = ℕ} 0 1 = cc in omega arith

pub no_need : (t : ℕ) → None ≡ Some t → ⊥
no_need t e = let z : ◌≡◌ {A = ℕ} 0 1 = cc in omega arith

text_is_some : (t : List ℕ) → text t [] ≡ none → ⊥
text_is_some t e = let z : ◌≡◌ {A = ℕ} 0 1 = cc in omega arith

belongs_tree : Belongs plain tree
belongs_tree = record {
  known = (tt, (tt, tt));
  taken = (inr refl, (tt, tt));
  aimed = (λ t i k. absurd (no_pointer t k), (λ t i k. absurd (no_pointer t k), tt));
  single = (λ _. refl, (λ _. refl, tt));
  top_complete = λ j t n. absurd (no_need t n);
  complete = (λ j t n. absurd (no_need t n), (λ j t n. absurd (no_need t n), tt));
  filled = (λ _. inl refl, (λ b. absurd (text_is_some (codes "x") b.0), tt));
}

abbrev ls : List Line
ls = lines tree

below_three : (i : ℕ) → suc (suc (suc i)) < 3 → ⊥
below_three i h = omega arith

keeps5 : Throughout Keeps5 ls
keeps5 zero h = lit≤ tt
keeps5 (suc zero) h = lit≤ tt
keeps5 (suc (suc zero)) h = lit≤ tt
keeps5 (suc (suc (suc i))) h = absurd (below_three i h)

keeps6 : Throughout Keeps6 ls
keeps6 zero h = (λ _. refl, λ p. absurd (omega arith))
keeps6 (suc zero) h = (λ p. absurd (omega arith), λ _ _. differ (codes "A") HEAD tt)
keeps6 (suc (suc zero)) h = (λ p. absurd (omega arith), λ _ _. differ TRLR HEAD tt)
keeps6 (suc (suc (suc i))) h = absurd (below_three i h)

keeps7 : Throughout Keeps7 ls
keeps7 zero h = (λ p. absurd (omega arith), λ _ _. differ HEAD TRLR tt)
keeps7 (suc zero) h = (λ p. absurd (omega arith), λ _ _. differ (codes "A") TRLR tt)
keeps7 (suc (suc zero)) h = (λ _. refl, λ p. absurd (omega arith))
keeps7 (suc (suc (suc i))) h = absurd (below_three i h)

keeps8 : Throughout Keeps8 ls
keeps8 zero h = λ _ j l. omega arith
keeps8 (suc zero) h = λ _ j l. omega arith
keeps8 (suc (suc zero)) h = λ _ j l. omega arith
keeps8 (suc (suc (suc i))) h = absurd (below_three i h)

keeps9 : Throughout Keeps9 ls
keeps9 zero h = λ p. refl
keeps9 (suc zero) h = λ p. refl
keeps9 (suc (suc zero)) h = λ p. refl
keeps9 (suc (suc (suc i))) h = absurd (below_three i h)

keeps10 : Throughout Keeps10 ls
keeps10 zero h = (differ HEAD CONC tt, λ c. absurd (differ HEAD CONT tt c))
keeps10 (suc zero) h = (differ (codes "A") CONC tt, λ c. absurd (differ (codes "A") CONT tt c))
keeps10 (suc (suc zero)) h = (differ TRLR CONC tt, λ c. absurd (differ TRLR CONT tt c))
keeps10 (suc (suc (suc i))) h = absurd (below_three i h)

passes : Passes file placed
passes = record { short = lit≤ tt; clean = clean_file; lined = lined; ordered = record { some = lit< tt; levels = keeps5; first = keeps6; last = keeps7; steps = keeps8; named = keeps9; continued = keeps10 } }

no_more : (p : Placed) (more : List Placed) → [] ≡ p ∷ more → ⊥
no_more p more e = let z : ◌≡◌ {A = ℕ} 0 1 = cc in omega arith

first_of : (p q : Placed) (more rest : List Placed) → p ∷ rest ≡ q ∷ more → p ≡ q
first_of p q more rest e = cc

alone_begins : (q p : Placed) (more : List Placed) → q ∷ [] ≡ p ∷ more → p.byte ≡ q.byte
alone_begins q p more e = ap (λ x. x.byte) (sym (first_of q p more [] e))

next_whole : (q : Placed) (rest : List Placed) → T (not (bytes_eq q.line.tag CONT)) → (p : Placed) (more : List Placed) → q ∷ rest ≡ p ∷ more → p.line.tag ≡ CONT → ⊥
next_whole q rest t p more e c = differ q.line.tag CONT t (ap (λ x. x.line.tag) (first_of q p more rest e) ∙ c)

head_stands : StandsAt placed 3 (entry 0 None HEAD none)
head_stands = record { before = []; own = head_at ∷ []; rest = one_at ∷ end_at ∷ []; are = refl; reads = refl; begins = alone_begins head_at; whole = next_whole one_at (end_at ∷ []) tt; no_continuation = differ HEAD CONT tt }

one_stands : StandsAt placed 10 (entry 0 None (codes "A") (text (codes "x") []))
one_stands = record { before = head_at ∷ []; own = one_at ∷ []; rest = end_at ∷ []; are = refl; reads = refl; begins = alone_begins one_at; whole = next_whole end_at [] tt; no_continuation = differ (codes "A") CONT tt }

end_stands : StandsAt placed 16 (entry 0 None TRLR none)
end_stands = record { before = head_at ∷ one_at ∷ []; own = end_at ∷ []; rest = []; are = refl; reads = refl; begins = alone_begins end_at; whole = λ p more e c. no_more p more e; no_continuation = differ TRLR CONT tt }

abbrev filed : ℕ → Card
filed b = record { byte = b; state = Filed }

abbrev full : List Card
full = filed 3 ∷ filed 10 ∷ filed 16 ∷ []

abbrev less : List Card
less = filed 3 ∷ filed 16 ∷ blank ∷ []

holds_tree : Holds file full tree
holds_tree = record {
  placed = placed;
  passes = passes;
  named = full;
  blanks = [];
  are = refl;
  few = lit≤ tt;
  rest_blank = tt;
  rising = (lit< tt, (lit< tt, tt));
  files = (record { filed = none; stands = head_stands; allowed = tt; shows = refl }, (record { filed = text (codes "x") []; stands = one_stands; allowed = tt; shows = refl }, (record { filed = none; stands = end_stands; allowed = tt; shows = refl }, tt)));
  is = is_tree;
}

holds_bare : Holds file less bare
holds_bare = record {
  placed = placed;
  passes = passes;
  named = filed 3 ∷ filed 16 ∷ [];
  blanks = blank ∷ [];
  are = refl;
  few = lit≤ tt;
  rest_blank = (refl, tt);
  rising = (lit< tt, tt);
  files = (record { filed = none; stands = head_stands; allowed = tt; shows = refl }, (record { filed = none; stands = end_stands; allowed = tt; shows = refl }, tt));
  is = is_bare;
}

reads_as : ReadsAs plain file 3 tree
reads_as = record { is = is_tree; belongs = belongs_tree; has_lines = has_lines; within = record { short = lit≤ tt; few = lit≤ tt } }

-- The calls: a reading, a removal, a count and a write.

abbrev reading : Event
reading = record { call = Read; buffer = []; answer = number 3; left = [] }

abbrev removal : Event
removal = record { call = Remove 1; buffer = []; answer = number 1; left = [] }

abbrev pub count : Event
count = record { call = Count; buffer = []; answer = number 2; left = [] }

abbrev pub write : Event
write = record { call = Write; buffer = replicate 20 7; answer = number 17; left = written bare ++ 7 ∷ 7 ∷ 7 ∷ [] }

abbrev blanks : List Card
blanks = blank ∷ blank ∷ blank ∷ []

takes_out : removed plain tree 1 ≡ Some (settled end ([], None))
takes_out = refl

reads : LinesOnce → PerformsEvent plain file blanks reading full
reads once = (inl (record { dataset = tree; reads = reads_as; only = λ d is has. once file d tree is is_tree has has_lines; holds = holds_tree; as_filed = (inl refl, (inl refl, (inl refl, tt))); counted = refl; unlisted = λ f refuses. refuses_none plain file 3 f refuses tree reads_as }), refl, refl)

removes : HeldOnce → PerformsEvent plain file full removal less
removes once = record {
  unheld = λ u. absurd (u tree holds_tree);
  foreign = λ d h f. absurd (f (subst (Belongs plain) (once file full tree d holds_tree h) belongs_tree));
  own = λ d h b. subst (λ x. (removal.answer ≡ Rattle.model.specs.Runs.remove_reply plain x 1) × Holds file less (after_removal plain x 1)) (once file full tree d holds_tree h) (refl, holds_bare);
  cards_are = λ d h b. subst (λ x. less ≡ Rattle.model.specs.Edits.drawer_after plain x full 1) (once file full tree d holds_tree h) refl;
  refusing = λ n e. absurd (let z : ◌≡◌ {A = ℕ} 0 1 = cc in omega arith);
  long = refl;
  buffer_same = refl;
}

counts : HeldOnce → PerformsEvent plain file less count less
counts once = (
  record {
    unheld = λ u. absurd (u bare holds_bare);
    held = λ d h. subst (λ x. reply plain (Some x) 0 Count ≡ Some (number 2)) (once file less bare d holds_bare h) refl;
    cards_same = refl;
  },
  refl,
)

writes : HeldOnce → PerformsEvent plain file less write less
writes once = (
  record {
    unheld = λ u. absurd (u bare holds_bare);
    held = λ d h. subst (λ x. reply plain (Some x) 20 Write ≡ Some (number 17)) (once file less bare d holds_bare h) refl;
    cards_same = refl;
  },
  λ d h. subst (λ x. write.left ≡ written_over x write.buffer) (once file less bare d holds_bare h) refl,
)

pub side : HeldOnce → LinesOnce → Side PerformsEvent plain file tree [] one [] (count ∷ write ∷ [])
side held once = record {
  drawer = blanks;
  out = less;
  first = reading;
  quiet = [];
  removal = removal;
  card = 1;
  reading = refl;
  accepted = reads_as;
  once = tt;
  none_granted = tt;
  removing = refl;
  granted = (1, refl);
  took = refl;
  no_more = (λ e. absurd (let z : ◌≡◌ {A = ℕ} 0 1 = cc in omega arith), (λ e. absurd (let z : ◌≡◌ {A = ℕ} 0 1 = cc in omega arith), tt));
  chain = (full, reads once, (less, removes held, (less, counts held, (less, writes held, refl))));
}
