-- The descent over the flat list of entries finds the edit that the tree has. Assumes nothing.
use Rattle.std.proofs.Common.{◌≡◌, ℕ, suc, ◌+◌, ◌-◌, ◌<◌, ◌≤◌, cond, eqb, ltb, List, [], ◌∷◌, ◌++◌, length, get_or, drop, None, Option, sym, refl, ap, ◌∙◌, ap₂, inl, inr, append_assoc, arith, length-append, drop-drop, take_at}
use Rattle.std.proofs.lemmas.List.{drop_all, drop_more}
use Rattle.std.proofs.lemmas.Bool.{cases_lt, cond-true, cond-false, eq-eqb, ne_eqb, lt-ltb, le-ltb}
use Rattle.model.specs.declared.Context.{Context}
use Rattle.model.specs.declared.Context.TheVariants.{Top}
use Rattle.model.specs.declared.Edit.TheVariants.{Withheld}
use Rattle.model.specs.Books.{Meaning}
use Rattle.model.specs.Datasets.{none, Structures, end, next, Record, Dataset, HEAD, TRLR, tops, Entry, entry, entries_at, entries_of, entries}
use Rattle.model.specs.Rules.{below, typed, types_of, top_types}
use Rattle.model.specs.Removal.{size}
use Rattle.model.specs.Edits.{first_edit, raised, edit_in, edit_of, edit, block, row_types, edit_row, body, edit_flat, no_entry}
use Rattle.model.proofs.Parts.{Begins}
use Rattle.model.proofs.Entries.{row_starts, records_start}

-- Where a block ends

block_deep : (l : ℕ) (e : Entry) (es : List Entry) → l < e.level → block l (e ∷ es) ≡ 1 + block l es
block_deep l e es h = cond-true (ltb l e.level) (1 + block l es) 0 (lt-ltb l e.level h)

block_past : (l n : ℕ) (s : Structures) (v : List Entry) → l < n → block l (entries_at n s ++ v) ≡ size s + block l v
block_past l n end v h = omega arith
block_past l n (next tag p subs rest) v h =
    block_deep l (entry n None tag p) _ h ∙ ap (λ x. 1 + block l x) (append_assoc (entries_at (n + 1) subs) (entries_at n rest) v) ∙ omega (arith, block_past l (n + 1) subs (entries_at n rest ++ v) (omega arith), block_past l n rest v h)

block_none : (l : ℕ) (v : List Entry) → Begins (λ e. e.level < l + 1) v → block l v ≡ 0
block_none l [] s = refl
block_none l (e ∷ v) s = cond-false (ltb l e.level) (1 + block l v) 0 (le-ltb l e.level (omega arith))

pub block_is : (l : ℕ) (s : Structures) (v : List Entry) → Begins (λ e. e.level < l + 1) v → block l (entries_at (l + 1) s ++ v) ≡ size s
block_is l s v starts = omega (arith, block_past l (l + 1) s v (omega arith), block_none l v starts)

-- The types of a row

module _ (m : Meaning) where
  types_over : (c : Context) (l : ℕ) (e : Entry) (es : List Entry) → l < e.level → row_types m c l (e ∷ es) ≡ row_types m c l es
  types_over c l e es h = cond-false (ltb e.level l) [] _ (le-ltb e.level l (omega arith)) ∙ cond-true (ltb l e.level) _ _ (lt-ltb l e.level h)

  types_here : (c : Context) (l : ℕ) (e : Entry) (es : List Entry) → e.level ≡ l → row_types m c l (e ∷ es) ≡ typed m c e.tag ∷ row_types m c l es
  types_here c l e es h = cond-false (ltb e.level l) [] _ (le-ltb e.level l (omega arith)) ∙ cond-false (ltb l e.level) _ _ (le-ltb l e.level (omega arith))

  types_past : (c : Context) (l n : ℕ) (s : Structures) (v : List Entry) → l < n → row_types m c l (entries_at n s ++ v) ≡ row_types m c l v
  types_past c l n end v h = refl
  types_past c l n (next tag p subs rest) v h =
      types_over c l (entry n None tag p) _ h ∙ ap (row_types m c l) (append_assoc (entries_at (n + 1) subs) (entries_at n rest) v) ∙ types_past c l (n + 1) subs (entries_at n rest ++ v) (omega arith) ∙ types_past c l n rest v h

  types_none : (c : Context) (l : ℕ) (u : List Entry) → Begins (λ e. e.level < l) u → row_types m c l u ≡ []
  types_none c l [] s = refl
  types_none c l (e ∷ u) s = cond-true (ltb e.level l) [] _ (lt-ltb e.level l s)

  pub types_row : (c : Context) (l : ℕ) (s : Structures) (u : List Entry) → Begins (λ e. e.level < l) u → row_types m c l (entries_at l s ++ u) ≡ types_of m c s
  types_row c l end u starts = types_none c l u starts
  types_row c l (next tag p subs rest) u starts =
      types_here c l (entry l None tag p) _ refl ∙ ap (λ ts. typed m c tag ∷ ts) (ap (row_types m c l) (append_assoc (entries_at (l + 1) subs) (entries_at l rest) u) ∙ types_past c l (l + 1) subs (entries_at l rest ++ u) (omega arith) ∙ types_row c l rest u starts)

  pub types_records : (rs : List Record) → row_types m Top 0 (entries_of rs) ≡ top_types m rs
  types_records [] = refl
  types_records (r ∷ rs) =
      types_here Top 0 (entry 0 r.identifier r.tag r.payload) (entries_at 1 r.subs ++ entries_of rs) refl ∙ ap (λ ts. typed m Top r.tag ∷ ts) (types_past Top 0 1 r.subs (entries_of rs) (omega arith) ∙ types_records rs)

  -- The descent

  -- one that stands in the row
  pub row_here : (c : Context) (all : List (Option ℕ)) (l : ℕ) (e : Entry) (es : List Entry) (at k : ℕ) → e.level ≡ l → edit_row m c all l (e ∷ es) at k ≡ cond (eqb k at) (first_edit m c all e.tag at (at + 1 + block l es)) (cond (ltb k (at + 1 + block l es)) (raised m c all e.tag e.payload at (at + 1 + block l es) (edit_row m (below m c e.tag) (row_types m (below m c e.tag) (l + 1) es) (l + 1) es (at + 1) k)) (edit_row m c all l es (at + 1) k))
  row_here c all l e es at k h = cond-false (ltb e.level l) Withheld _ (le-ltb e.level l (omega arith)) ∙ cond-false (ltb l e.level) _ _ (le-ltb l e.level (omega arith))

  -- deeper ones are passed over
  pub row_over : (c : Context) (all : List (Option ℕ)) (l : ℕ) (e : Entry) (es : List Entry) (at k : ℕ) → l < e.level → edit_row m c all l (e ∷ es) at k ≡ edit_row m c all l es (at + 1) k
  row_over c all l e es at k h = cond-false (ltb e.level l) Withheld _ (le-ltb e.level l (omega arith)) ∙ cond-true (ltb l e.level) _ _ (lt-ltb l e.level h)

  row_past : (c : Context) (all : List (Option ℕ)) (l n : ℕ) (s : Structures) (v : List Entry) (at k : ℕ) → l < n → edit_row m c all l (entries_at n s ++ v) at k ≡ edit_row m c all l v (at + size s) k
  row_past c all l n end v at k h = ap (λ x. edit_row m c all l v x k) (omega arith)
  row_past c all l n (next tag p subs rest) v at k h =
      row_over c all l (entry n None tag p) _ at k h ∙ ap (λ x. edit_row m c all l x (at + 1) k) (append_assoc (entries_at (n + 1) subs) (entries_at n rest) v) ∙ row_past c all l (n + 1) subs (entries_at n rest ++ v) (at + 1) k (omega arith) ∙ row_past c all l n rest v (at + 1 + size subs) k h ∙ ap (λ x. edit_row m c all l v x k) (omega arith)

  -- so a descent may go on where the block ends
  pub row_jump : (c : Context) (all : List (Option ℕ)) (l : ℕ) (es : List Entry) (at k : ℕ) → edit_row m c all l es at k ≡ edit_row m c all l (drop (block l es) es) (at + block l es) k
  row_jump c all l [] at k = refl
  row_jump c all l (e ∷ es) at k = elim (cases_lt l e.level) [
    | inl h ↦ (let deeper : block l (e ∷ es) ≡ suc (block l es) = omega (arith, block_deep l e es h) in row_over c all l e es at k h ∙ row_jump c all l es (at + 1) k ∙ ap₂ (λ x y. edit_row m c all l x y k) (ap (λ n. drop n (e ∷ es)) (sym deeper)) (omega arith))
    | inr h ↦ (let stays : block l (e ∷ es) ≡ 0 = cond-false (ltb l e.level) (1 + block l es) 0 (le-ltb l e.level h) in ap₂ (λ x y. edit_row m c all l x y k) (ap (λ n. drop n (e ∷ es)) (sym stays)) (omega arith))
  ]

  row_none : (c : Context) (all : List (Option ℕ)) (l : ℕ) (u : List Entry) (at k : ℕ) → Begins (λ e. e.level < l) u → edit_row m c all l u at k ≡ Withheld
  row_none c all l [] at k starts = refl
  row_none c all l (e ∷ u) at k starts = cond-true (ltb e.level l) Withheld _ (lt-ltb e.level l starts)

  pub row_is : (c : Context) (all : List (Option ℕ)) (l : ℕ) (s : Structures) (u : List Entry) (at k : ℕ) → Begins (λ e. e.level < l) u → edit_row m c all l (entries_at l s ++ u) at k ≡ edit_in m c all s at k
  row_is c all l end u at k starts = row_none c all l u at k starts
  row_is c all l (next tag p subs rest) u at k starts =
      let v = entries_at l rest ++ u in
      let inside : Context = below m c tag in
      let deep = row_starts l rest u starts in
      let joined = append_assoc (entries_at (l + 1) subs) (entries_at l rest) u in
      let stop : at + 1 + block l (entries_at (l + 1) subs ++ entries_at l rest ++ u) ≡ at + 1 + size subs = ap (λ x. at + 1 + block l x) joined ∙ ap (λ n. at + 1 + n) (block_is l subs v deep) in
      let types : row_types m inside (l + 1) (entries_at (l + 1) subs ++ entries_at l rest ++ u) ≡ types_of m inside subs = ap (row_types m inside (l + 1)) joined ∙ types_row inside (l + 1) subs v deep in
      let below_is : edit_row m inside (row_types m inside (l + 1) (entries_at (l + 1) subs ++ entries_at l rest ++ u)) (l + 1) (entries_at (l + 1) subs ++ entries_at l rest ++ u) (at + 1) k ≡ edit_in m inside (types_of m inside subs) subs (at + 1) k = ap₂ (λ ts x. edit_row m inside ts (l + 1) x (at + 1) k) types joined ∙ row_is inside (types_of m inside subs) (l + 1) subs v (at + 1) k deep in
      let later_is : edit_row m c all l (entries_at (l + 1) subs ++ entries_at l rest ++ u) (at + 1) k ≡ edit_in m c all rest (at + 1 + size subs) k = ap (λ x. edit_row m c all l x (at + 1) k) joined ∙ row_past c all l (l + 1) subs v (at + 1) k (omega arith) ∙ row_is c all l rest u (at + 1 + size subs) k starts in
      row_here c all l (entry l None tag p) _ at k refl ∙ (λ i. cond (eqb k at) (first_edit m c all tag at (stop i)) (cond (ltb k (stop i)) (raised m c all tag p at (stop i) (below_is i)) (later_is i)))

  pub records_are : (all : List (Option ℕ)) (rs : List Record) (at k : ℕ) → edit_row m Top all 0 (entries_of rs) at k ≡ edit_of m all rs at k
  records_are all [] at k = refl
  records_are all (r ∷ rs) at k =
      let v = entries_of rs in
      let es = entries_at 1 r.subs ++ v in
      let inside : Context = below m Top r.tag in
      let stop : at + 1 + block 0 es ≡ at + 1 + size r.subs = ap (λ n. at + 1 + n) (block_is 0 r.subs v (records_start rs)) in
      let types : row_types m inside 1 es ≡ types_of m inside r.subs = types_row inside 1 r.subs v (records_start rs) in
      let below_is : edit_row m inside (row_types m inside 1 es) 1 es (at + 1) k ≡ edit_in m inside (types_of m inside r.subs) r.subs (at + 1) k = ap (λ ts. edit_row m inside ts 1 es (at + 1) k) types ∙ row_is inside (types_of m inside r.subs) 1 r.subs v (at + 1) k (records_start rs) in
      let later_is : edit_row m Top all 0 es (at + 1) k ≡ edit_of m all rs (at + 1 + size r.subs) k = row_past Top all 0 1 r.subs v (at + 1) k (omega arith) ∙ records_are all rs (at + 1 + size r.subs) k in
      row_here Top all 0 (entry 0 r.identifier r.tag r.payload) es at k refl ∙ (λ i. cond (eqb k at) (first_edit m Top all r.tag at (stop i)) (cond (ltb k (stop i)) (raised m Top all r.tag r.payload at (stop i) (below_is i)) (later_is i)))

pub body_is : (d : Dataset) → body (entries d) ≡ entries_of (tops d)
body_is d = take_at (entries_of (tops d)) (entry 0 None TRLR none ∷ []) (length (entries d) - 1) (omega (arith, length-append (entries_of (tops d)) (entry 0 None TRLR none ∷ [])))

-- the descent over the entries of a dataset finds its edit
pub flat_is : (m : Meaning) (d : Dataset) (k : ℕ) → edit_flat m (entries d) k ≡ edit m d k
flat_is m d k =
    let c : Context = below m Top HEAD in
    let h = entries_at 1 d.header in
    let v = entries_of d.records in
    let all = top_types m (tops d) in
    let starts = records_start d.records in
    let stop : 1 + block 0 (h ++ v) ≡ 1 + size d.header = ap (λ n. 1 + n) (block_is 0 d.header v starts) in
    let in_header : edit_row m c (row_types m c 1 (h ++ v)) 1 (h ++ v) 1 k ≡ edit_in m c (types_of m c d.header) d.header 1 k = ap (λ ts. edit_row m c ts 1 (h ++ v) 1 k) (types_row m c 1 d.header v starts) ∙ row_is m c (types_of m c d.header) 1 d.header v 1 k starts in
    let in_records : edit_row m Top (row_types m Top 0 (entries_of (tops d))) 0 (h ++ v) 1 k ≡ edit_of m all d.records (1 + size d.header) k = ap (λ ts. edit_row m Top ts 0 (h ++ v) 1 k) (types_records m (tops d)) ∙ row_past m Top all 0 1 d.header v 1 k (omega arith) ∙ records_are m all d.records (1 + size d.header) k in
    ap (λ b. cond (ltb k (1 + block 0 (drop 1 b))) (edit_row m c (row_types m c 1 (drop 1 b)) 1 (drop 1 b) 1 k) (edit_row m Top (row_types m Top 0 b) 0 (drop 1 b) 1 k)) (body_is d) ∙ (λ i. cond (ltb k (stop i)) (in_header i) (in_records i))

-- By position, for a loop over a list b

module _ (b : List Entry) (j : ℕ) (l : ℕ) where
  -- the list ends, or a level comes that is not above l: the block has ended
  pub block_ends : length b ≤ j → block l (drop j b) ≡ 0
  block_ends h = ap (block l) (drop_all j b h)

  pub block_stops : j < length b → (get_or b j no_entry).level ≤ l → block l (drop j b) ≡ 0
  block_stops h low = ap (block l) (drop_more b j no_entry h) ∙ cond-false (ltb l (get_or b j no_entry).level) (1 + block l (drop (j + 1) b)) 0 (le-ltb l (get_or b j no_entry).level low)

  pub block_more : j < length b → l < (get_or b j no_entry).level → block l (drop j b) ≡ 1 + block l (drop (j + 1) b)
  block_more h high = ap (block l) (drop_more b j no_entry h) ∙ block_deep l (get_or b j no_entry) (drop (j + 1) b) high

  module _ (m : Meaning) (c : Context) where
    pub types_end : length b ≤ j → row_types m c l (drop j b) ≡ []
    types_end h = ap (row_types m c l) (drop_all j b h)

    pub types_stop : j < length b → (get_or b j no_entry).level < l → row_types m c l (drop j b) ≡ []
    types_stop h low = ap (row_types m c l) (drop_more b j no_entry h) ∙ cond-true (ltb (get_or b j no_entry).level l) [] _ (lt-ltb (get_or b j no_entry).level l low)

    pub types_more : j < length b → (get_or b j no_entry).level ≡ l → row_types m c l (drop j b) ≡ typed m c (get_or b j no_entry).tag ∷ row_types m c l (drop (j + 1) b)
    types_more h same = ap (row_types m c l) (drop_more b j no_entry h) ∙ types_here m c l (get_or b j no_entry) (drop (j + 1) b) same

    pub types_pass : j < length b → l < (get_or b j no_entry).level → row_types m c l (drop j b) ≡ row_types m c l (drop (j + 1) b)
    types_pass h high = ap (row_types m c l) (drop_more b j no_entry h) ∙ types_over m c l (get_or b j no_entry) (drop (j + 1) b) high

    module _ (all : List (Option ℕ)) (k : ℕ) where
      -- the row has ended
      pub edit_end : length b ≤ j → edit_row m c all l (drop j b) j k ≡ Withheld
      edit_end h = ap (λ es. edit_row m c all l es j k) (drop_all j b h)

      pub edit_stop : j < length b → (get_or b j no_entry).level < l → edit_row m c all l (drop j b) j k ≡ Withheld
      edit_stop h low = ap (λ es. edit_row m c all l es j k) (drop_more b j no_entry h) ∙ cond-true (ltb (get_or b j no_entry).level l) Withheld _ (lt-ltb (get_or b j no_entry).level l low)

      -- a structure of the row, whose block ends before stop
      module _ (stop : ℕ) (h : j < length b) (same : (get_or b j no_entry).level ≡ l) (ends : stop ≡ j + 1 + block l (drop (j + 1) b)) where
        edit_step : edit_row m c all l (drop j b) j k ≡ cond (eqb k j) (first_edit m c all (get_or b j no_entry).tag j stop) (cond (ltb k stop) (raised m c all (get_or b j no_entry).tag (get_or b j no_entry).payload j stop (edit_row m (below m c (get_or b j no_entry).tag) (row_types m (below m c (get_or b j no_entry).tag) (l + 1) (drop (j + 1) b)) (l + 1) (drop (j + 1) b) (j + 1) k)) (edit_row m c all l (drop stop b) stop k))
        edit_step =
            let e = get_or b j no_entry in
            let es = drop (j + 1) b in
            let inside : Context = below m c e.tag in
            let jump : edit_row m c all l es (j + 1) k ≡ edit_row m c all l (drop stop b) stop k = row_jump m c all l es (j + 1) k ∙ ap₂ (λ x y. edit_row m c all l x y k) (drop-drop (block l es) (j + 1) b ∙ ap (λ n. drop n b) (sym ends)) (sym ends) in
            ap (λ x. edit_row m c all l x j k) (drop_more b j no_entry h) ∙ row_here m c all l e es j k same ∙ (λ i. cond (eqb k j) (first_edit m c all e.tag j (sym ends i)) (cond (ltb k (sym ends i)) (raised m c all e.tag e.payload j (sym ends i) (edit_row m inside (row_types m inside (l + 1) es) (l + 1) es (j + 1) k)) (jump i)))

        pub edit_this : k ≡ j → edit_row m c all l (drop j b) j k ≡ first_edit m c all (get_or b j no_entry).tag j stop
        edit_this is = edit_step ∙ cond-true (eqb k j) _ _ (eq-eqb k j is)

        pub edit_below : j < k → k < stop → edit_row m c all l (drop j b) j k ≡ raised m c all (get_or b j no_entry).tag (get_or b j no_entry).payload j stop (edit_row m (below m c (get_or b j no_entry).tag) (row_types m (below m c (get_or b j no_entry).tag) (l + 1) (drop (j + 1) b)) (l + 1) (drop (j + 1) b) (j + 1) k)
        edit_below low high = edit_step ∙ cond-false (eqb k j) _ _ (ne_eqb k j (λ e. omega arith)) ∙ cond-true (ltb k stop) _ _ (lt-ltb k stop high)

        pub edit_behind : stop ≤ k → edit_row m c all l (drop j b) j k ≡ edit_row m c all l (drop stop b) stop k
        edit_behind high = edit_step ∙ cond-false (eqb k j) _ _ (ne_eqb k j (λ e. omega arith)) ∙ cond-false (ltb k stop) _ _ (le-ltb k stop high)
