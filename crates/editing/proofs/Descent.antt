-- One turn of a pass over a row, by position. Assumes nothing.
use Rattle.std.proofs.Common.{◌≡◌, ℕ, ◌+◌, ◌<◌, ◌≤◌, ltb, List, length, get_or, drop, Option, sym, ap, ◌∙◌, ap₂, arith, drop-drop}
use Rattle.std.proofs.lemmas.List.{drop_more}
use Rattle.std.proofs.lemmas.Bool.{cond-true, cond-false, lt-ltb, le-ltb}
use Rattle.model.specs.declared.Context.{Context}
use Rattle.model.specs.declared.Context.TheVariants.{Top}
use Rattle.model.specs.Books.{Meaning}
use Rattle.model.specs.Datasets.{Entry, Dataset, entries, HEAD}
use Rattle.model.specs.Rules.{below}
use Rattle.model.specs.Positions.{within}
use Rattle.model.specs.Edits.{block, row_types, edit_row, no_entry, body, edit}
use Rattle.model.proofs.Flat.{row_over, row_jump, body_is, flat_is}
use Rattle.editing.specs.declared.rows.Siblings.{Siblings}
use Rattle.editing.specs.Rows.{edit_from}

-- The edit

module _ (m : Meaning) (b : List Entry) (c : Context) (all : List (Option ℕ)) (l k j stop : ℕ) (ends : stop ≡ j + 1 + block l (drop (j + 1) b)) where
  jump : edit_row m c all l (drop (j + 1) b) (j + 1) k ≡ edit_row m c all l (drop stop b) stop k
  jump =
      let es = drop (j + 1) b in
      row_jump m c all l es (j + 1) k ∙ ap₂ (λ x y. edit_row m c all l x y k) (drop-drop (block l es) (j + 1) b ∙ ap (λ n. drop n b) (sym ends)) (sym ends)

  -- a deeper one, and all behind it that are deeper, are passed over
  pub step_over : j < length b → l < (get_or b j no_entry).level → edit_row m c all l (drop j b) j k ≡ edit_row m c all l (drop stop b) stop k
  step_over h deep = ap (λ x. edit_row m c all l x j k) (drop_more b j no_entry h) ∙ row_over m c all l (get_or b j no_entry) (drop (j + 1) b) j k deep ∙ jump

-- The rows that a tree begins with

abbrev pub siblings : Context → ℕ → ℕ → Siblings
siblings c l first = record { context = c; level = l; first = first }

module _ (m : Meaning) (d : Dataset) (k stop : ℕ) (ends : stop ≡ 1 + block 0 (drop 1 (body (entries d)))) where
  pub in_header : (c : Context) → c ≡ within m (m.row Top (get_or (body (entries d)) 0 no_entry).tag) → k < stop → edit_from m (body (entries d)) (siblings c 1 1) 1 k ≡ edit m d k
  in_header c is low =
      let es = drop 1 (body (entries d)) in
      let head : (get_or (body (entries d)) 0 no_entry).tag ≡ HEAD = ap (λ (b : List Entry). (get_or b 0 no_entry).tag) (body_is d) in
      let under : c ≡ below m Top HEAD = is ∙ ap (λ tag. within m (m.row Top tag)) head in
      ap (λ x. edit_row m x (row_types m x 1 es) 1 es 1 k) under ∙ sym (cond-true (ltb k (1 + block 0 es)) _ _ (lt-ltb k (1 + block 0 es) (omega arith))) ∙ flat_is m d k

  pub in_records : stop ≤ k → edit_from m (body (entries d)) (siblings Top 0 0) stop k ≡ edit m d k
  in_records high =
      let b = body (entries d) in
      sym (jump m b Top (row_types m Top 0 b) 0 k 0 stop ends) ∙ sym (cond-false (ltb k (1 + block 0 (drop 1 b))) _ _ (le-ltb k (1 + block 0 (drop 1 b)) (omega arith))) ∙ flat_is m d k

pub some_body : (d : Dataset) → 0 < length (body (entries d))
some_body d = omega (arith, ap length (body_is d))
