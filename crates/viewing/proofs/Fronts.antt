-- The written form, card by card. Assumes nothing.
use Rattle.std.proofs.Common.{◌≡◌, ℕ, ◌+◌, ◌<◌, ◌≤◌, List, [], ◌∷◌, ◌++◌, length, get_or, take, sym, refl, ap, ◌∙◌, append_assoc, append-nil, arith, length-append, rules}
use Rattle.std.proofs.lemmas.List.{take_more, take_all}
use Rattle.model.specs.Lines.{Line, spell}
use Rattle.model.specs.Datasets.{MARK, Dataset, entries, all_lines, entry_lines, with_line_feeds, lines, written}
use Rattle.model.specs.Edits.{no_entry}
use Rattle.model.specs.Removal.{card_count}
use Rattle.model.proofs.Ordering.{all_lines_append}
use Rattle.writing.specs.Written.{card_bytes}
use Rattle.std.proofs.lemmas.Bool.Decides.{nat_tests}
use Rattle.model.specs.Runs.{refused, number, write_reply, written_over}
use Rattle.writing.specs.Written.{over}
use Rattle.viewing.specs.Views.{front_bytes}

feeds_append : (ls ms : List Line) → with_line_feeds (ls ++ ms) ≡ with_line_feeds ls ++ with_line_feeds ms
feeds_append [] ms = refl
feeds_append (l ∷ ls) ms = ap (λ x. spell l ++ 10 ∷ x) (feeds_append ls ms) ∙ sym (append_assoc (spell l) (10 ∷ with_line_feeds ls) (with_line_feeds ms))

-- one card more
pub feeds_front : (d : Dataset) (k : ℕ) → k < card_count d → with_line_feeds (all_lines (take k (entries d))) ++ card_bytes (get_or (entries d) k no_entry) ≡ with_line_feeds (all_lines (take (k + 1) (entries d)))
feeds_front d k h =
    let es = entries d in
    let e = get_or es k no_entry in
    sym (feeds_append (all_lines (take k es)) (entry_lines e)) ∙ ap (λ x. with_line_feeds (all_lines (take k es) ++ x)) (sym (append-nil (entry_lines e)))
    ∙ ap with_line_feeds (sym (all_lines_append (take k es) (e ∷ []))) ∙ ap (λ x. with_line_feeds (all_lines x)) (sym (take_more es k no_entry h))

front_more : (d : Dataset) (k : ℕ) → k < card_count d → front_bytes d k ++ card_bytes (get_or (entries d) k no_entry) ≡ front_bytes d (k + 1)
front_more d k h = append_assoc MARK (with_line_feeds (all_lines (take k (entries d)))) (card_bytes (get_or (entries d) k no_entry)) ∙ ap (λ x. MARK ++ x) (feeds_front d k h)

-- all of them
pub feeds_all : (d : Dataset) (n : ℕ) → n ≡ card_count d → with_line_feeds (all_lines (take n (entries d))) ≡ with_line_feeds (lines d)
feeds_all d n e = ap (λ x. with_line_feeds (all_lines x)) (take_all n (entries d) (omega arith))

pub front_all : (d : Dataset) (n : ℕ) → n ≡ card_count d → front_bytes d n ≡ written d
front_all d n e = ap (λ x. MARK ++ x) (feeds_all d n e)

pub front_long : (d : Dataset) (k : ℕ) → k < card_count d → length (front_bytes d (k + 1)) ≡ length (front_bytes d k) + length (card_bytes (get_or (entries d) k no_entry))
front_long d k h = ap length (sym (front_more d k h)) ∙ length-append (front_bytes d k) (card_bytes (get_or (entries d) k no_entry))

-- What a write answers, and what the buffer then holds

module _ (d : Dataset) (buffer : List ℕ) (size : ℕ) (is : size ≡ length (written d)) where
  pub oversized : 16777216 < size → (refused 25 ≡ write_reply d (length buffer)) × (buffer ≡ written_over d buffer)
  oversized h = (search (rules, nat_tests), search (rules, nat_tests))

  pub cramped : size ≤ 16777216 → length buffer < size → (refused 26 ≡ write_reply d (length buffer)) × (buffer ≡ written_over d buffer)
  cramped low h = (search (rules, nat_tests), search (rules, nat_tests))

  pub fitted : size ≤ 16777216 → size ≤ length buffer → (out : List ℕ) (r : ℕ) → out ≡ over (written d) buffer → r ≡ length (written d) → (number r ≡ write_reply d (length buffer)) × (out ≡ written_over d buffer)
  fitted low room out r e n = (ap number n ∙ (let z : number (length (written d)) ≡ write_reply d (length buffer) = search (rules, nat_tests) in z), e ∙ (let z : over (written d) buffer ≡ written_over d buffer = search (rules, nat_tests) in z))
