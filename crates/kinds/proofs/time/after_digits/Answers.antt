use Rattle.std.proofs.Common.{◌≡◌, ℕ, ◌-◌, ◌<◌, ◌≤◌, cond, List, length, take, drop, Some, None, sym, ap, ◌∙◌, arith, rules}
use Rattle.std.specs.Char.{is_ascii_digit}
use Rattle.std.specs.List.{prefix_len}
use Rattle.std.proofs.lemmas.List.{length-take-le, take_rest}
use Rattle.std.proofs.lemmas.List.Sums.{prefix_len-le-length}
use Rattle.std.proofs.lemmas.Bool.{cond-true}
use Rattle.std.proofs.lemmas.List.Folds.{length-prefix_len}
use Rattle.std.proofs.lemmas.Iterator.{YieldsList-from_slice}
use Rattle.std.proofs.lemmas.Iterator.Consumers.{count_from_yields_List}
use Rattle.std.proofs.lemmas.Iterator.Search.{YieldsList-from_take_while}
use borrow.Author.Tests.{tests}
use Rattle.model.specs.Grammar.{filled, read_digits}
use Rattle.model.proofs.Grammars.{decides_filled}
use Rattle.kinds.proofs.time.after_digits.Goals as goal

some : (n : ℕ) (t : List ℕ) → n ≡ prefix_len is_ascii_digit t → 0 < n → Some (take (length t - n) (drop n t)) ≡ read_digits t
some n t is k =
    let h : n ≤ length t = omega (arith, prefix_len-le-length is_ascii_digit t) in
    let long : 0 < length (take n t) = omega (arith, length-take-le n t h) in
    let e : cond (filled (take n t)) (Some (drop n t)) None ≡ read_digits t = ap (λ m. cond (filled (take m t)) (Some (drop m t)) None) is in
    ap Some (take_rest t n) ∙ sym (cond-true (filled (take n t)) (Some (drop n t)) None ((decides_filled (take n t)).1 long)) ∙ e

pub returns-in_default : goal.returns-in_default
returns-in_default c =
    let t = c.args.text.now in
    let is : c.count.result ≡ length (take (prefix_len is_ascii_digit t) t) = count_from_yields_List c.take_while.result c.count.result c.count.ensures.ran (YieldsList-from_take_while _ is_ascii_digit (YieldsList-from_slice t cc) c.take_while.ensures.closure c.take_while.ensures.done (λ x b q k. search (rules, tests))) in
    some c.count.result t (is ∙ length-prefix_len is_ascii_digit t) (omega arith)
