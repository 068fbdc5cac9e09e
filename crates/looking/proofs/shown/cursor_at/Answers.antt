use Rattle.std.proofs.Common.{◌≡◌, ◌-◌, take, drop, length, cond, ap, ◌∙◌, arith}
use Rattle.model.specs.LineTurns.{is_marked}
use Rattle.looking.proofs.Left.{cut, cut_from, left_at, left_here, left_ended}
use Rattle.looking.proofs.shown.cursor_at.Goals as goal

pub returns-in_err-rest : goal.returns-in_err-rest
returns-in_err-rest c ps i l h e =
    let k = cut ps i h in
    let past = left_ended c.args.file.now k.line.byte k.line k.more (left_at c.args.file.now ps i l k) in
    let here = k.byte in
    let none = c.in_err-rest.ensures.lookup in
    absurd (omega arith)

pub returns : goal.returns
returns c ps i l h e =
    let k = cut ps i h in
    let part : c.in_ok-rest.rest.now ≡ take (length c.args.file.now - c.args.byte) (drop c.args.byte c.args.file.now) = c.in_ok-rest.ensures.lookup.0.2 in
    cut_from c.new.result.file.now c.new.result.at ps i k (left_here c.args.file.now ps i c.args.byte c.new.result.file.now c.new.result.at l k e (c.new.ensures.file ∙ part) (c.new.ensures.start.0 ∙ ap (λ x. cond (is_marked x) 3 0) part))
