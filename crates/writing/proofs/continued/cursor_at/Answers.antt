use Rattle.std.proofs.Common.{◌≡◌, ◌-◌, cond, length, take, drop, ap, ◌∙◌, arith, length-drop, length-take}
use Rattle.model.specs.LineTurns.{is_marked}
use Rattle.looking.proofs.Left.{left_here, left_at, left_ended}
use Rattle.looking.proofs.Trailing.{whole_of}
use Rattle.writing.proofs.Trails.{before_start}
use Rattle.writing.proofs.continued.cursor_at.Goals as goal

pub returns : goal.returns
returns c =
    let file = c.args.file.now in
    let at = c.min.result in
    let part = c.new.result.file.now in
    record {
      before = λ ps e l s.
          let w = whole_of ps c.args.byte e s in
          let past = left_ended file w.cut.line.byte w.cut.line w.cut.more (left_at file ps w.place l w.cut) in
          let here = w.cut.byte in
          let there = w.begins in
          let same : at ≡ c.args.byte = let m = c.min.ensures in omega arith in
          let left = left_here file ps w.place c.args.byte part c.new.result.at l w.cut w.begins (c.new.ensures.file ∙ ap (λ n. take (length file - n) (drop n file)) same) (c.new.ensures.start.0 ∙ ap (λ n. cond (is_marked (take (length file - n) (drop n file))) 3 0) same) in
          before_start part c.new.result.at ps c.args.byte e w left;
      short = omega (arith, ap length c.new.ensures.file, length-take (length file - at) (drop at file), length-drop at file);
    }
