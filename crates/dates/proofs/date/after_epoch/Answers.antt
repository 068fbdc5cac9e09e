use Rattle.std.proofs.Common.{◌&&◌, codes, sym, ap, ◌∙◌, rules}
use Rattle.std.specs.Str.{bytes_eq}
use Rattle.pieces.specs.Words.{words_of, behind_if}
use Rattle.dates.proofs.Naming.{epoch_by_test}
use Rattle.dates.proofs.date.after_epoch.Goals as goal

pub returns : goal.returns
returns g c =
    let words = words_of c.args.words in
    c.skip_if.ensures (λ w. g.C.Calendar.BCE && bytes_eq w (codes "BCE")) (λ w b k. search rules)
    ∙ ap (λ b. behind_if (λ w. b && bytes_eq w (codes "BCE")) words) g.met.C.Calendar.counts_back
    ∙ sym (epoch_by_test g.C.Calendar.reckoning words)
