use Rattle.std.proofs.Common.{[], ◌∷◌, refl}
use Rattle.model.specs.Tables.{plain}
use Rattle.model.proofs.Lawful.{plain_lawful}
use Rattle.model.proofs.Filing.{lines_once, held_once}
use Rattle.model.proofs.Witness.{file, tree, one, count, write, side}
use Rattle.model.proofs.premises_are_met.Goals as goal

pub returns : goal.returns
returns c =
    let s = side held_once lines_once in
    (plain, plain_lawful, (file, file, tree, tree, record { header = refl; before = []; after = []; one = one; other = one; left = refl; right = refl }, count ∷ write ∷ [], s, s))
