-- The entries of every dataset that a drawer has room for can be judged. Assumes nothing.
use Rattle.std.proofs.Common.{◌≤◌, length, arith}
use Rattle.model.specs.Books.{Meaning}
use Rattle.model.specs.Datasets.{Dataset, IsDataset, entries}
use Rattle.model.specs.Edits.{body}
use Rattle.model.proofs.Turns.{dataset_sound, length_body}
use Rattle.judging.specs.Entries.{Judgeable}

pub dataset_judgeable : (m : Meaning) (d : Dataset) → IsDataset d → length (entries d) ≤ 65535 → Judgeable (body (entries d))
dataset_judgeable m d is few =
    let sound = dataset_sound m d is in
    record { levelled = sound.levelled; apart = sound.apart; few = omega (arith, length_body (entries d)) }
