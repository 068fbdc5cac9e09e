use Rattle.std.proofs.Common.{◌≡◌, take}
use Rattle.model.specs.Datasets.{Dataset, entries}
use Rattle.model.specs.Cards.{Holds}
use Rattle.model.specs.Edits.{marked}
use Rattle.editing.proofs.pointers.void_pointers.Given as goal

abbrev pub invariant-loop-card : goal.invariant-loop-card
invariant-loop-card l = (d : Dataset) → Holds l.file l.initial.cards d → l.cards ≡ marked l.identifier (take l.card-index (entries d)) l.initial.cards
