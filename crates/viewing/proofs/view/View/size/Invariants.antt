use Rattle.std.proofs.Common.{◌≡◌, ◌+◌, ◌*◌, ◌≤◌, length}
use Rattle.model.specs.Datasets.{Dataset}
use Rattle.model.specs.Cards.{Holds}
use Rattle.viewing.specs.Views.{front_bytes}
use Rattle.viewing.proofs.view.View.size.Given as goal

abbrev pub invariant-loop-card : goal.invariant-loop-card
invariant-loop-card l = (d : Dataset) → Holds l.self.file.now l.self.drawer.now d → (l.size ≡ length (front_bytes d l.card-index)) × (l.size ≤ 3 + 16777224 * l.card-index)
