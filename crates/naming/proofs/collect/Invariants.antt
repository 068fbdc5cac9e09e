use Rattle.std.proofs.Common.{◌≤◌, List, take}
use Rattle.model.specs.Files.{Placed}
use Rattle.naming.specs.Naming.{CardsShow}
use Rattle.naming.proofs.Indexing.{Gathered}
use Rattle.naming.proofs.collect.Given as goal

abbrev pub invariant-loop-card : goal.invariant-loop-card
invariant-loop-card l = (l.count ≤ l.card) × ((ps : List Placed) → CardsShow l.file l.cards ps → Gathered ps l.card (take l.count l.table))
