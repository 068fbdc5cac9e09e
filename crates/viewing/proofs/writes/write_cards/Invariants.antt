use Rattle.std.proofs.Common.{take}
use Rattle.model.specs.Datasets.{Dataset, entries, all_lines, with_line_feeds}
use Rattle.model.specs.Cards.{Holds}
use Rattle.writing.specs.Written.{Adds}
use Rattle.viewing.proofs.writes.write_cards.Given as goal

abbrev pub invariant-loop-card : goal.invariant-loop-card
invariant-loop-card l = (d : Dataset) → Holds l.file l.drawer d → Adds l.initial.buffer l.at (with_line_feeds (all_lines (take l.card-index (entries d)))) l.end l.buffer
