-- A performed reading is exact. Assumes nothing.
use Rattle.std.proofs.Common.{subst, inl, inr}
use Rattle.model.specs.Books.{Meaning}
use Rattle.model.specs.Calls.{Performs, PerformsEvent}
use Rattle.model.specs.Laws.{ReadsExactly, BelongsKept, WrittenHasLines, LinesOnce, Promised}
use Rattle.model.proofs.Promises.{promises}

pub exact : (m : Meaning) → ReadsExactly PerformsEvent m
exact m file cards out e is did =
    elim (subst (Performs m file cards e out) is did).0 [
      | inl a ↦ inl (a.dataset, a.reads, a.counted, a.only, a.holds)
      | inr b ↦ inr (b.none, (b.fault, b.answered), b.blanks)
    ]

pub stands : BelongsKept → WrittenHasLines → LinesOnce → Promised PerformsEvent
stands kept written once m lawful = (exact m, (promises kept written once m lawful).0, (promises kept written once m lawful).1)
