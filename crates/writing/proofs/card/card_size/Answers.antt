use Rattle.std.proofs.Common.{◌+◌, length, Some, None, ap, inl, inr, arith}
use Rattle.model.specs.Datasets.{further, continuations}
use Rattle.writing.specs.Own.{own_line}
use Rattle.writing.proofs.Trails.{own_given, passed_given}
use Rattle.writing.proofs.Carded.{filed_entry, filed_bytes, voided_long, emptied_long, never_blank, feeds_long}
use Rattle.writing.proofs.card.card_size.Goals as goal

pub returns-in_default : goal.returns-in_default
returns-in_default c = record {
  size = λ e s. absurd (own_given c.cursor_at-cursor.result c.next.new.self None c.in_default.ensures.steps (filed_entry c.args.file.now c.args.card e s) (c.cursor_at-cursor.ensures.before s.placed _ s.lined s.files.stands));
  bound = omega arith;
}

pub returns-in-Voided : goal.returns-in-Voided
returns-in-Voided c =
    let file = c.args.file.now in
    let within = c.next.new.self.within in
    let same = ap length c.in-Some.ensures.steps.file in
    let passed = passed_given c.cursor_at-cursor.result c.next.new.self (Some c.in-Some.own) c.in-Some.ensures.steps in
    let short = c.cursor_at-cursor.ensures.short in
    let cut = c.head.ensures.short in
    record {
      size = λ e s.
          let f = filed_entry file c.args.card e s in
          let own = own_given c.cursor_at-cursor.result c.next.new.self (Some c.in-Some.own) c.in-Some.ensures.steps f (c.cursor_at-cursor.ensures.before s.placed _ s.lined s.files.stands) in
          omega (arith, voided_long file c.args.card e s c.in-Voided.is, ap length (c.head.ensures.head (own_line f) own.shows own.spelled));
      bound = omega arith;
    }

pub returns-in-Emptied : goal.returns-in-Emptied
returns-in-Emptied c =
    let file = c.args.file.now in
    let within = c.next.new.self.within in
    let same = ap length c.in-Some.ensures.steps.file in
    let passed = passed_given c.cursor_at-cursor.result c.next.new.self (Some c.in-Some.own) c.in-Some.ensures.steps in
    let short = c.cursor_at-cursor.ensures.short in
    let cut = c.head-in-Emptied.ensures.short in
    record {
      size = λ e s.
          let f = filed_entry file c.args.card e s in
          let own = own_given c.cursor_at-cursor.result c.next.new.self (Some c.in-Some.own) c.in-Some.ensures.steps f (c.cursor_at-cursor.ensures.before s.placed _ s.lined s.files.stands) in
          omega (arith, emptied_long file c.args.card e s c.in-Emptied.is, ap length (c.head-in-Emptied.ensures.head (own_line f) own.shows own.spelled));
      bound = omega arith;
    }

pub returns-in-Filed : goal.returns-in-Filed
returns-in-Filed c =
    let file = c.args.file.now in
    let same = ap length c.in-Some.ensures.steps.file in
    let passed = passed_given c.cursor_at-cursor.result c.next.new.self (Some c.in-Some.own) c.in-Some.ensures.steps in
    let short = c.cursor_at-cursor.ensures.short in
    let size = c.continued_size.ensures in
    let long = size.bound in
    record {
      size = λ e s.
          elim c.in-Filed.is [
            | inl is ↦
                let f = filed_entry file c.args.card e s in
                let own = own_given c.cursor_at-cursor.result c.next.new.self (Some c.in-Some.own) c.in-Some.ensures.steps f (c.cursor_at-cursor.ensures.before s.placed _ s.lined s.files.stands) in
                let more = size.size _ _ own.behind in
                omega (arith, ap length (filed_bytes file c.args.card e s is), ap length own.spelled, feeds_long (own_line f) (continuations (f.level + 1) (further f.payload)))
            | inr is ↦ absurd (never_blank file c.args.card e s is)
          ];
      bound = omega arith;
    }
