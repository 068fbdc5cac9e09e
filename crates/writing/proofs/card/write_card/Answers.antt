use Rattle.std.proofs.Common.{◌+◌, [], ◌∷◌, ◌++◌, sym, Some, None, ap, ◌∙◌, inl, inr}
use Rattle.model.specs.Lines.{VOID}
use Rattle.model.specs.Datasets.{further, continuations, with_line_feeds}
use Rattle.writing.specs.Written.{card_bytes}
use Rattle.writing.specs.Own.{own_line}
use Rattle.writing.proofs.Adding.{adds_then, adds_same}
use Rattle.writing.proofs.Trails.{own_given}
use Rattle.writing.proofs.Carded.{filed_entry, filed_bytes, voided_bytes, emptied_bytes, never_blank, feeds_more}
use Rattle.writing.proofs.card.write_card.Goals as goal

pub returns-in_default : goal.returns-in_default
returns-in_default c = λ e s. absurd (own_given c.cursor_at-cursor.result c.next.new.self None c.in_default.ensures.steps (filed_entry c.args.file.now c.args.card e s) (c.cursor_at-cursor.ensures.before s.placed _ s.lined s.files.stands))

pub returns-in-Voided : goal.returns-in-Voided
returns-in-Voided c = λ e s.
    let file = c.args.file.now in
    let f = filed_entry file c.args.card e s in
    let own = own_given c.cursor_at-cursor.result c.next.new.self (Some c.in-Some.own) c.in-Some.ensures.steps f (c.cursor_at-cursor.ensures.before s.placed _ s.lined s.files.stands) in
    let head = c.head.ensures.head (own_line f) own.shows own.spelled in
    adds_same c.args.buffer.now c.args.at (c.head.result.now ++ (32 ∷ VOID ++ 10 ∷ [])) (card_bytes e) c.put_void.result c.put_void.new.buffer
    (ap (λ x. x ++ (32 ∷ VOID ++ 10 ∷ [])) head ∙ sym (voided_bytes file c.args.card e s c.in-Voided.is))
    (adds_then c.args.buffer.now c.args.at c.head.result.now c.put-end.result c.put-end.new.buffer (32 ∷ VOID ++ 10 ∷ []) c.put_void.result c.put_void.new.buffer c.put-end.ensures c.put_void.ensures)

pub returns-in-Emptied : goal.returns-in-Emptied
returns-in-Emptied c = λ e s.
    let file = c.args.file.now in
    let f = filed_entry file c.args.card e s in
    let own = own_given c.cursor_at-cursor.result c.next.new.self (Some c.in-Some.own) c.in-Some.ensures.steps f (c.cursor_at-cursor.ensures.before s.placed _ s.lined s.files.stands) in
    let head = c.head-in-Emptied.ensures.head (own_line f) own.shows own.spelled in
    adds_same c.args.buffer.now c.args.at (c.head-in-Emptied.result.now ++ 10 ∷ []) (card_bytes e) c.put_line.result c.put_line.new.buffer
    (ap (λ x. x ++ 10 ∷ []) head ∙ sym (emptied_bytes file c.args.card e s c.in-Emptied.is))
    c.put_line.ensures

pub returns-in-Filed : goal.returns-in-Filed
returns-in-Filed c = λ e s.
    let file = c.args.file.now in
    elim c.in-Filed.is [
      | inl is ↦
          let f = filed_entry file c.args.card e s in
          let own = own_given c.cursor_at-cursor.result c.next.new.self (Some c.in-Some.own) c.in-Some.ensures.steps f (c.cursor_at-cursor.ensures.before s.placed _ s.lined s.files.stands) in
          let more = with_line_feeds (continuations (f.level + 1) (further f.payload)) in
          adds_same c.args.buffer.now c.args.at ((c.in-Some.own.bytes.now ++ 10 ∷ []) ++ more) (card_bytes e) c.put_continued.result c.put_continued.new.buffer
          (ap (λ x. (x ++ 10 ∷ []) ++ more) own.spelled ∙ feeds_more (own_line f) (continuations (f.level + 1) (further f.payload)) ∙ sym (filed_bytes file c.args.card e s is))
          (adds_then c.args.buffer.now c.args.at (c.in-Some.own.bytes.now ++ 10 ∷ []) c.put_line-end.result c.put_line-end.new.buffer more c.put_continued.result c.put_continued.new.buffer c.put_line-end.ensures (c.put_continued.ensures _ _ own.behind))
      | inr is ↦ absurd (never_blank file c.args.card e s is)
    ]
