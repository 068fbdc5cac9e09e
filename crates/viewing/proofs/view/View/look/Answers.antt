use Rattle.std.proofs.Common.{◌≡◌, ℕ, ◌≤◌, List, get_or, Some, None, Ok, Option, Result, MatchOption, ap, ◌∙◌}
use Rattle.std.specs.Option.{ok_or}
use Rattle.std.proofs.lemmas.Result.{err_from_is_err_and}
use Rattle.model.specs.declared.Card.{Card}
use Rattle.model.specs.declared.Refusal.{Refusal}
use Rattle.model.specs.declared.Refusal.TheVariants.{Past}
use Rattle.model.specs.Datasets.{Dataset, Entry, entries}
use Rattle.model.proofs.Entries.{Settled}
use Rattle.model.specs.Edits.{no_entry}
use Rattle.model.specs.Refusals.{refusal_number}
use Rattle.model.specs.Runs.{refused, shown, look_reply}
use Rattle.lines.specs.declared.line.Line.{Line as Face}
use Rattle.looking.specs.Looking.{Shown}
use Rattle.viewing.specs.Answers.{face_entry, look_answer}
use Rattle.viewing.specs.Views.{FaceOf}
use Rattle.viewing.proofs.Named.{shown_card}
use Rattle.viewing.proofs.Faces.{look_inside, look_past, card_shallow, card_settled}
use Rattle.viewing.proofs.view.View.look.Goals as goal

pub returns-in_err-card : goal.returns-in_err-card
returns-in_err-card c d h =
    let p = err_from_is_err_and c.from_residual.result c.from_residual.ensures.1 in
    let (is, past) = c.in_err-card.ensures c.args.self.now.file.now d h in
    ap look_answer p.1 ∙ ap (λ f. refused (refusal_number f)) (p.2 ∙ is) ∙ look_past d c.args.card past

told : (file : List ℕ) (x : Card) (d : Dataset) (k : ℕ) (e : Entry) → Shown file x e → e.level ≤ 63 → Settled e.payload → (o : Option Face) → MatchOption o ((e : Entry) → Shown file x e → ⊥) (FaceOf file x) → ((f : Face) → face_entry f ≡ shown e → look_answer (Ok f) ≡ look_reply d k) → (r : Result Face Refusal) → r ≡ ok_or o Past → look_answer r ≡ look_reply d k
told file x d k e s low settled None none on r is = absurd (none e s)
told file x d k e s low settled (Some f) face on r is = ap look_answer is ∙ on f (face e s low settled)

pub returns : goal.returns
returns c d h =
    let file = c.args.self.now.file.now in
    let cards = c.args.self.now.drawer.now in
    let k = c.args.card in
    let (inside, is) = c.in_ok-card.ensures file d h in
    told file c.in_ok-card.card d k (get_or (entries d) k no_entry) (shown_card file cards d h k c.in_ok-card.card inside is) (card_shallow d h.is k inside) (card_settled d h.is k inside) c.face_of.result c.face_of.ensures (λ f. look_inside d k (face_entry f) inside) c.ok_or.result c.ok_or.ensures.value
