use Rattle.std.proofs.Common.{◌≡◌, ℕ, Bool, false, List, sym, refl, ap, ◌∙◌, arith}
use Rattle.model.specs.Datasets.{Entry, first_value}
use Rattle.model.specs.Files.{Placed, Lined}
use Rattle.model.specs.Cards.{StandsAt}
use Rattle.model.specs.Runs.{shown_payload}
use Rattle.model.proofs.Entries.{Settled}
use Rattle.lines.specs.declared.line.Payload.{Payload}
use Rattle.lines.specs.declared.line.Payload.TheVariants.{None, Void, Pointer, Text}
use Rattle.lines.specs.Shown.{value_of}
use Rattle.looking.specs.Looking.{ContinuedAt}
use Rattle.viewing.specs.Answers.{payload_of}
use Rattle.viewing.proofs.Faces.{value_shown, continued_shown, alone_shown, goes_on, stands_alone}
use Rattle.viewing.proofs.looks.first_payload.Goals as goal

clash : {A : Type 0} → ◌≡◌ {A = ℕ} 0 1 → A
clash e = absurd (omega arith)

module _ (file : List ℕ) (byte : ℕ) (ps : List Placed) (e : Entry) (l : Lined file ps) (s : StandsAt ps byte e) (settled : Settled e.payload) where
  others : (v : Payload) (b : Bool) → ContinuedAt file byte b → (v ≡ None → b ≡ false) → value_of v ≡ first_value e.payload → payload_of v ≡ shown_payload e.payload
  others None b k alone is = alone_shown e.payload is settled (stands_alone file byte b k ps e l s (alone refl))
  others Void b k alone is = value_shown Void e.payload (λ q. clash (cc)) is
  others (Pointer p) b k alone is = value_shown (Pointer p) e.payload (λ q. clash (cc)) is
  others (Text t) b k alone is = value_shown (Text t) e.payload (λ q. clash (cc)) is

pub returns-in-None : goal.returns-in-None
returns-in-None c ps e l s v settled = continued_shown e.payload (sym (ap value_of c.in-None.is) ∙ v) settled (goes_on c.args.file.now c.args.byte c.is_continued.result c.is_continued.ensures ps e l s c.if-is_continued.true)

pub returns-in_default : goal.returns-in_default
returns-in_default c ps e l s v settled = others c.args.file.now c.args.byte ps e l s settled c.args.payload c.is_continued.result c.is_continued.ensures (λ none. c.if-is_continued.false) v
