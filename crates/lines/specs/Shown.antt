-- What a line that was read shows of the line that the bytes spell. Assumes nothing.
use Rattle.std.specs.Prelude.{◌≡◌, ℕ, min, List, ◌∷◌, Some, Option, MatchOption, ◌≢◌, slice_index}
use Rattle.std.specs.Option.{option_map}
use Rattle.std.specs.declared.option.Option.TheVariants as option
use Rattle.model.specs.Lines.{Value, nothing, void, pointer, text, GoodLine, TextLine, spell}
use Rattle.model.specs.Lines as model
use Rattle.model.specs.Scan.{read_identifier, read_marked, parse}
use Rattle.lines.specs.Parsed.{Part}
use Rattle.lines.specs.declared.line.Payload.{Payload}
use Rattle.lines.specs.declared.line.Payload.TheVariants.{None, Void, Pointer, Text}
use Rattle.lines.specs.declared.line.Line.{Line}

-- the value that a payload stands for
abbrev pub value_of : Payload → Value
value_of None = nothing
value_of Void = void
value_of (Pointer p) = pointer p.now
value_of (Text t) = text t.now

-- the level is counted up to 100
pub record Shows (v : Line) (l : model.Line) : Type 0 where
  pub level : v.level ≡ min 100 l.level
  pub identifier : option_map (λ (p : Part). p.now) v.identifier ≡ l.identifier
  pub tag : v.tag.now ≡ l.tag
  pub value : value_of v.payload ≡ l.value

-- as the reader of the definitions finds it
abbrev pub Parsed : List ℕ → Option Line → Type 0
Parsed bs r = MatchOption r (parse bs ≡ option.None) (λ v. (l : model.Line) × (parse bs ≡ Some l) × Shows v l)

-- none where no good line spells the bytes; else the one that does, if they are a line of text
abbrev pub Spelled : List ℕ → Option Line → Type 0
Spelled bs r = MatchOption r ((l : model.Line) → GoodLine l → spell l ≢ bs) (λ v. TextLine bs → (l : model.Line) × GoodLine l × (spell l ≡ bs) × Shows v l)

-- The parts

abbrev pub ReadsIdentifier : List ℕ → Option (Option Part × Part) → Type 0
ReadsIdentifier bs r = MatchOption r (read_identifier bs ≡ option.None) (λ x. read_identifier bs ≡ Some (option_map (λ (p : Part). p.now) x.0, x.1.now))

abbrev pub ReadsValue : (List ℕ → Option Value) → List ℕ → Option Payload → Type 0
ReadsValue read bs r = MatchOption r (read bs ≡ option.None) (λ p. read bs ≡ Some (value_of p))

-- behind one @ that no other follows
abbrev pub PointsTo : List ℕ → Option Payload → Type 0
PointsTo bs r = (cs : List ℕ) → bs ≡ 64 ∷ cs → (slice_index cs 0 ≢ 64) → ReadsValue read_marked cs r
