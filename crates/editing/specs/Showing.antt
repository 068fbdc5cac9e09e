-- What a card shows of its structure, and what an edit needs of it. Assumes nothing.
use Rattle.std.specs.Prelude.{ℕ, ◌<◌, ◌≤◌, Bool, false, List}
use Rattle.std.specs.Str.{bytes_eq}
use Rattle.model.specs.declared.State.{State}
use Rattle.model.specs.declared.State.TheVariants.{Voided, Emptied}
use Rattle.model.specs.declared.Edit.{Edit}
use Rattle.model.specs.declared.Edit.TheVariants.{Withheld, Deleted, Cleared}
use Rattle.model.specs.Lines.{Value}
use Rattle.model.specs.Lines as line
use Rattle.model.specs.Datasets.{Payload, none, text, void, pointer}

-- a pointer with exactly these bytes
abbrev pub aims : List ℕ → Payload → Bool
aims i none = false
aims i (text t more) = false
aims i void = false
aims i (pointer j) = bytes_eq i j

-- The same of the value of a line

abbrev pub aims_value : List ℕ → Value → Bool
aims_value i line.nothing = false
aims_value i line.void = false
aims_value i (line.pointer j) = bytes_eq i j
aims_value i (line.text t) = false

abbrev pub emptied_value : Value → State
emptied_value line.nothing = Emptied
emptied_value line.void = Voided
emptied_value (line.pointer j) = Voided
emptied_value (line.text t) = Emptied

-- an edit that takes out some of n entries, or empties one
abbrev pub Inside : Edit → ℕ → Type 0
Inside Withheld n = Unit {0}
Inside (Deleted from to) n = (from < to) × (to ≤ n)
Inside (Cleared place to) n = (place < to) × (to ≤ n)
