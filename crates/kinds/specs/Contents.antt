-- The payloads that a content stands for. Assumes nothing.
use Rattle.std.specs.Prelude.{◌≡◌, ℕ, List, [], ◌∷◌}
use Rattle.model.specs.Datasets.{Payload, none, text, void, pointer}
use Rattle.kinds.specs.declared.payload.Content.{Content}
use Rattle.kinds.specs.declared.payload.Content.TheVariants.{Nothing, Void, Pointer, Line, Lines}

abbrev pub StandsFor : Content → Payload → Type 0
StandsFor Nothing p = p ≡ none
StandsFor Void p = p ≡ void
StandsFor (Pointer i) p = p ≡ pointer i.now
StandsFor (Line t) p = p ≡ text t.now []
StandsFor Lines p = (t u : List ℕ) × (us : List (List ℕ)) × (p ≡ text t (u ∷ us))
