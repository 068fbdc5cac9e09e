-- What a card's line shows of its entry. Assumes nothing.
use Rattle.std.proofs.Common.{◌≡◌, ℕ, Bool, true, false, List, [], ◌∷◌, Some, None, sym, refl, ap, subst, arith}
use Rattle.model.specs.Lines as model
use Rattle.model.specs.Datasets.{Payload, none, text, void, pointer, first_value, further, Entry}
use Rattle.model.specs.Files.{Placed, Lined}
use Rattle.model.specs.Cards.{StandsAt}
use Rattle.kinds.specs.Contents.{StandsFor}
use Rattle.lines.specs.declared.line.Line.{Line}
use Rattle.lines.specs.declared.line.Payload as line
use Rattle.lines.specs.declared.line.Payload.TheVariants as payload
use Rattle.lines.specs.Shown.{Shows, value_of}
use Rattle.looking.specs.Looking.{LineAt, content_by}
use Rattle.looking.proofs.Placing.{stood}

clash : {A : Type 0} → ◌≡◌ {A = ℕ} 0 1 → A
clash e = absurd (omega arith)

pub content_right : (v : line.Payload) (b : Bool) (p : Payload) → value_of v ≡ first_value p → (further p ≡ [] → b ≡ false) → ((t : List ℕ) (ts : List (List ℕ)) → further p ≡ t ∷ ts → b ≡ true) → (p ≡ text [] [] → ⊥) → StandsFor (content_by v b) p
content_right payload.None b none e non oui s = subst (λ x. StandsFor (content_by payload.None x) none) (sym (non refl)) refl
content_right payload.Void b none e non oui s = clash (cc)
content_right (payload.Pointer x) b none e non oui s = clash (cc)
content_right (payload.Text x) b none e non oui s = clash (cc)
content_right payload.None b void e non oui s = clash (cc)
content_right payload.Void b void e non oui s = refl
content_right (payload.Pointer x) b void e non oui s = clash (cc)
content_right (payload.Text x) b void e non oui s = clash (cc)
content_right payload.None b (pointer i) e non oui s = clash (cc)
content_right payload.Void b (pointer i) e non oui s = clash (cc)
content_right (payload.Pointer x) b (pointer i) e non oui s = let same : x.now ≡ i = cc in ap pointer (sym same)
content_right (payload.Text x) b (pointer i) e non oui s = clash (cc)
content_right v b (text [] []) e non oui s = absurd (s refl)
content_right payload.None b (text [] (u ∷ us)) e non oui s = subst (λ x. StandsFor (content_by payload.None x) (text [] (u ∷ us))) (sym (oui u us refl)) ([], u, us, refl)
content_right payload.Void b (text [] (u ∷ us)) e non oui s = clash (cc)
content_right (payload.Pointer x) b (text [] (u ∷ us)) e non oui s = clash (cc)
content_right (payload.Text x) b (text [] (u ∷ us)) e non oui s = clash (cc)
content_right payload.None b (text (c ∷ cs) more) e non oui s = clash (cc)
content_right payload.Void b (text (c ∷ cs) more) e non oui s = clash (cc)
content_right (payload.Pointer x) b (text (c ∷ cs) more) e non oui s = clash (cc)
content_right (payload.Text x) b (text (c ∷ cs) []) e non oui s = let same : x.now ≡ c ∷ cs = cc in subst (λ z. StandsFor (content_by (payload.Text x) z) (text (c ∷ cs) [])) (sym (non refl)) (ap (λ t. text t []) (sym same))
content_right (payload.Text x) b (text (c ∷ cs) (u ∷ us)) e non oui s = subst (λ z. StandsFor (content_by (payload.Text x) z) (text (c ∷ cs) (u ∷ us))) (sym (oui u us refl)) (c ∷ cs, u, us, refl)

-- the line of an entry

pub entry_shows : (file : List ℕ) (byte : ℕ) (v : Line) → LineAt file byte (Some v) → (ps : List Placed) (e : Entry) → Lined file ps → StandsAt ps byte e → Shows v (model.line_of e.level e.identifier e.tag (first_value e.payload))
entry_shows file byte v h ps e l s =
    let t = stood ps byte e s in
    subst (Shows v) t.line (h ps t.place l t.within t.begins)

pub entry_there : (file : List ℕ) (byte : ℕ) → LineAt file byte None → (ps : List Placed) (e : Entry) → Lined file ps → StandsAt ps byte e → ⊥
entry_there file byte h ps e l s = let t = stood ps byte e s in h ps t.place l t.within t.begins
