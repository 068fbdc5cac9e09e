use Rattle.std.proofs.Common.{◌≡◌, ℕ, Some, None, Option, refl, ◌∙◌, rules, tests}
use Rattle.std.specs.Option.{option_map}
use Rattle.std.specs.Str.{bytes_eq}
use Rattle.std.proofs.lemmas.Slice.Eq.{bytes_eq-Decides}
use Rattle.std.proofs.lemmas.Iterator.{YieldsList-from_map}
use Rattle.std.proofs.lemmas.Iterator.Consumers.{YieldsList-at, YieldsList-from_filter, min_from_yields_List}
use Rattle.naming.specs.Naming.{Name}
use Rattle.naming.proofs.Least.{windows_pairs, least_found}
use Rattle.naming.proofs.Indexing.{nobody}
use Rattle.naming.proofs.repeated.Goals as goal

itself : (o : Option ℕ) → o ≡ option_map (λ (x : ℕ). x) o
itself None = refl
itself (Some x) = refl

pub returns : goal.returns
returns c = least_found c.args.names.now (λ p. bytes_eq p.0.0.now p.1.0.now) (λ x y. bytes_eq-Decides x.0.now y.0.now) c.min.result (itself c.min.result ∙ min_from_yields_List {v = λ x. x} _ c.min.result c.min.ensures.ran (YieldsList-from_map _ (λ (p : Name × Name). p.1.1) (YieldsList-at c.map.ensures.source (YieldsList-from_filter _ (λ (p : Name × Name). bytes_eq p.0.0.now p.1.0.now) (YieldsList-at c.filter.ensures.source (windows_pairs nobody c.windows.result c.args.names.now c.windows.ensures.size c.windows.ensures.rest)) c.filter.ensures.closure (λ x b q k. search (rules, tests)))) c.map.ensures.closure (λ x r q k. search (rules, tests))))
