-- The entries of a context and the words of a set, as chains of iterators go through them. Assumes nothing.
use Rattle.std.proofs.Common.{◌≡◌, ℕ, true, ◌||◌, List, [], ◌∷◌, length, sym, refl, ap, ◌∙◌, Bor, filter, count_by, map, arith}
use Rattle.std.specs.Option.{option_map}
use Rattle.std.specs.List.{find, list_any}
use Rattle.std.specs.Str.{bytes_eq}
use Rattle.std.proofs.lemmas.Bool.{eq-eqb}
use Rattle.std.proofs.lemmas.List.{length-map}
use Rattle.std.proofs.lemmas.List.Sums.{length-filter}
use Rattle.std.proofs.lemmas.Grind.{common_steps}
use Rattle.model.specs.declared.Context.{Context}
use Rattle.model.specs.declared.Context.TheVariants.{Top, Under}
use Rattle.model.specs.Tables.{TableRow, same_context, row_in, needs_in, among, home_rows}
use Rattle.books.specs.declared.home.table.Entry.{Entry}
use Rattle.books.specs.Times.{is_required}
use Rattle.books.specs.Entries.{row_of, rows_of, of_context, behind, Entries}

-- Only the rows of a context count there

row_of_context : (c : Context) (tag : List ℕ) (xs : List TableRow) → row_in (of_context c xs) c tag ≡ row_in xs c tag
row_of_context c tag [] = refl
row_of_context c tag (x ∷ xs) = let rest = row_of_context c tag xs in grind (arith, common_steps)

needs_of_context : (c : Context) (xs : List TableRow) → needs_in (of_context c xs) c ≡ needs_in xs c
needs_of_context c [] = refl
needs_of_context c (x ∷ xs) = let rest = needs_of_context c xs in grind (arith, common_steps)

itself : (c : Context) → same_context c c ≡ true
itself Top = refl
itself (Under t) = eq-eqb t t refl

-- The entries of a context as chains of iterators go through them

row_found : (c : Context) (tag : List ℕ) (es : List Entry) → row_in (rows_of c es) c tag ≡ option_map row_of (find (λ e. bytes_eq e.0.now tag) es)
row_found c tag [] = refl
row_found c tag (e ∷ es) = let h = itself c in let k = row_found c tag es in grind (arith, common_steps)

needs_found : (c : Context) (es : List Entry) → needs_in (rows_of c es) c ≡ map (λ e. e.1) (filter (λ e. is_required e.2) es)
needs_found c [] = refl
needs_found c (e ∷ es) = let h = itself c in let k = needs_found c es in grind (arith, common_steps)

-- the home book's answers, by the entries of the context

pub row_of_entries : {c : Context} {es : List Entry} (tag : List ℕ) → Entries c es → row_in home_rows c tag ≡ option_map row_of (find (λ e. bytes_eq e.0.now tag) es)
row_of_entries {c} {es} tag h = sym (ap (λ xs. row_in xs c tag) h.rows ∙ row_of_context c tag home_rows) ∙ row_found c tag es

pub needs_of_entries : {c : Context} {es : List Entry} → Entries c es → needs_in home_rows c ≡ map (λ e. e.1) (filter (λ e. is_required e.2) es)
needs_of_entries {c} {es} h = sym (ap (λ xs. needs_in xs c) h.rows ∙ needs_of_context c home_rows) ∙ needs_found c es

pub count_of_entries : {c : Context} {es : List Entry} → Entries c es → length (needs_in home_rows c) ≡ count_by (λ e. is_required e.2) es
count_of_entries {c} {es} h = ap length (needs_of_entries h) ∙ length-map (filter (λ e. is_required e.2) es) (λ e. e.1) ∙ length-filter (λ e. is_required e.2) es

pub among_words : (word : List ℕ) (ws : List (Bor (List ℕ))) → among (behind ws) word ≡ list_any (λ w. bytes_eq w.now word) ws
among_words word [] = refl
among_words word (w ∷ ws) = ap (λ b. bytes_eq w.now word || b) (among_words word ws)
