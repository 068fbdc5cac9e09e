-- The reader of a line, step by step. Assumes nothing.
use Rattle.std.proofs.Common.{◌≡◌, ℕ, List, Some, None, Option, sym, ap, ◌∙◌, subst}
use Rattle.model.specs.Lines.{Value, line_of, TextLine}
use Rattle.model.specs.Lines as model
use Rattle.model.specs.Removal.{then}
use Rattle.model.specs.Scan.{read_byte, read_level, read_identifier, read_tag, read_value, parse_tag, parse_identifier, parse}
use Rattle.model.proofs.Scanning.{parse_sound, none_spelled}
use Rattle.lines.specs.declared.line.Line.{Line}
use Rattle.lines.specs.Shown.{Parsed, Spelled, Shows}

module _ (bs : List ℕ) where
  pub no_level : read_level bs ≡ None → parse bs ≡ None
  no_level e = ap (λ o. then o (λ n. then (read_byte 32 n.1) (parse_identifier n.0))) e

  module _ (n : ℕ) (rest : List ℕ) (level : read_level bs ≡ Some (n, rest)) where
    behind_level : parse bs ≡ then (read_byte 32 rest) (parse_identifier n)
    behind_level = ap (λ o. then o (λ n. then (read_byte 32 n.1) (parse_identifier n.0))) level

    pub no_space : read_byte 32 rest ≡ None → parse bs ≡ None
    no_space e = behind_level ∙ ap (λ o. then o (parse_identifier n)) e

    module _ (more : List ℕ) (space : read_byte 32 rest ≡ Some more) where
      behind_space : parse bs ≡ parse_identifier n more
      behind_space = behind_level ∙ ap (λ o. then o (parse_identifier n)) space

      pub no_identifier : read_identifier more ≡ None → parse bs ≡ None
      no_identifier e = behind_space ∙ ap (λ o. then o (λ i. parse_tag n i.0 i.1)) e

      module _ (i : Option (List ℕ)) (tagged : List ℕ) (identifier : read_identifier more ≡ Some (i, tagged)) where
        behind_identifier : parse bs ≡ parse_tag n i tagged
        behind_identifier = behind_space ∙ ap (λ o. then o (λ i. parse_tag n i.0 i.1)) identifier

        pub no_tag : read_tag tagged ≡ None → parse bs ≡ None
        no_tag e = behind_identifier ∙ ap (λ o. then o (λ t. then (read_value t.1) (λ v. Some (line_of n i t.0 v)))) e

        module _ (tag valued : List ℕ) (found : read_tag tagged ≡ Some (tag, valued)) where
          behind_tag : parse bs ≡ then (read_value valued) (λ v. Some (line_of n i tag v))
          behind_tag = behind_identifier ∙ ap (λ o. then o (λ t. then (read_value t.1) (λ v. Some (line_of n i t.0 v)))) found

          pub no_value : read_value valued ≡ None → parse bs ≡ None
          no_value e = behind_tag ∙ ap (λ o. then o (λ v. Some (line_of n i tag v))) e

          pub whole : (v : Value) → read_value valued ≡ Some v → parse bs ≡ Some (line_of n i tag v)
          whole v e = behind_tag ∙ ap (λ o. then o (λ v. Some (line_of n i tag v))) e

  -- what the whole answers
  pub parsed_none : (r : Option Line) → r ≡ None → parse bs ≡ None → Parsed bs r
  parsed_none r e is = subst (Parsed bs) (sym e) is

  pub spelled_none : (r : Option Line) → r ≡ None → parse bs ≡ None → Spelled bs r
  spelled_none r e is = subst (Spelled bs) (sym e) (none_spelled bs is)

  pub spelled_line : (v : Line) (l : model.Line) → parse bs ≡ Some l → Shows v l → Spelled bs (Some v)
  spelled_line v l is shows t = let (spelled, good) = parse_sound bs l t is in (l, good, spelled, shows)
