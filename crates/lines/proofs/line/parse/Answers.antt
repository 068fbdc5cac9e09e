use Rattle.std.proofs.Common.{sym, refl}
use Rattle.std.specs.Option.{option_map}
use Rattle.lines.specs.Parsed.{Part}
use Rattle.model.specs.Lines.{line_of}
use Rattle.lines.specs.Shown.{value_of, Shows}
use Rattle.lines.proofs.Parsing.{no_level, no_space, no_identifier, no_tag, no_value, whole, parsed_none, spelled_none, spelled_line}
use Rattle.lines.proofs.line.parse.Goals as goal

pub returns-in_err-level : goal.returns-in_err-level
returns-in_err-level c =
    let bs = c.args.bytes.now in
    let is = no_level bs c.in_err-level.ensures in
    let e = c.from_residual.ensures in
    record { parsed = parsed_none bs _ e is; spelled = spelled_none bs _ e is }

pub returns-in_err-rest : goal.returns-in_err-rest
returns-in_err-rest c =
    let bs = c.args.bytes.now in
    let (n, level, _) = c.in_ok-level.ensures in
    let is = no_space bs n c.in_ok-level.rest.now level (sym c.in_err-rest.ensures) in
    let e = c.from_residual-in_err-rest.ensures in
    record { parsed = parsed_none bs _ e is; spelled = spelled_none bs _ e is }

pub returns-in_err-identifier : goal.returns-in_err-identifier
returns-in_err-identifier c =
    let bs = c.args.bytes.now in
    let (n, level, _) = c.in_ok-level.ensures in
    let is = no_identifier bs n c.in_ok-level.rest.now level c.in_ok-rest.rest.now (sym c.in_ok-rest.ensures) c.in_err-identifier.ensures in
    let e = c.from_residual-in_err-identifier.ensures in
    record { parsed = parsed_none bs _ e is; spelled = spelled_none bs _ e is }

pub returns-in_err-tag : goal.returns-in_err-tag
returns-in_err-tag c =
    let bs = c.args.bytes.now in
    let (n, level, _) = c.in_ok-level.ensures in
    let i = option_map (λ (p : Part). p.now) c.in_ok-identifier.identifier in
    let is = no_tag bs n c.in_ok-level.rest.now level c.in_ok-rest.rest.now (sym c.in_ok-rest.ensures) i c.in_ok-identifier.rest.now c.in_ok-identifier.ensures c.in_err-tag.ensures in
    let e = c.from_residual-in_err-tag.ensures in
    record { parsed = parsed_none bs _ e is; spelled = spelled_none bs _ e is }

pub returns-in_err-payload : goal.returns-in_err-payload
returns-in_err-payload c =
    let bs = c.args.bytes.now in
    let (n, level, _) = c.in_ok-level.ensures in
    let i = option_map (λ (p : Part). p.now) c.in_ok-identifier.identifier in
    let is = no_value bs n c.in_ok-level.rest.now level c.in_ok-rest.rest.now (sym c.in_ok-rest.ensures) i c.in_ok-identifier.rest.now c.in_ok-identifier.ensures c.in_ok-tag.tag.now c.in_ok-tag.rest.now c.in_ok-tag.ensures c.in_err-payload.ensures in
    let e = c.from_residual-in_err-payload.ensures in
    record { parsed = parsed_none bs _ e is; spelled = spelled_none bs _ e is }

pub returns : goal.returns
returns c =
    let bs = c.args.bytes.now in
    let (n, level, capped) = c.in_ok-level.ensures in
    let i = option_map (λ (p : Part). p.now) c.in_ok-identifier.identifier in
    let v = value_of c.in_ok-payload.payload in
    let is = whole bs n c.in_ok-level.rest.now level c.in_ok-rest.rest.now (sym c.in_ok-rest.ensures) i c.in_ok-identifier.rest.now c.in_ok-identifier.ensures c.in_ok-tag.tag.now c.in_ok-tag.rest.now c.in_ok-tag.ensures v c.in_ok-payload.ensures in
    let l = line_of n i c.in_ok-tag.tag.now v in
    let shows : Shows _ l = record { level = capped; identifier = refl; tag = refl; value = refl } in
    record { parsed = (l, is, shows); spelled = spelled_line bs _ l is shows }
