use Rattle.std.proofs.Common.{Ok, false}
use Rattle.std.proofs.lemmas.Result.{err_from_is_err_and}
use Rattle.parsed_zone.proofs.TextLemmas.{not_text, zone_read, zone_refused}
use Rattle.parsed_zone.proofs.zone_text.zone_sets.Goals as goal

pub returns-in_default : goal.returns-in_default
returns-in_default c = not_text _ c.args.bytes.now c.in_default.ensures.cases.0

pub returns-in_err-parse_sets : goal.returns-in_err-parse_sets
returns-in_err-parse_sets c =
    let p = err_from_is_err_and c.from_residual.result c.from_residual.ensures.1 in
    rw (p.1, p.2) (zone_refused false c.args.origin c.args.bytes.now c.in-Ok.text.now c.args.includes.now c.new.result
    c.in-Ok.ensures.cases.1 c.in-Ok.ensures.cases.0 c.new.ensures
    c.in_err-parse_sets.field-0.0 c.in_err-parse_sets.ensures)

pub returns : goal.returns
returns c =
    zone_read false c.args.origin c.args.bytes.now c.in-Ok.text.now c.args.includes.now c.new.result
    c.in-Ok.ensures.cases.1 c.in-Ok.ensures.cases.0 c.new.ensures
    (Ok (c.in_ok-parse_sets.field-0.0, c.in_ok-parse_sets.field-0.1)) c.in_ok-parse_sets.ensures
