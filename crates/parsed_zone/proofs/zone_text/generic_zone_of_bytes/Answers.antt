use Rattle.std.proofs.Common.{Ok, subst, true, ◌≡◌}
use Rattle.std.proofs.lemmas.Result.{err_from_is_err_and}
use Rattle.std.specs.Prelude.{option_map}
use Rattle.base.specs.texts.TextFaults.{fault_of}
use Rattle.txt.specs.Zone.{Texts, zone_by}
use Rattle.parsed_zone.proofs.TextLemmas.{none_in, not_text, zone_read, zone_refused}
use Rattle.parsed_zone.specs.Faults.{HasFault, in_text}
use Rattle.parsed_zone.specs.ZoneText.{read_as_text}
use Rattle.parsed_zone.proofs.zone_text.generic_zone_of_bytes.Goals as goal

pub returns-in_default-clause-zone : goal.returns-in_default-clause-zone
returns-in_default-clause-zone c = not_text _ c.args.bytes.now c.in_default.ensures.cases.0

pub returns-in_err-parse_generic-clause-zone : goal.returns-in_err-parse_generic-clause-zone
returns-in_err-parse_generic-clause-zone c =
    let p = err_from_is_err_and c.from_residual.result c.from_residual.ensures.1 in
    let e = c.in_err-parse_generic.field-0.0 in
    rw (p.1, p.2) (subst (λ (texts : Texts). HasFault (option_map in_text (fault_of e))
    (read_as_text c.args.bytes.now (zone_by true texts c.args.origin c.args.bytes.now)))
    (none_in c.new-none.result c.new-none.ensures.empty)
    (zone_refused true c.args.origin c.args.bytes.now c.in-Ok.text.now c.new-none.result c.new.result
    c.in-Ok.ensures.cases.1 c.in-Ok.ensures.cases.0 c.new.ensures
    e c.in_err-parse_generic.ensures.zone))

pub returns-clause-zone : goal.returns-clause-zone
returns-clause-zone c =
    let found = c.in_ok-parse_generic.field-0 in
    subst (λ (texts : Texts). read_as_text c.args.bytes.now (zone_by true texts c.args.origin c.args.bytes.now) ≡ Ok
    (found.0, found.1.entries))
    (none_in c.new-none.result c.new-none.ensures.empty)
    (zone_read true c.args.origin c.args.bytes.now c.in-Ok.text.now c.new-none.result c.new.result
    c.in-Ok.ensures.cases.1 c.in-Ok.ensures.cases.0 c.new.ensures
    (Ok (found.0, found.1.entries)) c.in_ok-parse_generic.ensures.zone)
