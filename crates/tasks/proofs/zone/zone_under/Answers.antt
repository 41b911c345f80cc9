use Rattle.std.proofs.Common.{ap}
use Rattle.std.proofs.lemmas.Result.{err_from_is_err_and}
use Rattle.parsed_zone.proofs.TextLemmas.{number_told}
use Rattle.parsed_zone.specs.Faults.{by_number}
use Rattle.tasks.proofs.zone.zone_under.Goals as goal

pub returns-in_err-generic_zone_of_bytes-clause-zone : goal.returns-in_err-generic_zone_of_bytes-clause-zone
returns-in_err-generic_zone_of_bytes-clause-zone c =
    let p = err_from_is_err_and c.from_residual.result c.from_residual.ensures.1 in
    rw (p.1, p.2) (number_told c.in_err-generic_zone_of_bytes.field-0.0 _ c.in_err-generic_zone_of_bytes.ensures.zone)

pub returns-clause-zone : goal.returns-clause-zone
returns-clause-zone c = ap by_number c.in_ok-generic_zone_of_bytes.ensures.zone
