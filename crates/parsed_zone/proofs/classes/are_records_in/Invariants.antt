use Rattle.base_data.specs.declared.rdata.RData.{RData}
use Rattle.parsed_zone.proofs.classes.are_records_in.Given as goal
use Rattle.parsed_zone.specs.Classes.{is_in}
use Rattle.rr.specs.RrsetRecords.{records_left}
use Rattle.rr.specs.declared.record.Record.{Record}
use Rattle.std.proofs.Common.{◌≡◌}
use Rattle.std.specs.List.{list_all}

-- what is left decides
abbrev pub invariant-loop-entry : goal.invariant-loop-entry
invariant-loop-entry l =
    list_all (λ (r : Record RData). is_in r.dns_class) (records_left l.entry-iterator) ≡ list_all
    (λ (r : Record RData). is_in r.dns_class) l.set.records
