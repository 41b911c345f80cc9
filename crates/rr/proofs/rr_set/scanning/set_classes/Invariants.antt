use Rattle.std.proofs.Common.{◌≡◌, ◌++◌, map, take, drop}
use Rattle.base_data.specs.declared.rdata.RData.{RData}
use Rattle.rr.specs.declared.record.Record.{Record}
use Rattle.rr.proofs.rr_set.scanning.set_classes.Given as goal

-- those so far have the new class
abbrev pub invariant-loop-entry : goal.invariant-loop-entry
invariant-loop-entry l = l.entry-items ≡ map (λ (r : Record RData). record r { dns_class = l.dns_class })
    (take l.entry-index l.fn.records.items) ++ drop l.entry-index l.fn.records.items
