use Rattle.base_data.specs.declared.rdata.RData.{RData}
use Rattle.op_use.proofs.apply.prerequisites.are_listed.Given as goal
use Rattle.op_use.specs.MapFaults.{asks_for}
use Rattle.rr.specs.declared.record.Record.{Record}
use Rattle.std.proofs.Common.{drop, ◌≡◌}
use Rattle.std.specs.List.{list_all, list_any}

-- what is left decides
abbrev pub invariant-loop-known : goal.invariant-loop-known
invariant-loop-known l =
    (list_all (λ (x : Record RData). list_any (asks_for l.class l.entry x) l.entries) (drop l.known-index l.records)
    ≡ list_all (λ (x : Record RData). list_any (asks_for l.class l.entry x) l.entries) l.records)
