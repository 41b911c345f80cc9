use Rattle.op_use.proofs.apply.zone.Zone.prerequisites_fault.Given as goal
use Rattle.op_use.specs.HeldZone.{zone_held}
use Rattle.op_use.specs.Server.{first_fault, prerequisite_fault}
use Rattle.std.proofs.Common.{drop, ◌≡◌}

-- what is left decides
abbrev pub invariant-loop-entry : goal.invariant-loop-entry
invariant-loop-entry l = first_fault (prerequisite_fault (zone_held l.self)) (drop l.entry-index l.entries)
    ≡ first_fault (prerequisite_fault (zone_held l.self)) l.entries
