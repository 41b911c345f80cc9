use Rattle.op_use.proofs.ListedSteps.{passes}
use Rattle.op_use.proofs.apply.zone.Zone.are_met.Given as goal
use Rattle.op_use.specs.MapFaults.{AreComplete}
use Rattle.std.proofs.Common.{drop, ◌≡◌}
use Rattle.std.specs.List.{list_all}

-- what is left decides, and the sets that were looked at are listed
abbrev pub invariant-loop-entry : goal.invariant-loop-entry
invariant-loop-entry l = record {
  left : list_all (passes l.self.sets l.self.class l.entries) (drop l.entry-index l.entries) ≡ list_all
      (passes l.self.sets l.self.class l.entries) l.entries;
  known : AreComplete l.self.sets l.self.class l.entries l.held;
}
