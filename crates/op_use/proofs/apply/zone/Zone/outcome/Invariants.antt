use Rattle.op_use.proofs.OutcomeSteps.{IsGathered}
use Rattle.op_use.proofs.OwnerRuns.{Ascends}
use Rattle.op_use.proofs.WalkSteps.{IsAhead}
use Rattle.op_use.proofs.apply.zone.Zone.outcome.Given as goal
use Rattle.std.proofs.Common.{drop, length, ◌-◌, ◌≤◌}

-- the outcome has what all updates leave, but those that are still to come, and the walk has come to the first of these
abbrev pub invariant-loop-done : goal.invariant-loop-done
invariant-loop-done l = (l.done ≤ length l.sorted.items) × Ascends (drop l.done l.sorted.items)
    × IsGathered l.entries l.self (drop l.done l.sorted.items) l.outcome
    × IsAhead l.self.sets (drop l.done l.sorted.items) l.walk

abbrev pub decreases-loop-done : goal.decreases-loop-done
decreases-loop-done l = length l.sorted.items - l.done
