use Rattle.op_use.proofs.SettleSteps.{IsSettling}
use Rattle.op_use.proofs.apply.zone.Zone.settle.Given as goal
use Rattle.op_use.specs.Outcome.{each}
use Rattle.std.proofs.Common.{take}

-- the sets that the updates so far name are settled
abbrev pub invariant-loop-entry : goal.invariant-loop-entry
invariant-loop-entry l = IsSettling (each (take l.entry-index l.entries)) l.self.sets l.fn.now l.now l.fn.outcome
    l.outcome
