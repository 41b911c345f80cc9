use Rattle.op_use.proofs.apply.changing_zone.ChangingZone.update.Given as goal
use Rattle.op_use.specs.MapUpdates.{IsUpdated}
use Rattle.op_use.specs.Outcome.{each}
use Rattle.std.proofs.Common.{take}

-- the updates so far are applied
abbrev pub invariant-loop-entry : goal.invariant-loop-entry
invariant-loop-entry l = IsUpdated (each (take l.entry-index l.entries)) l.fn.self l.self
