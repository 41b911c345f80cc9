use Rattle.op_use.proofs.apply.changes.by_owner.Given as goal
use Rattle.op_use.specs.Outcome.{each}
use Rattle.std.proofs.Common.{take, ◌≡◌}

-- the updates so far are here
abbrev pub invariant-loop-entry : goal.invariant-loop-entry
invariant-loop-entry l = each l.sorted.items ≡ take l.entry-index l.entries
