use Rattle.op_use.proofs.apply.outcome.remove_all.Given as goal
use Rattle.op_use.specs.MapUpdates.{LacksKeys}
use Rattle.std.proofs.Common.{take}

-- the sets under the keys so far are out
abbrev pub invariant-loop-key : goal.invariant-loop-key
invariant-loop-key l = LacksKeys (take l.key-index l.keys) l.fn.sets l.sets
