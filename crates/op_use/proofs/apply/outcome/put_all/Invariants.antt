use Rattle.op_use.proofs.SettleSteps.{IsPutting}
use Rattle.op_use.proofs.apply.outcome.put_all.Given as goal
use Rattle.std.proofs.Common.{length}

-- the sets that are left are to be put
abbrev pub invariant-loop-key : goal.invariant-loop-key
invariant-loop-key l = IsPutting l.fn.put.items l.put.items l.fn.sets l.sets

abbrev pub decreases-loop-key : goal.decreases-loop-key
decreases-loop-key l = length l.put.items
