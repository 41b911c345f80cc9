use Rattle.op_use.proofs.apply.changes.are_same.Given as goal
use Rattle.std.proofs.Common.{length, take, ◌≡◌}

-- those so far are the same
abbrev pub invariant-loop-place : goal.invariant-loop-place
invariant-loop-place l = (take l.place l.a ≡ take l.place l.b) × (length l.a ≡ length l.b)
