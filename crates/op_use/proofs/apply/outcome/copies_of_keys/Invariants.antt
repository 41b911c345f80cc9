use Rattle.op_use.proofs.apply.outcome.copies_of_keys.Given as goal
use Rattle.std.proofs.Common.{take, ◌≡◌}
use Rattle.std.specs.Map.{keys_of}

-- the copies so far
abbrev pub invariant-loop-key : goal.invariant-loop-key
invariant-loop-key l = l.copies.items ≡ keys_of (take l.key-index l.sets)
