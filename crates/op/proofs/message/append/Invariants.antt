use Rattle.std.proofs.Common.{◌≡◌, ◌++◌}
use Rattle.op.proofs.message.append.Given as goal

abbrev pub invariant-loop-item : goal.invariant-loop-item
invariant-loop-item g l = l.list.items ≡ l.fn.list.items ++ l.yielded
