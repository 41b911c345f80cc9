use Rattle.std.proofs.Common.{append_assoc, refl}
use Rattle.op.proofs.message.append.Goals as goal

pub loop-item-preserved : goal.loop-item-preserved
loop-item-preserved g c = rw (c.in_ok-push.ensures.items, c.loop-item.invariant, append_assoc) refl
