use Rattle.std.proofs.Common.{◌≡◌}
use Rattle.base_data.proofs.rdata.RData.from_tokens.Given as goal

abbrev pub invariant-loop-item : goal.invariant-loop-item
invariant-loop-item g l = (goal.iterator-loop-item g).can_next l.item-iterator
    × (goal.iterator-loop-item g).is_finite l.item-iterator × (l.held.items ≡ l.yielded)
