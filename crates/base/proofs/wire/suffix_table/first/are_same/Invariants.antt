use Rattle.std.proofs.Common.{◌-◌, ◌≡◌, ◌<◌, ◌+◌, take}
use Rattle.base.proofs.wire.suffix_table.first.are_same.Given as goal

abbrev pub invariant-loop-at : goal.invariant-loop-at
invariant-loop-at l = (l.at < l.last + 8) × (take l.at l.one ≡ take l.at l.other)

abbrev pub decreases-loop-at : goal.decreases-loop-at
decreases-loop-at l = l.last - l.at
