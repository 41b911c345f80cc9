use Rattle.authority.proofs.WayLemmas.{IsOnWay}
use Rattle.authority.proofs.sets.highest_cut.Given as goal
use Rattle.std.proofs.Common.{length}
use Rattle.std.specs.Option.{option_copied}

-- the highest cut is the highest on the rest of the way, or what was found
abbrev pub invariant-loop-end : goal.invariant-loop-end
invariant-loop-end l = IsOnWay l.origin l.sets l.fn.name l.end (option_copied l.highest)

abbrev pub decreases-loop-end : goal.decreases-loop-end
decreases-loop-end l = length l.end.labels
