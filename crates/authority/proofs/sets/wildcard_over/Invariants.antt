use Rattle.authority.proofs.SourceLemmas.{IsOver}
use Rattle.authority.proofs.sets.wildcard_over.Given as goal
use Rattle.std.proofs.Common.{length}

-- the end lies below the origin, and the closest encloser above it
abbrev pub invariant-loop-closer : goal.invariant-loop-closer
invariant-loop-closer l = IsOver l.origin l.sets l.name l.closer

abbrev pub decreases-loop-closer : goal.decreases-loop-closer
decreases-loop-closer l = length l.closer.labels
