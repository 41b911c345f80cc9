use Rattle.authority.proofs.records.end_like.Given as goal
use Rattle.authority.specs.Answer.{end_like}
use Rattle.std.proofs.Common.{length, ◌≡◌}

-- the end that is wanted is an end of what is left
abbrev pub invariant-loop-end : goal.invariant-loop-end
invariant-loop-end l = end_like l.other l.end ≡ end_like l.other l.name

abbrev pub decreases-loop-end : goal.decreases-loop-end
decreases-loop-end l = length l.end.labels
