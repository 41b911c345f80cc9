use Rattle.rr.proofs.rr_set.changing_set.ChangingSet.open.Given as goal
use Rattle.std.proofs.Common.{take, ◌≡◌}

-- the records so far are the first ones of the set
abbrev pub invariant-loop-entry : goal.invariant-loop-entry
invariant-loop-entry l = l.records ≡ take l.entry-index l.entries
