use Rattle.std.proofs.Common.{length, ◌++◌, ◌≡◌}
use Rattle.txt.proofs.zone.sets.map_of.Given as goal

abbrev pub invariant-sets : goal.invariant-sets
invariant-sets l = l.left ++ l.sets.entries ≡ l.fn.run

abbrev pub decreases-sets : goal.decreases-sets
decreases-sets l = length l.left
