use Rattle.std.proofs.Common.{◌-◌}
use Rattle.base.specs.writing.Wire.{state_of}
use Rattle.base.proofs.writing.LongestLemmas.{IsStoring}
use Rattle.base.proofs.name.Name.append_to.Given as goal

abbrev pub invariant-loop-before : goal.invariant-loop-before
invariant-loop-before l = IsStoring (state_of l.fn.encoder) l.wire l.before (state_of l.encoder)

abbrev pub decreases-loop-before : goal.decreases-loop-before
decreases-loop-before l = l.kept - l.before
