use Rattle.std.proofs.Common.{◌≡◌, length}
use Rattle.std.specs.Prelude.{slice_get}
use Rattle.base.specs.names.Labels.{wire_of, labels_of}
use Rattle.base.proofs.name.Name.label.Given as goal

abbrev pub invariant-loop-label : goal.invariant-loop-label
invariant-loop-label l = (wire_of (labels_of l.rest) ≡ l.rest)
    × (slice_get (labels_of l.rest) l.before ≡ slice_get l.self.labels l.i)

abbrev pub decreases-loop-label : goal.decreases-loop-label
decreases-loop-label l = length l.rest
