use Rattle.std.proofs.Common.{◌≡◌, ◌+◌, ◌≤◌, length}
use Rattle.base.specs.names.Labels.{wire_of, labels_of}
use Rattle.base.proofs.name.Name.label_count.Given as goal

abbrev pub invariant-loop-tail : goal.invariant-loop-tail
invariant-loop-tail l = (wire_of (labels_of l.rest) ≡ l.rest)
    × (l.count + length (labels_of l.rest) ≡ length l.self.labels) × (l.count + length l.rest ≤ 254)

abbrev pub decreases-loop-tail : goal.decreases-loop-tail
decreases-loop-tail l = length l.rest
