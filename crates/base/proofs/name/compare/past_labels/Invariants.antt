use Rattle.std.proofs.Common.{◌≡◌, drop}
use Rattle.base.specs.names.Labels.{wire_of, labels_of}
use Rattle.base.proofs.name.compare.past_labels.Given as goal

abbrev pub invariant-loop : goal.invariant-loop
invariant-loop l = (labels_of l.rest ≡ drop l.counter (labels_of l.wire)) × (wire_of (labels_of l.rest) ≡ l.rest)
