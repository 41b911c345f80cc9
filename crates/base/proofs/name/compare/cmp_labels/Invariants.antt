use Rattle.std.proofs.Common.{◌≡◌, length}
use Rattle.std.specs.Ordering.{ordering_then}
use Rattle.base.specs.names.Labels.{wire_of, labels_of}
use Rattle.base.specs.names.NameOrder.{folded_labels, labels_cmp}
use Rattle.base.proofs.name.compare.cmp_labels.Given as goal

abbrev pub invariant-loop-x : goal.invariant-loop-x
invariant-loop-x l = record {
  whole : wire_of (labels_of l.rest) ≡ l.rest;
  other_whole : wire_of (labels_of l.others) ≡ l.others;
  same_count : length (labels_of l.rest) ≡ length (labels_of l.others)
      → length (labels_of l.fn.left) ≡ length (labels_of l.fn.right);
  count_kept : length (labels_of l.fn.left) ≡ length (labels_of l.fn.right)
      → length (labels_of l.rest) ≡ length (labels_of l.others);
  so_far : length (labels_of l.rest) ≡ length (labels_of l.others)
      → ordering_then (labels_cmp (folded_labels (labels_of l.rest)) (folded_labels (labels_of l.others))) l.order
      ≡ labels_cmp (folded_labels (labels_of l.fn.left)) (folded_labels (labels_of l.fn.right));
}

abbrev pub decreases-loop-x : goal.decreases-loop-x
decreases-loop-x l = length l.rest
