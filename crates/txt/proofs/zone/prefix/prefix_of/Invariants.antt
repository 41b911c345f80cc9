use Rattle.std.proofs.Common.{◌≡◌, ◌<◌, ◌++◌, List, ℕ, length, reverse}
use Rattle.base.specs.names.Labels.{IsLabelRun, labels_of}
use Rattle.txt.specs.Prefix.{IsPrefixOf, LIMIT}
use Rattle.txt.proofs.zone.prefix.prefix_of.Given as goal

abbrev pub invariant-labels : goal.invariant-labels
invariant-labels l = record {
  whole : IsLabelRun l.rest;
  few : l.prefix < LIMIT;
  seen : (labels : List (List ℕ)) × (reverse l.name.labels ≡ reverse (labels_of l.rest) ++ labels)
      × IsPrefixOf labels l.prefix;
}

abbrev pub decreases-labels : goal.decreases-labels
decreases-labels l = length l.rest
