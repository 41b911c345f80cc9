use Rattle.std.proofs.Common.{◌≡◌, ◌<◌, ◌≤◌, drop, length}
use Rattle.txt.specs.Prefix.{HaveDigits, LIMIT, led}
use Rattle.txt.proofs.zone.prefix.lead.Given as goal

abbrev pub invariant-bytes : goal.invariant-bytes
invariant-bytes l = record {
  there : l.at ≤ length l.label;
  digits : HaveDigits (drop l.at l.label);
  value : l.prefix ≡ led (drop l.at l.label) l.others;
  few : l.prefix < LIMIT;
}

abbrev pub decreases-bytes : goal.decreases-bytes
decreases-bytes l = l.at
