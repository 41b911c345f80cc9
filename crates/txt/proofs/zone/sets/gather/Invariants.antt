use Rattle.std.proofs.Common.{◌≡◌}
use Rattle.txt.specs.Gathered.{HaveOwnKeys, IsAscending, gathered, with_all}
use Rattle.txt.specs.ZoneSets.{AreKeyed}
use Rattle.txt.proofs.Gathering.{FirstFollows}
use Rattle.txt.proofs.SetsInOrder.{AreInOrder}
use Rattle.txt.proofs.zone.sets.gather.Given as goal

abbrev pub invariant-loop-keyed : goal.invariant-loop-keyed
invariant-loop-keyed l = record {
  sets : with_all l.run l.keyed-iterator.rest.items ≡ gathered l.fn.entries.items;
  kept : AreKeyed l.run;
  ordered : AreInOrder l.run;
  keyed : HaveOwnKeys l.keyed-iterator.rest.items;
  ascending : IsAscending l.keyed-iterator.rest.items;
  follows : FirstFollows l.run l.keyed-iterator.rest.items;
}
