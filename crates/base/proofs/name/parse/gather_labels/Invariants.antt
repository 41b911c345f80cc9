use Rattle.std.proofs.Common.{length}
use Rattle.base.proofs.texts.ParseLemmas.{Holds}
use Rattle.base.proofs.name.parse.gather_labels.Given as goal

abbrev pub invariant-chars : goal.invariant-chars
invariant-chars l = Holds l.text l.rest l.room l.used l.len

abbrev pub decreases-chars : goal.decreases-chars
decreases-chars l = length l.rest
