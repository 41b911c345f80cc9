use Rattle.std.specs.Prelude.{length}
use Rattle.base.proofs.reading.TargetLemmas.{Keeping, Walked}
use Rattle.base.proofs.name.reading.keep_target.Given as goal

abbrev pub invariant-pieces : goal.invariant-pieces
invariant-pieces l = Walked l.fn.decoder l.decoder l.target l.used l.waiting.items l.at l.before l.piece

abbrev pub decreases-pieces : goal.decreases-pieces
decreases-pieces l = l.at

abbrev pub invariant-kept : goal.invariant-kept
invariant-kept l = Keeping l.fn.decoder l.decoder l.target l.used l.waiting.items l.at l.piece

abbrev pub decreases-kept : goal.decreases-kept
decreases-kept l = length l.waiting.items
