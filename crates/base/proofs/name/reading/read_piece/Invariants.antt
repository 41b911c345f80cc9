use Rattle.std.specs.Prelude.{◌-◌}
use Rattle.base.proofs.reading.PieceLemmas.{WalkedTo}
use Rattle.base.proofs.name.reading.read_piece.Given as goal

abbrev pub invariant-loop-len : goal.invariant-loop-len
invariant-loop-len l = WalkedTo l.near l.len

abbrev pub decreases-loop-len : goal.decreases-loop-len
decreases-loop-len l = 255 - l.len
