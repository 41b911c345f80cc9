use Rattle.std.proofs.Common.{◌-◌, length}
use Rattle.base.specs.writing.Wire.{state_of}
use Rattle.base.proofs.writing.LongestLemmas.{IsReached}
use Rattle.base.proofs.wire.encoder.table.BinEncoder.find_longest.Given as goal

abbrev pub invariant-loop-kept : goal.invariant-loop-kept
invariant-loop-kept l = IsReached (state_of l.self).suffixes l.wire l.kept

abbrev pub decreases-loop-kept : goal.decreases-loop-kept
decreases-loop-kept l = length l.wire - l.kept
