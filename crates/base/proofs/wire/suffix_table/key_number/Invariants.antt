use Rattle.std.proofs.Common.{◌≡◌, length}
use Rattle.base.specs.writing.Suffixes.{numbered}
use Rattle.base.proofs.wire.suffix_table.key_number.Given as goal

abbrev pub invariant-loop-rest : goal.invariant-loop-rest
invariant-loop-rest l = numbered l.number l.rest ≡ numbered (length l.wire) l.wire

abbrev pub decreases-loop-rest : goal.decreases-loop-rest
decreases-loop-rest l = length l.rest
