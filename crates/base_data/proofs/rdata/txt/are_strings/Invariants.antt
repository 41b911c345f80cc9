use Rattle.std.proofs.Common.{length}
use Rattle.base_data.proofs.StringLemmas.{IsCut}
use Rattle.base_data.proofs.rdata.txt.are_strings.Given as goal

abbrev pub invariant-loop-rest : goal.invariant-loop-rest
invariant-loop-rest l = IsCut l.bytes l.rest

abbrev pub decreases-loop-rest : goal.decreases-loop-rest
decreases-loop-rest l = length l.rest
