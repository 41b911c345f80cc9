use Rattle.std.proofs.Common.{rules, ap}
use Rattle.base.specs.writing.Wire.{state_of}
use Rattle.base.proofs.writing.LawLemmas.{Keeps-same}
use Rattle.base.proofs.wire.encoder.append.BinEncoder.append.Goals as goal
use Rattle.base.proofs.wire.encoder.append.BinEncoder.append.Goals.{then-limit-len-via-then-limit-len}
use Rattle.base.proofs.wire.encoder.append.BinEncoder.append.Goals.{then-limit-len-via-else-limit-len+then-limit-len-2}

pub returns-then-limit-len-clause-keeps : goal.returns-then-limit-len-clause-keeps
returns-then-limit-len-clause-keeps c = elim c.then-limit-len.branch [
  | then-limit-len-via-then-limit-len w ↦ Keeps-same _ _ (ap state_of w.self-is)
  | then-limit-len-via-else-limit-len+then-limit-len-2 w ↦ Keeps-same _ _ (ap state_of w.self-is)
]

pub returns-in_err-extend_from_slice-clause-keeps : goal.returns-in_err-extend_from_slice-clause-keeps
returns-in_err-extend_from_slice-clause-keeps c = Keeps-same _ _ (search rules)
