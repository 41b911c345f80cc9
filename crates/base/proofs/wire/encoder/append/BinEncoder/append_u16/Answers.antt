use Rattle.std.proofs.Common.{rules, ap}
use Rattle.base.specs.writing.Wire.{state_of}
use Rattle.base.proofs.writing.LawLemmas.{Keeps-same}
use Rattle.base.proofs.wire.encoder.append.BinEncoder.append_u16.Goals as goal
use Rattle.base.proofs.wire.encoder.append.BinEncoder.append_u16.Goals.{then-limit-len-via-then-limit-len}
use Rattle.base.proofs.wire.encoder.append.BinEncoder.append_u16.Goals.{then-limit-len-via-else-limit-len+then-limit-len-lt2}

pub returns-then-limit-len-clause-keeps : goal.returns-then-limit-len-clause-keeps
returns-then-limit-len-clause-keeps c = elim c.then-limit-len.branch [
  | then-limit-len-via-then-limit-len w ↦ Keeps-same _ _ (ap state_of w.self-is)
  | then-limit-len-via-else-limit-len+then-limit-len-lt2 w ↦ Keeps-same _ _ (ap state_of w.self-is)
]

pub returns-in_err-reserve-clause-keeps : goal.returns-in_err-reserve-clause-keeps
returns-in_err-reserve-clause-keeps c = Keeps-same _ _ (search rules)
