use Rattle.std.proofs.Common.{rules}
use Rattle.base.proofs.writing.LawLemmas.{Keeps-same}
use Rattle.base.proofs.wire.encoder.append.BinEncoder.append_byte.Goals as goal

pub returns-then-from-len-clause-keeps : goal.returns-then-from-len-clause-keeps
returns-then-from-len-clause-keeps c = Keeps-same _ _ (search rules)

pub returns-in_err-reserve-clause-keeps : goal.returns-in_err-reserve-clause-keeps
returns-in_err-reserve-clause-keeps c = Keeps-same _ _ (search rules)
