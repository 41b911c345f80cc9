use Rattle.base.specs.WordLemmas.{number16_stands}
use Rattle.std.proofs.Common.{refl, arith}
use Rattle.base.proofs.wire.encodable.U16EncodedSize.fill.Goals as goal

pub returns-clause-word : goal.returns-clause-word
returns-clause-word c = λ B i stands. (number16_stands c.args.self.now B i (omega arith) stands, refl)
