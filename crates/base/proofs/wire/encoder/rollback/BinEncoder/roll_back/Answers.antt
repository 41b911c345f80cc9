use Rattle.std.proofs.Common.{rules}
use Rattle.base.proofs.wire.encoder.rollback.BinEncoder.roll_back.Goals as goal

pub returns : goal.returns
returns c = search rules
