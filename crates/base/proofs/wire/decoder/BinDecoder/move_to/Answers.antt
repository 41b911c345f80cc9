use Rattle.std.proofs.Common.{refl}
use Rattle.base.proofs.wire.decoder.BinDecoder.move_to.Goals as goal

pub returns : goal.returns
returns c = rw (← c.self.view_is) refl
