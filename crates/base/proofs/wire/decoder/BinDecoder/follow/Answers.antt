use Rattle.std.proofs.Common.{refl}
use Rattle.base.proofs.wire.decoder.BinDecoder.follow.Goals as goal

pub returns-clause-counted : goal.returns-clause-counted
returns-clause-counted c = rw (← c.self.view_is) (rw c.saturating_add-self-inside.ensures refl)
