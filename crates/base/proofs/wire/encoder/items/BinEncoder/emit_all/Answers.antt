use Rattle.std.proofs.Common.{refl}
use Rattle.base.specs.writing.Wire.{state_of}
use Rattle.base.proofs.writing.LawLemmas.{Keeps-same}
use Rattle.base.proofs.wire.encoder.items.BinEncoder.emit_all.Goals as goal

pub returns-in-None-clause-keeps : goal.returns-in-None-clause-keeps
returns-in-None-clause-keeps g c = Keeps-same (state_of c.args.self.now) (state_of c.args.self.now) refl
