use Rattle.std.proofs.Common.{ap}
use Rattle.base.specs.writing.Written.{just}
use Rattle.base.proofs.writing.WrittenLemmas.{Exactly-same}
use Rattle.op.proofs.header.HeaderBinEncodable.emit.Goals as goal

pub returns-clause-exact : goal.returns-clause-exact
returns-clause-exact c =
    Exactly-same c.emit_slice.result _ _ _ _ (ap just c.to_bytes.ensures.bytes) c.emit_slice.ensures.exact
