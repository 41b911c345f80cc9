use Rattle.authority.proofs.room.name_len.Goals as goal
use Rattle.base.specs.reading.PointerLemmas.{length-wire_of}
use Rattle.std.proofs.Common.{ap, arith, length}

pub returns-clause-len : goal.returns-clause-len
returns-clause-len c = omega (arith, length-wire_of c.args.name.now.labels, ap length c.as_wire.ensures.value)
