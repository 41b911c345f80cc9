use Rattle.std.proofs.Common.{rules}
use Rattle.op.proofs.message.reading.section.fault_of.Goals as goal

pub returns : goal.returns
returns c = search rules
