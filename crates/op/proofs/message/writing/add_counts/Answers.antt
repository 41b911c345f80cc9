use Rattle.std.proofs.Common.{rules}
use Rattle.op.proofs.message.writing.add_counts.Goals as goal

pub returns : goal.returns
returns c = search rules
