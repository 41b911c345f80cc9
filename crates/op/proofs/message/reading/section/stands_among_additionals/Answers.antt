use Rattle.std.proofs.Common.{rules}
use Rattle.op.proofs.message.reading.section.stands_among_additionals.Goals as goal

pub returns-in_default : goal.returns-in_default
returns-in_default c = search rules
