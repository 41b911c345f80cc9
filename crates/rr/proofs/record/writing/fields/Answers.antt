use Rattle.std.proofs.Common.{rules}
use Rattle.rr.proofs.record.writing.fields.Goals as goal

pub returns-clause-bytes : goal.returns-clause-bytes
returns-clause-bytes c = search rules
