use Rattle.std.proofs.Common.{rules}
use Rattle.rr.proofs.rr_set.RecordSet.enter.Goals as goal

pub returns-else-done-clause-ok : goal.returns-else-done-clause-ok
returns-else-done-clause-ok c = search rules
