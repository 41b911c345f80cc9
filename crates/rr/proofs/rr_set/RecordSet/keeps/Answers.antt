use Rattle.std.proofs.Common.{rules}
use Rattle.rr.proofs.rr_set.RecordSet.keeps.Goals as goal

pub returns-in-NS : goal.returns-in-NS
returns-in-NS c = search rules
