use Rattle.std.proofs.Common.{rules}
use Rattle.rr.proofs.rr_set.changes.is_greater.Goals as goal

pub returns-then-ahead-ne0 : goal.returns-then-ahead-ne0
returns-then-ahead-ne0 c = search rules
