use Rattle.std.proofs.Common.{rules}
use Rattle.tasks.proofs.walk.whole.walk.Goals as goal

pub returns-clause-found : goal.returns-clause-found
returns-clause-found c = search rules
