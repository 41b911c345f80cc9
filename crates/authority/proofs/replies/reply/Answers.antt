use Rattle.authority.proofs.replies.reply.Goals as goal
use Rattle.std.proofs.Common.{rules}

pub returns-then-eq-clause-replied : goal.returns-then-eq-clause-replied
returns-then-eq-clause-replied c = search rules

pub returns-clause-replied : goal.returns-clause-replied
returns-clause-replied c = search rules
