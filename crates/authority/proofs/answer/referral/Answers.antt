use Rattle.authority.proofs.answer.referral.Goals as goal
use Rattle.std.proofs.Common.{arith}
use Rattle.std.proofs.lemmas.Grind.{common_steps}

pub returns-clause-value : goal.returns-clause-value
returns-clause-value c = grind (arith, common_steps)
