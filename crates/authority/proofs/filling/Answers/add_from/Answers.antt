use Rattle.authority.proofs.filling.Answers.add_from.Goals as goal
use Rattle.std.proofs.Common.{arith}
use Rattle.std.proofs.lemmas.Grind.{common_steps}

pub returns-in-None : goal.returns-in-None
returns-in-None c = grind (arith, common_steps)
