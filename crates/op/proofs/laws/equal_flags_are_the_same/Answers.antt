use Rattle.op.proofs.equality.Equals.{flags_Decide}
use Rattle.op.proofs.laws.equal_flags_are_the_same.Goals as goal

pub returns : goal.returns
returns c = flags_Decide
