use Rattle.op.proofs.equality.Equals.{metadata_Decide}
use Rattle.op.proofs.laws.equal_metadata_is_the_same.Goals as goal

pub returns : goal.returns
returns c = metadata_Decide
