use Rattle.op.proofs.equality.Equals.{headers_Decide}
use Rattle.op.proofs.laws.equal_headers_are_the_same.Goals as goal

pub returns : goal.returns
returns c = headers_Decide
