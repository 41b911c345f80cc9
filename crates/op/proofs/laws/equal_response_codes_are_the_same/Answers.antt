use Rattle.op.proofs.equality.Equals.{response_codes_Decide}
use Rattle.op.proofs.laws.equal_response_codes_are_the_same.Goals as goal

pub returns : goal.returns
returns c = response_codes_Decide
