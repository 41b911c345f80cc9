use Rattle.op.proofs.equality.EdnsEquals.{edns_Decide}
use Rattle.op.proofs.laws.equal_edns_is_the_same.Goals as goal

pub returns : goal.returns
returns c = edns_Decide
