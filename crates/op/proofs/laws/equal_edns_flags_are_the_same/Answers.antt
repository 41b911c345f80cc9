use Rattle.op.proofs.equality.EdnsEquals.{edns_flags_Decide}
use Rattle.op.proofs.laws.equal_edns_flags_are_the_same.Goals as goal

pub returns : goal.returns
returns c = edns_flags_Decide
