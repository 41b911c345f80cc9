use Rattle.op.proofs.equality.Orders.{code_order-is}
use Rattle.op.proofs.laws.response_codes_are_ordered.Goals as goal

pub returns : goal.returns
returns c = code_order-is
