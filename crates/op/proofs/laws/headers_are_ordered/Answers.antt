use Rattle.op.proofs.equality.Orders.{header_order-is}
use Rattle.op.proofs.laws.headers_are_ordered.Goals as goal

pub returns : goal.returns
returns c = header_order-is
