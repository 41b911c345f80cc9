use Rattle.op.proofs.equality.Orders.{metadata_order-is}
use Rattle.op.proofs.laws.metadata_is_ordered.Goals as goal

pub returns : goal.returns
returns c = metadata_order-is
