use Rattle.base.specs.names.NameOrderLaws.{lower_cmp-exact, same_lower-exact}
use Rattle.base.proofs.lower_name.lower_name_order.Goals as goal

pub returns-clause-exact : goal.returns-clause-exact
returns-clause-exact c = lower_cmp-exact

pub returns-clause-same : goal.returns-clause-same
returns-clause-same c = same_lower-exact
