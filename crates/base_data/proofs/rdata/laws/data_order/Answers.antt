use Rattle.base_data.proofs.DataTies.{data_ties}
use Rattle.base_data.proofs.Comparing.{data_cmp-total}
use Rattle.base_data.proofs.rdata.laws.data_order.Goals as goal

pub returns : goal.returns
returns c = record { total = data_cmp-total; ties = data_ties }
