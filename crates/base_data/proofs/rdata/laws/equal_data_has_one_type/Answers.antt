use Rattle.base_data.proofs.EqualData.{one_type}
use Rattle.base_data.proofs.rdata.laws.equal_data_has_one_type.Goals as goal

pub returns : goal.returns
returns c = one_type
