use Rattle.base_data.proofs.EachKind.{data_inside, signature_is, signature_type}
use Rattle.base_data.proofs.rdata.laws.data_of_each_kind.Goals as goal

pub returns : goal.returns
returns c = record { inside = data_inside; signature_type = signature_type; signature = signature_is }
