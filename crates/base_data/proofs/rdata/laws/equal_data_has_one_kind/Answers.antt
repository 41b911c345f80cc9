use Rattle.base_data.proofs.EqualData.{one_kind, unknown_same}
use Rattle.base_data.proofs.rdata.laws.equal_data_has_one_kind.Goals as goal

pub returns-clause-kind : goal.returns-clause-kind
returns-clause-kind c = one_kind

pub returns-clause-update0 : goal.returns-clause-update0
returns-clause-update0 c = λ s t. (λ yes. yes, λ yes. yes)

pub returns-clause-unknown : goal.returns-clause-unknown
returns-clause-unknown c = unknown_same
