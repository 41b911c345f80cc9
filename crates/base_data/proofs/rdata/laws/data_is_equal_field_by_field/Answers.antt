use Rattle.base_data.proofs.SRVLemmas.{srv_same}
use Rattle.base_data.proofs.SOALemmas.{soa_same}
use Rattle.base_data.proofs.MXLemmas.{mx_same}
use Rattle.base_data.proofs.rdata.laws.data_is_equal_field_by_field.Goals as goal

pub returns : goal.returns
returns c = record { mx = mx_same; soa = soa_same; srv = srv_same }
