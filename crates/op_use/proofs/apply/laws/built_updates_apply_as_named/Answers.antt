use Rattle.op_use.proofs.AppliedLemmas.{append_applies, create_applies, delete_data_applies, delete_name_applies}
use Rattle.op_use.proofs.AppliedLemmas.{delete_set_applies, maps_are_zones, swap_applies}
use Rattle.op_use.proofs.apply.laws.built_updates_apply_as_named.Goals as goal

pub returns : goal.returns
returns c = record {
  zones = maps_are_zones;
  create = create_applies;
  append = append_applies;
  compare_and_swap = swap_applies;
  delete_by_rdata = delete_data_applies;
  delete_rrset = delete_set_applies;
  delete_all = delete_name_applies;
}
