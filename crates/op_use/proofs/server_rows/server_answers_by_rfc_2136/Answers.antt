use Rattle.op_use.proofs.ServerRowsLemmas.{add_rows, builder_rows, delete_record_rows, delete_set_rows, order_rows}
use Rattle.op_use.proofs.ServerRowsLemmas.{prerequisite_rows, prescan_rows, zone_section_rows}
use Rattle.op_use.proofs.server_rows.server_answers_by_rfc_2136.Goals as goal

pub returns : goal.returns
returns c = record {
  zone_section = zone_section_rows;
  prerequisites = prerequisite_rows;
  prescan = prescan_rows;
  order = order_rows;
  added = add_rows;
  deleted_sets = delete_set_rows;
  deleted_records = delete_record_rows;
  built = builder_rows;
}
