use Rattle.op.specs.Message.{message_value}
use Rattle.op_use.specs.Server.{sections_of}
use Rattle.capi.proofs.HandleLemmas.{updated_map}
use Rattle.capi.proofs.zone_handle.update_zone.Goals as goal

pub invariant_of-zone : goal.invariant_of-zone
invariant_of-zone c = record {
  soa_is = c.args.zone.now.soa_is;
  kept = updated_map c.args.zone.now.origin (sections_of (message_value c.in-Ok.message)) c.args.zone.now.sets
      c.apply_in_place.new.sets c.apply_in_place.result c.args.zone.now.kept c.apply_in_place.ensures.applied
      c.apply_in_place.ensures.refused;
}
