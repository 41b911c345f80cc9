use Rattle.base.specs.declared.dns_class.DNSClass.TheVariants as classes
use Rattle.capi.proofs.zone_handle.raise_serial_of.Goals as goal

pub invariant_of-zone : goal.invariant_of-zone
invariant_of-zone c = record {
  soa_is = c.args.zone.now.soa_is;
  kept = c.raise_serial.ensures.is_map classes.IN c.args.zone.now.kept;
}
