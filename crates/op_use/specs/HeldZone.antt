-- A zone that is held as a map of record sets.
use Rattle.base.specs.names.Labels.{NameValue}
use Rattle.base.specs.contracts.dns_class.DNSClass.{the_row as class_row}
use Rattle.base.specs.contracts.name.Name.{the_row as name_row}
use Rattle.base.specs.contracts.rr_key.RrKey.{the_row as key_row}
use Rattle.base.specs.contracts.rr_key.RrKeyPartialEq.TheImpl.{ghosts as eq_ghosts}
use Rattle.base.specs.contracts.rr_key.RrKeyOrd.TheImpl.{ghosts as ord_ghosts}
use Rattle.base.specs.contracts.rr_key.RrKeyPartialOrd.TheImpl.{ghosts as partial_ghosts}
use Rattle.base.specs.declared.dns_class.DNSClass.{DNSClass}
use Rattle.base.specs.declared.rr_key.RrKey.{RrKey}
use Rattle.op_use.specs.Applying.{zone_of_map}
use Rattle.op_use.specs.Zone.{Zone}
use Rattle.rr.specs.RecordSet.{SetValue}
use Rattle.rr.specs.contracts.rr_set.RecordSet.{the_row as set_row}
use Rattle.std.specs.BTreeMap.{BTreeMap}
use Rattle.std.specs.Coded.{Coded, code_by, coded×}
use Rattle.std.specs.Prelude.{refl}
use Rattle.std.specs.contracts.alloc.Global.{the_row as global_row}
use Rattle.std.specs.contracts.collections.BTreeMap.{the_row as map_row}
use Rattle.std.specs.contracts.impls.GlobalAllocator.TheImpl.{ghosts as global_ghosts}

-- its origin, its class, and its sets under their keys
pub record HeldZone : Type 0 where
  pub origin : NameValue
  pub class : DNSClass
  pub sets : BTreeMap RrKey SetValue

-- the zone that is held
abbrev pub zone_held : HeldZone → Zone
zone_held z = zone_of_map z.origin z.class z.sets

-- it is stored as its fields
abbrev pub held_code : Coded HeldZone
held_code = code_by (NameValue × (DNSClass × BTreeMap RrKey SetValue))
    (coded× name_row.coded
    (coded× class_row.coded
    (map_row key_row set_row global_row ord_ghosts eq_ghosts partial_ghosts global_ghosts).coded))
    (λ z. (z.origin, (z.class, z.sets))) (λ p. record { origin = p.0; class = p.1.0; sets = p.1.1 })
    (λ _. refl)
