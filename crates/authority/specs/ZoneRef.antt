-- A zone that is lent.
use Rattle.authority.specs.declared.zone_ref.ZoneRef.{ZoneRef}
use Rattle.base.specs.RrKey.{key_cmp}
use Rattle.base.specs.declared.rr_key.RrKey.{RrKey}
use Rattle.op_use.specs.Applying.{zone_of_map}
use Rattle.op_use.specs.NamedChanges.{set_key}
use Rattle.op_use.specs.Zone.{Zone}
use Rattle.rr.specs.RecordSet.{SetValue}
use Rattle.std.specs.BTreeMap.{BTreeMap, get}
use Rattle.std.specs.Prelude.{Some, ◌≡◌}

-- each set of a map stands under the key of its owner and type, as those of a parsed zone and those that updates leave
abbrev pub AreUnderKeys : BTreeMap RrKey SetValue → Type 0
AreUnderKeys sets = (k : RrKey) (s : SetValue) → get key_cmp sets k ≡ Some s → set_key s ≡ k

-- the zone that is lent
abbrev pub zone_of : ZoneRef → Zone
zone_of z = zone_of_map z.origin.now z.class z.sets.now
