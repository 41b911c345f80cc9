-- That updates may be applied to a parsed zone.
use Rattle.std.specs.BTreeMap as tree
use Rattle.std.specs.BTreeMap.{BTreeMap}
use Rattle.std.specs.Prelude.{Some, true, ◌≡◌}
use Rattle.base.specs.RrKey.{key_cmp}
use Rattle.base.specs.declared.dns_class.DNSClass.TheVariants as classes
use Rattle.base.specs.declared.dns_class.DNSClass.{DNSClass}
use Rattle.base.specs.declared.rr_key.RrKey.{RrKey}
use Rattle.op_use.specs.Applying.{IsZoneMap}
use Rattle.rr.specs.RecordSet.{IsTidy, SetValue}
use Rattle.txt.specs.ZoneSets.{AreKeyed}
use Rattle.parsed_zone.specs.Classes.{are_sets_in}

-- each set of a map is of a class
abbrev pub AreOfClass : DNSClass → BTreeMap RrKey SetValue → Type 0
AreOfClass class m = (k : RrKey) (s : SetValue) → tree.get key_cmp m k ≡ Some s
    → s.dns_class ≡ class

-- what the parser says of its sets, and one class of them all, is what applying an update asks
abbrev pub ParsedZonesMayBeUpdated : Type 0
ParsedZonesMayBeUpdated = (class : DNSClass) (m : BTreeMap RrKey SetValue) → AreKeyed m.entries
    → AreOfClass class m → IsZoneMap class m

-- each set is tidy of those of which the parser's clause holds
abbrev pub ParsedSetsAreTidy : Type 0
ParsedSetsAreTidy = (m : BTreeMap RrKey SetValue) → AreKeyed m.entries → (k : RrKey) (s : SetValue)
    → tree.get key_cmp m k ≡ Some s → IsTidy s

-- The sets are such as updates may be applied to, where all are of the class IN.
abbrev pub MayBeUpdated : BTreeMap RrKey SetValue → Type 0
MayBeUpdated m = are_sets_in m.entries ≡ true → IsZoneMap classes.IN m
