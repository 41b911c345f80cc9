-- What `apply_update` makes of a map of record sets (RFC 2136, 3).
use Rattle.base.specs.names.Labels.{NameValue}
use Rattle.base.specs.RrKey.{key_cmp}
use Rattle.base.specs.declared.dns_class.DNSClass.TheVariants as classes
use Rattle.base.specs.declared.dns_class.DNSClass.{DNSClass}
use Rattle.base.specs.declared.rr_key.RrKey.{RrKey}
use Rattle.base_data.specs.SameData.{same_data}
use Rattle.base_data.specs.declared.rdata.RData.{RData}
use Rattle.op.specs.declared.response_code.ResponseCode.TheVariants.{NoError, NotImp}
use Rattle.op.specs.declared.response_code.ResponseCode.{ResponseCode}
use Rattle.op_use.specs.AppliedRecords.{records_answered}
use Rattle.op_use.specs.NamedChanges.{datum_of, set_key}
use Rattle.op_use.specs.Server.{Sections, fault, is_any, serve}
use Rattle.rr.specs.Record.{type_of_record}
use Rattle.op_use.specs.SoundSet.{is_supported_type}
use Rattle.op_use.specs.Zone.{Datum, Zone, is_owned}
use Rattle.rr.specs.RecordSet.{SetValue}
use Rattle.rr.specs.SetChanges.{last_ttl}
use Rattle.rr.specs.declared.record.Record.{Record}
use Rattle.std.specs.BTreeMap as tree
use Rattle.std.specs.BTreeMap.{BTreeMap}
use Rattle.std.specs.FinMap as fin
use Rattle.std.specs.List.{IsAmong, IsDistinct, list_all, list_any}
use Rattle.std.specs.Ordering.{on}
use Rattle.std.specs.Prelude.{Bool, List, None, Option, Some, [], false, if◌then◌else◌, map, true, ◌&&◌, ◌||◌, ◌≡◌, ◌≢◌}
use Rattle.std.specs.Prelude.{◌⊎◌}

-- the data of a set
abbrev pub data_in_set : SetValue → List Datum
data_in_set s = map datum_of s.records

-- a key and the data of its set
abbrev pub entry_of : RrKey × SetValue → RrKey × List Datum
entry_of e = (e.0, data_in_set e.1)

-- the zone whose sets stand under their keys
abbrev pub zone_of_sets : NameValue → DNSClass → List (RrKey × SetValue) → Zone
zone_of_sets origin class sets =
    record { origin = origin; class = class; sets = fin.from_entries (map entry_of sets) }

-- the zone whose sets a map holds
abbrev pub zone_of_map : NameValue → DNSClass → BTreeMap RrKey SetValue → Zone
zone_of_map origin class m = zone_of_sets origin class m.entries

-- A set that a zone of a class may have under a key: the set has that key and class, and records, no two of them of
-- equal data.
pub record IsZoneSet (of_class : DNSClass) (k : RrKey) (s : SetValue) : Type 0 where
  pub own_key : set_key s ≡ k
  pub own_class : s.dns_class ≡ of_class
  pub filled : s.records ≢ []
  pub distinct : IsDistinct (on (λ (r : Record RData). r.rdata) same_data) s.records

-- each set of a map is one that a zone of this class may have under its key
abbrev pub IsZoneMap : DNSClass → BTreeMap RrKey SetValue → Type 0
IsZoneMap class sets = (k : RrKey) (s : SetValue) → tree.get key_cmp sets k ≡ Some s
    → IsZoneSet class k s

-- the class ANY, which updates give a meaning of its own, as they do NONE (RFC 2136, 2.4 and 2.5)
abbrev pub is_class_any : DNSClass → Bool
is_class_any classes.ANY = true
is_class_any _ = false

-- the class NONE
abbrev pub is_class_none : DNSClass → Bool
is_class_none classes.NONE = true
is_class_none _ = false

-- whether a record of an update is of a type that is supported, or of ANY where it names all types of an owner
abbrev pub is_supported : Record RData → Bool
is_supported r = is_supported_type (type_of_record r)
    || (is_any (type_of_record r) && is_class_any r.dns_class)

-- the same of a prerequisite, which in the class NONE may be of type ANY: the owner has no set (RFC 2136, 2.4.5)
abbrev pub is_supported_prerequisite : Record RData → Bool
is_supported_prerequisite r = is_supported r
    || (is_any (type_of_record r) && is_class_none r.dns_class)

-- whether all of an update is supported
abbrev pub is_all_supported : Sections → Bool
is_all_supported m = list_all is_supported_prerequisite m.prerequisites
    && list_all is_supported m.updates

-- The code and the zone after an update is applied: what a server makes of it; NotImp where it isn't supported, which
-- is tested first.
abbrev pub applied : Zone → Sections → ResponseCode × Zone
applied z m = if is_all_supported m then serve z m else (NotImp, z)

-- The records xs under a key after an update is applied, each as it is spelled: as they were where it isn't supported
-- or is refused.
abbrev pub records_applied : Zone → Sections → RrKey → List (Record RData) → List (Record RData)
records_applied z m k xs = if is_all_supported m then records_answered z m.updates (fault z m) k xs
    else xs

-- whether an update names the owner of a key
abbrev pub names_owner : List (Record RData) → RrKey → Bool
names_owner rs k = list_any (λ r. is_owned r.name k) rs

-- the set of an owner that no update names stays as it is, and each set with a code other than NoError
abbrev pub KeepsUnnamed : ResponseCode → List (Record RData) → BTreeMap RrKey SetValue
    → BTreeMap RrKey SetValue → Type 0
KeepsUnnamed code rs old new =
    ((k : RrKey) → names_owner rs k ≡ false → tree.get key_cmp new k ≡ tree.get key_cmp old k)
    × (code ≢ NoError → tree.IsUnchanged old new)

-- the records of a set that may be there
abbrev pub records_in : Option SetValue → List (Record RData)
records_in (Some s) = s.records
records_in None = []

-- those under a key
abbrev pub records_at : BTreeMap RrKey SetValue → RrKey → List (Record RData)
records_at m k = records_in (tree.get key_cmp m k)

-- each record of the new map is one of the old map's set under the same key, or one of rs
abbrev pub TakesFrom : List (Record RData) → BTreeMap RrKey SetValue → BTreeMap RrKey SetValue
    → Type 0
TakesFrom rs old new = (k : RrKey) (x : Record RData) → IsAmong (records_at new k) x
    → IsAmong (records_at old k) x ⊎ IsAmong rs x

-- each set of the new map is the one that the old map has under that key, or has the TTL of the last of its records
abbrev pub TakesTtls : BTreeMap RrKey SetValue → BTreeMap RrKey SetValue → Type 0
TakesTtls old new = (k : RrKey) (s : SetValue) → tree.get key_cmp new k ≡ Some s
    → (tree.get key_cmp old k ≡ Some s) ⊎ (s.ttl ≡ last_ttl s.records)

-- a set whose records are the same stays as it is, in every field
abbrev pub KeepsSame : BTreeMap RrKey SetValue → BTreeMap RrKey SetValue → Type 0
KeepsSame old new = (k : RrKey) → records_at new k ≡ records_at old k
    → tree.get key_cmp new k ≡ tree.get key_cmp old k

-- each set is what it was, in every field
abbrev pub HasSameSets : BTreeMap RrKey SetValue → BTreeMap RrKey SetValue → Type 0
HasSameSets old new = (k : RrKey) → tree.get key_cmp new k ≡ tree.get key_cmp old k

-- whether some set is another than it was, in some field
abbrev pub IsChangeTold : Bool → BTreeMap RrKey SetValue → BTreeMap RrKey SetValue → Type 0
IsChangeTold true old new = (k : RrKey) × (tree.get key_cmp new k ≢ tree.get key_cmp old k)
IsChangeTold false old new = HasSameSets old new

-- The code and the new map are those that a server makes of the zone; the new map may be updated again; what no update
-- names stays; each record was there or came with the updates; each set was there or has the TTL of the last of its
-- records; which records, how spelled and in which order is told too; and a set whose records are the same stays.
pub record IsApplied (origin : NameValue) (class : DNSClass) (s : Sections)
    (old : BTreeMap RrKey SetValue) (code : ResponseCode) (new : BTreeMap RrKey SetValue)
    : Type 0 where
  pub served : (code, zone_of_map origin class new) ≡ applied (zone_of_map origin class old) s
  pub is_map : IsZoneMap class new
  pub others : KeepsUnnamed code s.updates old new
  pub taken : TakesFrom s.updates old new
  pub ttls : TakesTtls old new
  pub exact : (k : RrKey)
      → records_at new k ≡ records_applied (zone_of_map origin class old) s k (records_at old k)
  pub kept : KeepsSame old new
