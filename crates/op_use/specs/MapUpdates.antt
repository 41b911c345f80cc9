-- What one update, and one after the other, makes of a map of record sets (RFC 2136, 3.4.2).
use Rattle.base.specs.names.Labels.{NameValue}
use Rattle.base.specs.RrKey.{key_cmp}
use Rattle.base.specs.declared.dns_class.DNSClass.{DNSClass}
use Rattle.base.specs.declared.rr_key.RrKey.{RrKey}
use Rattle.base_data.specs.declared.rdata.RData.{RData}
use Rattle.op_use.specs.AppliedRecords.{records_after}
use Rattle.op_use.specs.Applying.{IsZoneMap, IsZoneSet, records_at, records_in, zone_of_map}
use Rattle.op_use.specs.HeldZone.{HeldZone, zone_held}
use Rattle.op_use.specs.NamedChanges.{is_key_left}
use Rattle.op_use.specs.Server.{OfAny, OfNone, OfNothing, OfZone, Use as UseValue, is_under}
use Rattle.op_use.specs.Zone.{Zone}
use Rattle.op_use.specs.declared.apply.rules.Use.TheVariants as uses
use Rattle.op_use.specs.declared.apply.rules.Use.{Use}
use Rattle.rr.specs.RecordSet.{SetValue}
use Rattle.rr.specs.SetChanges.{last_ttl}
use Rattle.rr.specs.declared.record.Record.{Record}
use Rattle.std.specs.BTreeMap as tree
use Rattle.std.specs.BTreeMap.{BTreeMap}
use Rattle.std.specs.List.{list_any}
use Rattle.std.specs.Ordering.{eq_by_cmp}
use Rattle.std.specs.Prelude.{Bool, List, None, Option, Some, cond, false, true, ◌≡◌, ◌⊎◌}

-- whether an update names the set under a key
abbrev pub names_set : List (Record RData) → RrKey → Bool
names_set rs k = list_any (λ r. is_under r k) rs

-- What stands under a key after the updates rs of a zone, where old stood: a set that the zone may have there, of the
-- records that the updates leave. It is the old set, or an update names it and it has the TTL of the last of its
-- records.
pub record IsLeft (z : Zone) (rs : List (Record RData)) (k : RrKey)
    (old new : Option SetValue) : Type 0 where
  pub fits : (s : SetValue) → new ≡ Some s → IsZoneSet z.class k s
  pub exact : records_in new ≡ records_after z rs k (records_in old)
  pub source : (s : SetValue) → new ≡ Some s
      → (old ≡ Some s) ⊎ ((names_set rs k ≡ true) × (s.ttl ≡ last_ttl s.records))

-- the new map is the old one after the updates rs
abbrev pub IsAfter : NameValue → DNSClass → List (Record RData) → BTreeMap RrKey SetValue
    → BTreeMap RrKey SetValue → Type 0
IsAfter origin class rs old new = (k : RrKey)
    → IsLeft (zone_of_map origin class old) rs k (tree.get key_cmp old k) (tree.get key_cmp new k)

-- the new map has a set of these records under a key, the one that was there or with the TTL of the last, none where
-- there are none, and else what the old one has
pub record IsSetTo (class : DNSClass) (k : RrKey) (xs : List (Record RData))
    (old new : BTreeMap RrKey SetValue) : Type 0 where
  pub records : records_at new k ≡ xs
  pub fits : (s : SetValue) → tree.get key_cmp new k ≡ Some s → IsZoneSet class k s
  pub ttl : (s : SetValue) → tree.get key_cmp new k ≡ Some s
      → (tree.get key_cmp old k ≡ Some s) ⊎ (s.ttl ≡ last_ttl s.records)
  pub others : (q : RrKey) → eq_by_cmp key_cmp k q ≡ false
      → tree.get key_cmp new q ≡ tree.get key_cmp old q

-- the new zone is the old one with sets of which R holds
pub record HasSets (R : HeldZone → BTreeMap RrKey SetValue → Type 0)
    (old new : HeldZone) : Type 0 where
  pub rest : new ≡ record old { sets = new.sets }
  pub holds : R old new.sets

-- the new zone is the old one after the updates rs
abbrev pub IsUpdated : List (Record RData) → HeldZone → HeldZone → Type 0
IsUpdated rs = HasSets (λ z sets. IsZoneMap z.class z.sets
    → IsAfter z.origin z.class rs z.sets sets)

-- the new zone has these records under a key, and else what the old one has
abbrev pub HoldsAt : RrKey → List (Record RData) → HeldZone → HeldZone → Type 0
HoldsAt k xs = HasSets (λ z sets. IsSetTo z.class k xs z.sets sets)

-- the new zone is the old one without the sets of an owner, of which SOA and NS stay at the origin
abbrev pub LacksOwner : NameValue → HeldZone → HeldZone → Type 0
LacksOwner owner = HasSets (λ z sets. (q : RrKey) → tree.get key_cmp sets q
    ≡ cond (is_key_left (zone_held z) owner q) (tree.get key_cmp z.sets q) None)

-- whether a key is among others
abbrev pub has_key : RrKey → List RrKey → Bool
has_key q ks = list_any (eq_by_cmp key_cmp q) ks

-- the new map is the old one without the sets under these keys
abbrev pub LacksKeys : List RrKey → BTreeMap RrKey SetValue → BTreeMap RrKey SetValue → Type 0
LacksKeys ks old new = (q : RrKey)
    → tree.get key_cmp new q ≡ cond (has_key q ks) None (tree.get key_cmp old q)

-- the new zone has the sets of the old one that stand under these keys
abbrev pub Opens : List RrKey → HeldZone → HeldZone → Type 0
Opens ks = HasSets (λ z sets. (q : RrKey)
    → tree.get key_cmp sets q ≡ cond (has_key q ks) (tree.get key_cmp z.sets q) None)

-- how an update's class reads
abbrev pub use_value : Use → UseValue
use_value uses.OfAny = OfAny
use_value uses.OfNone = OfNone
use_value uses.OfZone = OfZone
use_value uses.OfNothing = OfNothing
