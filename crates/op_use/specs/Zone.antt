-- A zone, as a primary server holds it (RFC 1034, 4.2; RFC 2136, 1.1).
use Rattle.std.specs.Prelude.{Bool, List, [], ◌∷◌, ◌≢◌, ◌&&◌, ◌||◌, ℕ, Some, unwrap_or}
use Rattle.std.specs.List.{IsDistinct, list_any}
use Rattle.std.specs.Ordering.{on}
use Rattle.std.specs.FinMap as fin
use Rattle.std.specs.FinMap.{FinMap}
use Rattle.base.specs.names.Labels.{NameValue}
use Rattle.base.specs.names.NameOrder.{lowered, same_lower, same_name}
use Rattle.base.specs.RrKey.{key_cmp}
use Rattle.base.specs.declared.dns_class.DNSClass.{DNSClass}
use Rattle.base.specs.declared.record_type.RecordType.{RecordType}
use Rattle.base.specs.declared.rr_key.RrKey.{RrKey}
use Rattle.base_data.specs.SameData.{same_data}
use Rattle.base_data.specs.declared.rdata.RData.{RData}
use Rattle.rr.specs.RecordSet.{is_ns, is_soa}

-- data with its TTL
pub record Datum : Type 0 where
  pub rdata : RData
  pub ttl : ℕ

-- a zone: its origin, its class, and the data under each owner in lower case and type
pub record Zone : Type 0 where
  pub origin : NameValue
  pub class : DNSClass
  pub sets : FinMap key_cmp (List Datum)

-- what is under a key
abbrev pub at : Zone → RrKey → List Datum
at z k = unwrap_or (fin.get z.sets k) []

-- whether there is a set under a key
abbrev pub has_set : Zone → RrKey → Bool
has_set z k = fin.contains_key z.sets k

-- the sets with xs under a key, which goes where xs is empty
abbrev pub with_set : FinMap key_cmp (List Datum) → RrKey → List Datum → FinMap key_cmp (List Datum)
with_set sets k [] = fin.remove sets k
with_set sets k (x ∷ xs) = fin.insert sets k (x ∷ xs)

-- the zone with other data under a key, which goes where there is none
abbrev pub put : Zone → RrKey → List Datum → Zone
put z k xs = record z { sets = with_set z.sets k xs }

-- no set is empty, and none has two equal data
pub record IsZone (z : Zone) : Type 0 where
  pub filled : (k : RrKey) → fin.get z.sets k ≢ Some []
  pub distinct : (k : RrKey) → IsDistinct (on (λ (d : Datum). d.rdata) same_data) (at z k)

-- whether a key is of an owner
abbrev pub is_owned : NameValue → RrKey → Bool
is_owned owner k = same_lower (lowered owner) k.name

-- whether an owner has a set whose type passes a test
abbrev pub has_type_at : Zone → NameValue → (RecordType → Bool) → Bool
has_type_at z owner test = list_any (λ k. is_owned owner k && test k.record_type) (fin.keys z.sets)

-- SOA and NS stay at the origin (RFC 2136, 3.4.2.3 and 3.4.2.4)
abbrev pub is_guarded : Zone → NameValue → RecordType → Bool
is_guarded z owner type = same_name owner z.origin && (is_soa type || is_ns type)
