-- what a server does with an update
use Rattle.std.specs.Prelude.{Bool, true, false, not, List, [], ◌∷◌, ◌++◌, ◌&&◌, ◌||◌, ◌==◌, nat_le, map, length}
use Rattle.std.specs.Prelude.{if◌then◌else◌, Option, Some, None}
use Rattle.std.specs.FinMap as fin
use Rattle.std.specs.List.{filter, list_any, list_all, fold}
use Rattle.base.specs.names.NameOrder.{is_zone_of, same_name}
use Rattle.base_data.specs.RData.{is_empty_data}
use Rattle.base_data.specs.declared.rdata.RData.{RData}
use Rattle.base.specs.RecordType.{type_number}
use Rattle.base.specs.declared.record_type.RecordType.{RecordType}
use Rattle.base.specs.declared.record_type.RecordType.TheVariants as types
use Rattle.base.specs.declared.dns_class.DNSClass.{DNSClass}
use Rattle.base.specs.declared.dns_class.DNSClass.TheVariants as classes
use Rattle.op.specs.declared.response_code.ResponseCode.{ResponseCode}
use Rattle.op.specs.declared.response_code.ResponseCode.TheVariants.{NoError, FormErr, NXDomain, YXDomain, YXRRSet}
use Rattle.op.specs.declared.response_code.ResponseCode.TheVariants.{NXRRSet, NotAuth, NotZone}
use Rattle.rr.specs.declared.record.Record.{Record}
use Rattle.base.specs.declared.rr_key.RrKey.{RrKey}
use Rattle.base.specs.RrKey.{key_cmp, key_of}
use Rattle.std.specs.Ordering.{eq_by_cmp}
use Rattle.rr.specs.RecordSet.{is_soa}
use Rattle.rr.specs.RecordOrder.{same_class}
use Rattle.op.specs.Message.{MessageValue}
use Rattle.op.specs.declared.query.Query.{Query}
use Rattle.op_use.specs.Zone.{Datum, Zone, at, has_set, has_type_at, is_guarded, is_owned, put}
use Rattle.op_use.specs.NamedChanges.{datum_of, is_data_of}
use Rattle.rr.specs.Record.{record_key, type_of_record}

-- the sections of an update
pub record Sections : Type 0 where
  pub zones : List Query
  pub prerequisites : List (Record RData)
  pub updates : List (Record RData)

-- the sections of a message as those of an update
abbrev pub sections_of : MessageValue → Sections
sections_of m = record { zones = m.queries; prerequisites = m.answers; updates = m.authorities }

-- the type ANY
abbrev pub is_any : RecordType → Bool
is_any types.ANY = true
is_any _ = false

-- the type CNAME
abbrev pub is_cname : RecordType → Bool
is_cname types.CNAME = true
is_cname _ = false

-- query and meta types
abbrev pub is_meta : RecordType → Bool
is_meta type = nat_le 128 (type_number type) && nat_le (type_number type) 255

-- what a record's class asks for: ANY and NONE are looked at before the zone's class
pub data Use : Type 0 where
  OfAny : Use
  OfNone : Use
  OfZone : Use
  OfNothing : Use

-- what a class asks for in an update of a zone of a class (RFC 2136, 2.4 and 2.5)
abbrev pub use_of : DNSClass → DNSClass → Use
use_of zone_class classes.ANY = OfAny
use_of zone_class classes.NONE = OfNone
use_of zone_class class = if same_class class zone_class then OfZone else OfNothing

-- the first code of a step, if it fails
abbrev pub StepCode : Type 0
StepCode = Option ResponseCode

-- the first code of two steps
abbrev pub and_then : StepCode → StepCode → StepCode
and_then (Some code) next = Some code
and_then None next = next

-- the first code of a step over records
abbrev pub first_fault : (Record RData → StepCode) → List (Record RData) → StepCode
first_fault step [] = None
first_fault step (r ∷ rs) = and_then (step r) (first_fault step rs)

-- a code where a test fails
abbrev pub unless : Bool → ResponseCode → StepCode
unless true code = None
unless false code = Some code

-- 1. the zone section
abbrev pub zone_fault : Zone → List Query → StepCode
zone_fault z (q ∷ []) =
    and_then (unless (is_soa q.query_type) FormErr)
    (unless (same_name q.name z.origin && same_class q.query_class z.class) NotAuth)
zone_fault z _ = Some FormErr

-- 2. a prerequisite: whether the set that it names is there, or any of its owner
abbrev pub is_found : Zone → Record RData → Bool
is_found z r = if is_any (type_of_record r) then has_type_at z r.name (λ _. true)
    else has_set z (record_key r)

-- what is wrong with it, where it is known whether what it names is there
abbrev pub prerequisite_by : Use → Bool → Record RData → StepCode
prerequisite_by OfAny found r =
    and_then (unless (is_empty_data r.rdata) FormErr)
    (unless found (if is_any (type_of_record r) then NXDomain else NXRRSet))
prerequisite_by OfNone found r =
    and_then (unless (is_empty_data r.rdata) FormErr)
    (unless (not found) (if is_any (type_of_record r) then YXDomain else YXRRSet))
prerequisite_by OfZone found r = None
prerequisite_by OfNothing found r = Some FormErr

-- what is wrong with one prerequisite (RFC 2136, 3.2.5)
abbrev pub prerequisite_fault : Zone → Record RData → StepCode
prerequisite_fault z r =
    and_then (unless (r.ttl == 0) FormErr)
    (and_then (unless (is_zone_of z.origin r.name) NotZone)
    (prerequisite_by (use_of z.class r.dns_class) (is_found z r) r))

-- whether a record is of the zone's class
abbrev pub is_of_zone : Use → Bool
is_of_zone OfZone = true
is_of_zone _ = false

-- the prerequisites of the zone's class
abbrev pub collected : Zone → List (Record RData) → List (Record RData)
collected z rs = filter (λ r. is_of_zone (use_of z.class r.dns_class)) rs

-- whether two records are of one set
abbrev pub is_same_key : Record RData → Record RData → Bool
is_same_key a b = eq_by_cmp key_cmp (record_key a) (record_key b)

-- whether the zone's set of a record has the same data as the collected set
abbrev pub is_met : Zone → List (Record RData) → Record RData → Bool
is_met z rs r =
    list_any (λ d. is_data_of d r) (at z (record_key r))
    && list_all (λ d. list_any (λ q. is_same_key r q && is_data_of d q) rs) (at z (record_key r))

-- what is wrong with the prerequisites, first each by itself (RFC 2136, 3.2)
abbrev pub prerequisites_fault : Zone → List (Record RData) → StepCode
prerequisites_fault z rs =
    and_then (first_fault (prerequisite_fault z) rs)
    (unless (list_all (is_met z (collected z rs)) (collected z rs)) NXRRSet)

-- 3. the prescan of an update
abbrev pub prescan_by : Use → Record RData → StepCode
prescan_by OfZone r = unless (not (is_meta (type_of_record r))) FormErr
prescan_by OfAny r =
    unless (r.ttl == 0 && is_empty_data r.rdata
    && (not (is_meta (type_of_record r)) || is_any (type_of_record r))) FormErr
prescan_by OfNone r = unless (r.ttl == 0 && not (is_meta (type_of_record r))) FormErr
prescan_by OfNothing r = Some FormErr

-- what is wrong with one update (RFC 2136, 3.4.1.3)
abbrev pub prescan_fault : Zone → Record RData → StepCode
prescan_fault z r =
    and_then (unless (is_zone_of z.origin r.name) NotZone)
    (prescan_by (use_of z.class r.dns_class) r)

-- 4. equal data is replaced at its place, other data goes last
abbrev pub added : List Datum → Record RData → List Datum
added xs r = if list_any (λ d. is_data_of d r) xs
    then map (λ d. if is_data_of d r then datum_of r else d) xs else xs ++ datum_of r ∷ []

-- without the data
abbrev pub removed : List Datum → Record RData → List Datum
removed xs r = filter (λ d. not (is_data_of d r)) xs

-- whether a record isn't added: a CNAME beside another type, another type beside a CNAME (3.4.2.2)
abbrev pub is_kept_out : Zone → Record RData → Bool
is_kept_out z r = if is_cname (type_of_record r) then has_type_at z r.name (λ t. not (is_cname t))
    else has_set z (key_of r.name types.CNAME)

-- a CNAME stands alone in its set, another record among others
abbrev pub alone_or : {X : Type 0} → Record RData → X → List X → List X
alone_or r x xs = if is_cname (type_of_record r) then x ∷ [] else xs

-- the data of a set with a record's
abbrev pub with_datum : Record RData → List Datum → List Datum
with_datum r xs = alone_or r (datum_of r) (added xs r)

-- whether a record stands under a key
abbrev pub is_under : Record RData → RrKey → Bool
is_under r k = eq_by_cmp key_cmp (record_key r) k

-- whether a set is deleted: the one that is named, or each of the owner; at the origin SOA and NS stay (3.4.2.3)
abbrev pub goes_with : Zone → Record RData → RrKey → Bool
goes_with z r k =
    if is_any (type_of_record r) then is_owned r.name k && not (is_guarded z r.name k.record_type)
    else not (is_guarded z r.name (type_of_record r)) && is_under r k

-- whether a record isn't deleted: an SOA, or the last name server at the origin (3.4.2.4)
abbrev pub is_needed : Zone → Record RData → Bool
is_needed z r = is_soa (type_of_record r)
    || (is_guarded z r.name (type_of_record r) && nat_le (length (at z (record_key r))) 1)

-- an update
abbrev pub update_by : Use → Zone → Record RData → Zone
update_by OfZone z r = if is_kept_out z r then z
    else put z (record_key r) (with_datum r (at z (record_key r)))
update_by OfAny z r = record z { sets = fin.retain_keys z.sets (λ k. not (goes_with z r k)) }
update_by OfNone z r = if is_needed z r then z
    else put z (record_key r) (removed (at z (record_key r)) r)
update_by OfNothing z r = z

-- what one update makes of a zone (RFC 2136, 3.4.2.7)
abbrev pub update : Zone → Record RData → Zone
update z r = update_by (use_of z.class r.dns_class) z r

-- the code of the first test that fails, if one does
abbrev pub fault : Zone → Sections → StepCode
fault z m =
    and_then (zone_fault z m.zones)
    (and_then (prerequisites_fault z m.prerequisites) (first_fault (prescan_fault z) m.updates))

-- the code of a fault and the zone as it was, or NoError and the zone after all updates
abbrev pub answer : Zone → List (Record RData) → StepCode → ResponseCode × Zone
answer z updates (Some code) = (code, z)
answer z updates None = (NoError, fold update z updates)

-- the code and the zone after an update
abbrev pub serve : Zone → Sections → ResponseCode × Zone
serve z m = answer z m.updates (fault z m)
