-- The messages of a zone transfer (RFC 5936, 2.2).
use Rattle.authority.specs.Answer.{with_authority}
use Rattle.authority.specs.Lookup.{least_ttl, record_of, records_of, shown}
use Rattle.authority.specs.Reply.{framed, header_refusal, one_question, only_code}
use Rattle.authority.specs.declared.transferring.TransferPlace.TheVariants as places
use Rattle.authority.specs.declared.transferring.TransferPlace.{TransferPlace}
use Rattle.base.specs.declared.dns_class.DNSClass.{DNSClass}
use Rattle.base.specs.declared.limits.TheConstants.{MAX_MESSAGE}
use Rattle.base.specs.declared.record_type.RecordType.TheVariants as types
use Rattle.base.specs.declared.record_type.RecordType.{RecordType}
use Rattle.base.specs.declared.rr_key.RrKey.{RrKey}
use Rattle.base.specs.names.Labels.{NameValue}
use Rattle.base.specs.names.NameOrder.{same_name}
use Rattle.base.specs.names.Parents.{is_at_or_below}
use Rattle.base.specs.RrKey.{key_cmp, key_of}
use Rattle.base_data.specs.declared.rdata.RData.{RData}
use Rattle.op.specs.Fits.{plain_queries}
use Rattle.op.specs.Message.{MessageValue}
use Rattle.op.specs.MessageType.{is_response}
use Rattle.op.specs.MessageWritten.{AreWhole, parts_of}
use Rattle.op.specs.declared.query.Query.{Query}
use Rattle.op.specs.declared.response_code.ResponseCode.TheVariants.{FormErr, NoError, NotAuth, NotImp, Refused}
use Rattle.op.specs.declared.response_code.ResponseCode.TheVariants.{ServFail}
use Rattle.op_use.specs.Applying.{data_in_set}
use Rattle.op_use.specs.NamedChanges.{datum_of}
use Rattle.op_use.specs.Server.{StepCode, and_then, unless}
use Rattle.op_use.specs.Zone.{Datum, Zone}
use Rattle.rr.specs.Record.{plain_record}
use Rattle.rr.specs.RecordOrder.{same_class}
use Rattle.rr.specs.RecordSet.{SetValue, is_soa}
use Rattle.rr.specs.declared.record.Record.{Record}
use Rattle.std.specs.BTreeMap.Range.{entries_between}
use Rattle.std.specs.BTreeMap.{BTreeMap, get}
use Rattle.std.specs.FinMap as fin
use Rattle.std.specs.List.{filter, flat_map}
use Rattle.std.specs.Prelude.{Bool, List, None, Option, Some, [], drop, false, if◌then◌else◌, is_some, map, not, true}
use Rattle.std.specs.Prelude.{ℕ, slice_get, ◌&&◌, ◌+◌, ◌++◌, ◌-◌, ◌<◌, ◌||◌, ◌∷◌, ◌≡◌, ◌≢◌, ◌≤◌, ◌⊎◌}
use Rattle.std.specs.declared.ops.Bound.TheVariants.{Included, Unbounded}

-- the records of a set from its record of a number on, but for those without data, each with the least TTL (RFC 2181,
-- 5.2)
abbrev pub records_from : DNSClass → ℕ → SetValue → List (Record RData)
records_from class j s = map (record_of class s.name (least_ttl (shown (data_in_set s))))
    (shown (map datum_of (drop j s.records)))

-- whether the set under a key stands between the two SOAs: it is at the origin or below it, and isn't the SOA
abbrev pub is_between : NameValue → RrKey → Bool
is_between origin k =
    is_at_or_below origin k.name && not (is_soa k.record_type && same_name k.name origin)

-- the records that a set under a key gives, from its record of a number on
abbrev pub given : NameValue → DNSClass → ℕ → RrKey × SetValue → List (Record RData)
given origin class j e = if is_between origin e.0 then records_from class j e.1 else []

-- the records of these sets, of the first those from its record of a number on
abbrev pub given_from : NameValue → DNSClass → ℕ → List (RrKey × SetValue) → List (Record RData)
given_from origin class j [] = []
given_from origin class j (e ∷ es) = given origin class j e ++ flat_map (given origin class 0) es

-- the records of a zone between the two SOAs, glue and names below cuts among them, in the order of their keys
abbrev pub between : NameValue → DNSClass → BTreeMap RrKey SetValue → List (Record RData)
between origin class sets = flat_map (given origin class 0) sets.entries

-- the records of a zone's sets at the origin or below it but for the SOA, set by set in the order of their keys
abbrev pub zone_records : Zone → List (Record RData)
zone_records z = flat_map (λ (e : RrKey × List Datum). records_of z.class e.0.name e.1)
    (filter (λ (e : RrKey × List Datum). is_between z.origin e.0) (fin.entries z.sets))

-- the first record of the set of an SOA
abbrev pub first_of : DNSClass → Option SetValue → Option (Record RData)
first_of class (Some s) = slice_get (records_from class 0 s) 0
first_of class None = None

-- the SOA of a zone
abbrev pub soa_of : NameValue → DNSClass → BTreeMap RrKey SetValue → Option (Record RData)
soa_of origin class sets = first_of class (get key_cmp sets (key_of origin types.SOA))

-- the records of a transfer that are left at a place; at its start those are the SOA, the others and the SOA once more
abbrev pub left_at : NameValue → DNSClass → BTreeMap RrKey SetValue → Record RData → TransferPlace
    → List (Record RData)
left_at origin class sets soa places.Start = soa ∷ (between origin class sets ++ soa ∷ [])
left_at origin class sets soa (places.Records k j) =
    given_from origin class j (entries_between key_cmp (Included k) Unbounded sets.entries) ++ soa ∷ []
left_at origin class sets soa places.LastSoa = soa ∷ []
left_at origin class sets soa places.End = []

-- the type AXFR
abbrev pub is_axfr : RecordType → Bool
is_axfr types.AXFR = true
is_axfr _ = false

-- what a question is refused with, if it is: of another class; of another type than AXFR; of another name than the
-- origin
abbrev pub axfr_refusal : NameValue → DNSClass → Query → StepCode
axfr_refusal origin class q =
    and_then (unless (same_class q.query_class class && not q.mdns_unicast_response) Refused)
    (and_then (unless (is_axfr q.query_type) NotImp) (unless (same_name q.name origin) NotAuth))

-- the same of questions, of which there is to be one (RFC 9619)
abbrev pub one_axfr_refusal : NameValue → DNSClass → List Query → StepCode
one_axfr_refusal origin class (q ∷ []) = axfr_refusal origin class q
one_axfr_refusal origin class _ = Some FormErr

-- what a message that asks for a transfer is refused with, if it is; of a zone without SOA all are
abbrev pub transfer_refusal : NameValue → DNSClass → BTreeMap RrKey SetValue → MessageValue → StepCode
transfer_refusal origin class sets m =
    and_then (header_refusal m)
    (and_then (one_axfr_refusal origin class m.queries)
    (unless (is_some (soa_of origin class sets)) ServFail))

-- a place at which nothing is left
abbrev pub is_end : TransferPlace → Bool
is_end places.End = true
is_end _ = false

-- the questions of a message of a transfer: the first has the question of the query
abbrev pub questions_at : TransferPlace → List Query → List Query
questions_at places.Start qs = qs
questions_at _ qs = []

-- a message of a transfer, with these answers and AA
abbrev pub transferring : MessageValue → TransferPlace → List (Record RData) → MessageValue
transferring m place rs = record (framed m (with_authority NoError rs [] [])) {
  queries = questions_at place (one_question m.queries);
}

-- the bytes of records without compression
abbrev pub plain_records : List (Record RData) → ℕ
plain_records [] = 0
plain_records (r ∷ rs) = plain_record r + plain_records rs

-- The first of these records has no room in so many bytes, uncompressed.
pub record IsFull (room : ℕ) (rs : List (Record RData)) : Type 0 where
  pub first : Record RData
  pub more : List (Record RData)
  pub stands : rs ≡ first ∷ more
  pub passes : room < plain_record first

-- the bytes for answers beside the header, the question and EDNS
abbrev pub room_beside : List Query → ℕ
room_beside qs = MAX_MESSAGE - (12 + 11 + plain_queries qs)

-- A message of a transfer with this SOA, and the place after it: its answers, one at least, are the next of those that
-- are left, and have room without compression; none of it is cut; and it ends only with the last, or before one that
-- has no room.
pub record IsNext (origin : NameValue) (class : DNSClass) (sets : BTreeMap RrKey SetValue) (soa : Record RData)
    (query : MessageValue) (place : TransferPlace) (message : MessageValue) (next : TransferPlace) : Type 0 where
  pub answers : List (Record RData)
  pub is_message : message ≡ transferring query place answers
  pub in_order : left_at origin class sets soa place ≡ answers ++ left_at origin class sets soa next
  pub some : answers ≢ []
  pub fits : plain_records answers ≤ room_beside query.queries
  pub whole : AreWhole (parts_of MAX_MESSAGE message 12 [])
  pub full : (is_end next ≡ true)
      ⊎ IsFull (room_beside query.queries - plain_records answers) (left_at origin class sets soa next)

-- that is what comes next
abbrev pub IsNextOf : NameValue → DNSClass → BTreeMap RrKey SetValue → Record RData → MessageValue → TransferPlace
    → Option (MessageValue × TransferPlace) → Type 0
IsNextOf origin class sets soa query place (Some r) = IsNext origin class sets soa query place r.0 r.1
IsNextOf origin class sets soa query place None = ⊥

-- What comes next in a transfer: nothing to a response, nor at the end; the code of a refusal alone, and the end; or
-- the next message.
abbrev pub IsStep : NameValue → DNSClass → BTreeMap RrKey SetValue → MessageValue → TransferPlace → Bool → StepCode
    → Option (MessageValue × TransferPlace) → Type 0
IsStep origin class sets m place true refusal o = o ≡ None
IsStep origin class sets m place false (Some code) o = o ≡ Some (framed m (only_code code), places.End)
IsStep origin class sets m place false None o = (soa : Record RData) × (soa_of origin class sets ≡ Some soa)
    × IsNextOf origin class sets soa m place o

-- whether nothing is sent
abbrev pub is_silent : MessageValue → TransferPlace → Bool
is_silent m place = is_response m.metadata.message_type || is_end place

-- what comes next in the transfer that a message asks for
abbrev pub IsTransferred : NameValue → DNSClass → BTreeMap RrKey SetValue → MessageValue → TransferPlace
    → Option (MessageValue × TransferPlace) → Type 0
IsTransferred origin class sets m place o =
    IsStep origin class sets m place (is_silent m place) (transfer_refusal origin class sets m) o

-- The first record that is left has no room in a message of its own.
pub record IsTooLarge (origin : NameValue) (class : DNSClass) (sets : BTreeMap RrKey SetValue)
    (query : MessageValue) (place : TransferPlace) : Type 0 where
  pub soa : Record RData
  pub is_soa : soa_of origin class sets ≡ Some soa
  pub full : IsFull (room_beside query.queries) (left_at origin class sets soa place)
