-- What the callers that docs/CALLING.md quotes promise.
use Rattle.base.specs.declared.limits.TheConstants.{MAX_MESSAGE}
use Rattle.std.specs.BTreeMap.{BTreeMap}
use Rattle.std.specs.Option.{option_map}
use Rattle.std.specs.Prelude.{All, Bool, Err, List, None, Ok, Option, Result, Some, Vec, false, if◌then◌else◌, length}
use Rattle.std.specs.Prelude.{map, not, true, ℕ, ◌&&◌, ◌-◌, ◌==◌, ◌≡◌, ◌⊎◌}
use Rattle.std.specs.declared.alloc.Global.{Global}
use Rattle.base.specs.names.Labels.{NameValue}
use Rattle.base.specs.reading.Reading.{Fails as FailsToRead}
use Rattle.base.specs.texts.TextFaults.{FailsWith, Fault}
use Rattle.base.specs.declared.dns_class.DNSClass.TheVariants as classes
use Rattle.base.specs.declared.error.proto_error.ProtoError.{ProtoError}
use Rattle.base.specs.declared.error.proto_error.ProtoError.TheVariants as refusals
use Rattle.base.specs.declared.rr_key.RrKey.{RrKey}
use Rattle.base_data.specs.declared.rdata.RData.{RData}
use Rattle.op.specs.Cut.{IsWritten}
use Rattle.op.specs.Edns.{new_edns}
use Rattle.op.specs.Fits.{FitsPlain}
use Rattle.op.specs.Message.{IsMessageAt, MessageValue, empty_message, message_at}
use Rattle.op.specs.MessageWritten.{message_answer, message_bytes}
use Rattle.op.specs.MessageType.{is_response}
use Rattle.op.specs.Metadata.{response_metadata}
use Rattle.op.specs.Parts.{edns_version, payload_taken}
use Rattle.op.specs.declared.edns.Edns.{Edns}
use Rattle.op.specs.declared.op_code.OpCode.TheVariants as op_codes
use Rattle.op.specs.declared.op_code.OpCode.{OpCode}
use Rattle.op.specs.declared.response_code.ResponseCode.TheVariants.{NoError, YXRRSet}
use Rattle.op.specs.declared.response_code.ResponseCode.{ResponseCode}
use Rattle.op_use.specs.Applying.{IsApplied, IsZoneMap, zone_of_map}
use Rattle.op_use.specs.DnsResponse.{IsResponse}
use Rattle.op_use.specs.NamedChanges.{merged, set_key}
use Rattle.op_use.specs.Responses.{negative_ttl}
use Rattle.op_use.specs.Server.{sections_of}
use Rattle.op_use.specs.SoundSet.{IsSendable, NoCname, is_ordinary}
use Rattle.op_use.specs.UpdateMessage.{create, update_message}
use Rattle.op_use.specs.Zone.{Zone, has_set}
use Rattle.rr.specs.Record.{decremented}
use Rattle.rr.specs.RecordSet.{SetValue}
use Rattle.rr.specs.declared.record.Record.{Record}
use Rattle.txt.specs.Zone.{no_texts, zone_of}
use Rattle.txt.specs.ZoneSets.{ZoneSets}
use Rattle.parsed_zone.specs.Classes.{are_sets_in}
use Rattle.parsed_zone.specs.Faults.{fault_number}
use Rattle.examples.specs.declared.cache.CacheEntry.{CacheEntry}
use Rattle.examples.specs.declared.refusal.Refusal.{Refusal}
use Rattle.examples.specs.declared.refusal.Refusal.TheVariants as refused

-- ---- an answer to a query

-- whether this asks for records (RFC 1035, 4.1.1)
abbrev pub is_standard : OpCode → Bool
is_standard op_codes.Query = true
is_standard _ = false

-- whether a message is a query, of EDNS version 0 or without EDNS (RFC 1035, 4.1.1; RFC 6891, 6.1.3)
abbrev pub is_query : MessageValue → Bool
is_query m = not (is_response m.metadata.message_type)
    && (is_standard m.metadata.op_code && edns_version m.edns == 0)

-- EDNS of a response: a query with EDNS is answered with EDNS (RFC 6891, 6.1.1)
abbrev pub response_edns : Option Edns → Option Edns
response_edns None = None
response_edns (Some edns) = Some new_edns

-- the response to a query that has these answers (RFC 1035, 4.1.1; RFC 6895, 2)
abbrev pub response_to : MessageValue → List (Record RData) → MessageValue
response_to query answers =
    record (empty_message (response_metadata query.metadata)) {
      queries = query.queries;
      answers = answers;
      edns = response_edns query.edns;
    }

-- A query begins the bytes that were received. What was sent is what writing the response under what the client takes
-- gives; if each answer fits the wire, it is a cut of the response, and is read as that cut.
pub record IsQueryAnswered (received : List ℕ) (answers : List (Record RData))
    (sent : List ℕ) : Type 0 where
  pub query : MessageValue
  pub end : ℕ
  pub stands : IsMessageAt received 0 query end
  pub asks : is_query query ≡ true
  pub exact : message_answer (payload_taken query.edns) (response_to query answers) ≡ Ok sent
  pub cut : All (FitsPlain query.metadata.op_code) answers
      → IsWritten (response_to query answers) (payload_taken query.edns) sent

-- A message that is no such query begins the bytes that were received.
pub record IsNoQuery (received : List ℕ) : Type 0 where
  pub message : MessageValue
  pub end : ℕ
  pub stands : IsMessageAt received 0 message end
  pub other : is_query message ≡ false

-- what is sent, if anything is, for what was received
abbrev pub AnswersReceived : List ℕ → List (Record RData) → Option (Vec ℕ Global) → Type 0
AnswersReceived received answers (Some sent) = IsQueryAnswered received answers sent.items
AnswersReceived received answers None = IsNoQuery received

-- Writing the response to a query is refused so, since what the client takes has no room for the questions.
pub record IsUnwritten (received : List ℕ) (answers : List (Record RData))
    (e : ProtoError) : Type 0 where
  pub query : MessageValue
  pub end : ℕ
  pub stands : IsMessageAt received 0 query end
  pub exact : message_answer (payload_taken query.edns) (response_to query answers) ≡ Err e

-- why there was no answer: what reading met, questions without room, or memory ran out
abbrev pub IsUnanswered : List ℕ → List (Record RData) → ProtoError → Type 0
IsUnanswered received answers (refusals.Decode fault) = FailsToRead fault (message_at received 0)
IsUnanswered received answers refusals.Memory = Unit {0}
IsUnanswered received answers e = IsUnwritten received answers e

-- ---- a cache entry

-- A response begins the bytes; the entry has its answers with `seconds` off their TTLs, down to 0, and its negative TTL
-- with `seconds` off too (RFC 1035, 3.2.1; RFC 2308, 5).
pub record IsCached (received : List ℕ) (seconds : ℕ) (entry : CacheEntry) : Type 0 where
  pub response : MessageValue
  pub end : ℕ
  pub stands : IsMessageAt received 0 response end
  pub is_response : IsResponse response
  pub answers : entry.answers.items ≡ map (decremented seconds) response.answers
  pub negative : entry.negative_ttl ≡ option_map (λ ttl. ttl - seconds) (negative_ttl response)

-- ---- an update of a zone

-- these sets are the zone of the text under the origin, and updates of the class IN may be applied to them
pub record IsZoneOfText (origin : NameValue) (text : List ℕ) (sets : BTreeMap RrKey SetValue) : Type
    0 where
  pub last_origin : NameValue
  pub parsed : zone_of no_texts (Some origin) text ≡ Ok (last_origin, sets.entries)
  pub is_map : IsZoneMap classes.IN sets

-- a message begins the bytes, and was not cut
pub record IsReceived (bytes : List ℕ) (m : MessageValue) : Type 0 where
  pub end : ℕ
  pub stands : IsMessageAt bytes 0 m end
  pub whole : m.metadata.truncation ≡ false

-- what creating a set makes of a zone: the set is merged into it, or YXRRSet where it has one of that owner and type
abbrev pub creation : Zone → SetValue → ResponseCode × Zone
creation z s = if has_set z (set_key s) then (YXRRSet, z) else (NoError, merged z s)

-- the message that asks for a set to be created
abbrev pub creating : NameValue → SetValue → MessageValue
creating origin s = update_message 1 false (create s origin)

-- The zone of the text, before the update that creates a set and after it: what a server makes of it by what was
-- received, and what that is for a set of an ordinary type.
pub record IsCreated (origin : NameValue) (text : List ℕ) (s : SetValue) (code : ResponseCode)
    (new : BTreeMap RrKey SetValue) : Type 0 where
  pub old : BTreeMap RrKey SetValue
  pub before : IsZoneOfText origin text old
  pub update : MessageValue
  pub applied : IsApplied origin classes.IN (sections_of update) old code new
  pub change : IsSendable origin s → is_ordinary s.record_type ≡ true → s.dns_class ≡ classes.IN
      → NoCname (zone_of_map origin classes.IN old) s.name
      → ◌≡◌ {A = ResponseCode × Zone} (code, zone_of_map origin classes.IN new)
      (creation (zone_of_map origin classes.IN old) s)

-- a zone of the text, of another class than IN
pub record IsOtherZone (origin : NameValue) (text : List ℕ) : Type 0 where
  pub last_origin : NameValue
  pub sets : ZoneSets
  pub parsed : zone_of no_texts (Some origin) text ≡ Ok (last_origin, sets)
  pub other : are_sets_in sets ≡ false

-- why a text is no zone of the class IN: the parser's fault, or another class; or that memory ran out
abbrev pub IsNoZone : NameValue → List ℕ → Refusal → Type 0
IsNoZone origin text (refused.Parse e) = FailsWith e (zone_of no_texts (Some origin) text)
IsNoZone origin text refused.Class = IsOtherZone origin text
IsNoZone origin text (refused.Proto e) = e ≡ refusals.Memory
IsNoZone origin text e = ⊥

-- the bytes begin with a message that was cut
pub record IsCutShort (bytes : List ℕ) : Type 0 where
  pub message : MessageValue
  pub end : ℕ
  pub stands : IsMessageAt bytes 0 message end
  pub short : message.metadata.truncation ≡ true

-- why no whole message was received: what reading met, or it was cut
abbrev pub IsNotReceived : List ℕ → Refusal → Type 0
IsNotReceived bytes (refused.Decode fault) = FailsToRead fault (message_at bytes 0)
IsNotReceived bytes refused.Input = IsCutShort bytes
IsNotReceived bytes e = ⊥

-- why the message isn't written; or the bytes of the message, where they are not received whole
abbrev pub IsUnsent : NameValue → SetValue → Refusal → Type 0
IsUnsent origin s (refused.Proto e) =
    (e ≡ refusals.Memory) ⊎ (message_answer MAX_MESSAGE (creating origin s) ≡ Err e)
IsUnsent origin s e =
    let bytes = message_bytes MAX_MESSAGE (creating origin s) in
    (IsSendable origin s → IsWritten (creating origin s) MAX_MESSAGE bytes) × IsNotReceived bytes e

-- ---- zone text that is checked

-- how many sets the zone of a text has, or the number of its fault; 3 if memory runs out
abbrev pub CountsSets : Result (NameValue × ZoneSets) Fault → Result ℕ ℕ → Type 0
CountsSets (Ok zone) (Ok count) = count ≡ length zone.1
CountsSets (Ok zone) (Err number) = number ≡ 3
CountsSets (Err fault) (Ok count) = ⊥
CountsSets (Err fault) (Err number) = (number ≡ 3) ⊎ (number ≡ fault_number fault)
