-- The responses that are built.
use Rattle.authority.specs.Reply.{edns_of_reply}
use Rattle.authority.specs.Sent.{most_sent}
use Rattle.authority.specs.declared.sending.Carrier.{Carrier}
use Rattle.std.specs.List.{flat_map}
use Rattle.std.specs.Prelude.{Bool, Err, List, None, Ok, Option, Some, [], if◌then◌else◌, nat_lt, option_map, true, ℕ}
use Rattle.std.specs.Prelude.{◌++◌, ◌≡◌}
use Rattle.base.specs.RecordType.{same_type}
use Rattle.base.specs.names.Labels.{NameValue}
use Rattle.base.specs.declared.record_type.RecordType.TheVariants as types
use Rattle.base.specs.declared.rr_key.RrKey.{RrKey}
use Rattle.base_data.specs.declared.rdata.RData.{RData}
use Rattle.op.specs.Cut.{IsWritten}
use Rattle.op.specs.Fits.{Fits}
use Rattle.op.specs.Message.{MessageValue, asking}
use Rattle.op.specs.MessageType.{is_response}
use Rattle.op.specs.MessageWritten.{message_answer}
use Rattle.op.specs.Metadata.{response_metadata}
use Rattle.op.specs.Parts.{payload_taken}
use Rattle.op.specs.ResponseCode.{code_value}
use Rattle.op.specs.declared.edns.Edns.{Edns}
use Rattle.rr.specs.RecordSet.{SetValue}
use Rattle.rr.specs.declared.record.Record.{Record}
use Rattle.txt.specs.ZoneSets.{ZoneSets}
use Rattle.tasks.specs.Asked.{Asked, ◌>>=◌, written}
use Rattle.tasks.specs.Message.{message_of}
use Rattle.tasks.specs.Refusals.{not_a_query, not_on_wire}
use Rattle.tasks.specs.ZoneText.{zone_under}
use Rattle.tasks.specs.declared.reply.TheConstants.{EDNS_CODES, HEADER_CODES}
use Rattle.tasks.specs.declared.reply.Says.{Says}

-- ---- the records of a section

-- the records of the set of an alias (RFC 1035, 3.3.1)
abbrev pub alias_records : RrKey × SetValue → List (Record RData)
alias_records e = if same_type e.1.record_type types.CNAME then e.1.records else []

-- the records of any other set
abbrev pub other_records : RrKey × SetValue → List (Record RData)
other_records e = if same_type e.1.record_type types.CNAME then [] else e.1.records

-- the records of sets, those of aliases first
abbrev pub records_of : ZoneSets → List (Record RData)
records_of sets = flat_map alias_records sets ++ flat_map other_records sets

-- the root (RFC 1034, 3.1)
abbrev pub root : NameValue
root = record { labels = []; absolute = true }

-- the records of zone text, whose relative names end in the root
abbrev pub section_of : List ℕ → Asked (List (Record RData))
section_of text = zone_under (Some root) text >>= λ zone. Ok (records_of zone.1)

-- ---- the response

-- a message that is a query; a response is refused
abbrev pub querying : MessageValue → Asked MessageValue
querying m = if is_response m.metadata.message_type then Err not_a_query else Ok m

-- the query that the bytes begin with
abbrev pub query_of : List ℕ → Asked MessageValue
query_of bytes = message_of bytes >>= λ m. querying m

-- Whether a response can say this code: its header has four bits for it, and with EDNS there are eight more (RFC 6891,
-- 6.1.3).
abbrev pub has_bits : Option Edns → ℕ → Bool
has_bits None code = nat_lt code HEADER_CODES
has_bits (Some edns) code = nat_lt code EDNS_CODES

-- the response to a query without records: its id, operation, RD and CD (RFC 6895, 2), its questions, and EDNS with its
-- DO
-- where it has EDNS (RFC 6891, 6.1.1; RFC 3225, 3)
abbrev pub response_to : Says → MessageValue → MessageValue
response_to says query =
    record (asking (record (response_metadata query.metadata) {
      authoritative = says.authoritative;
      recursion_available = says.recursion_available;
      response_code = code_value says.code;
    }) query.queries) { edns = option_map edns_of_reply query.edns }

-- the same, if there are bits for its code
abbrev pub saying : Says → MessageValue → Asked MessageValue
saying says query = if has_bits query.edns says.code then Ok (response_to says query) else Err not_on_wire

-- a response with the records of three zone texts as its sections
abbrev pub filled : List ℕ → List ℕ → List ℕ → MessageValue → Asked MessageValue
filled answers authorities additionals m =
    section_of answers >>= λ a. section_of authorities >>= λ n. section_of additionals >>= λ d.
    Ok (record m { answers = a; authorities = n; additionals = d })

-- the response to the query that the bytes begin with, and how many bytes of it are sent at most (RFC 6891, 6.2.5)
abbrev pub reply_asked : List ℕ → Says → Carrier → List ℕ → List ℕ → List ℕ
    → Asked (ℕ × MessageValue)
reply_asked bytes says by answers authorities additionals =
    query_of bytes >>= λ query. saying says query >>= λ response.
    filled answers authorities additionals response >>= λ reply.
    Ok (most_sent by (payload_taken query.edns), reply)

-- What comes of a message that is asked for, and so many bytes: a cut of it, which is read as that, or why there is
-- none.
pub data IsBuilt (asked : Asked (ℕ × MessageValue)) : Asked (List ℕ) → Type 0 where
  refused : {number : ℕ} → asked ≡ Err number → IsBuilt asked (Err number)
  unfit : {limit : ℕ} {m : MessageValue} → asked ≡ Ok (limit, m) → ¬ Fits m
      → IsBuilt asked (Err not_on_wire)
  unwritten : {limit : ℕ} {m : MessageValue} {number : ℕ} → asked ≡ Ok (limit, m)
      → written (message_answer limit m) ≡ Err number → IsBuilt asked (Err number)
  cut : {limit : ℕ} {m : MessageValue} {bytes : List ℕ} → asked ≡ Ok (limit, m)
      → message_answer limit m ≡ Ok bytes → IsWritten m limit bytes → IsBuilt asked (Ok bytes)
