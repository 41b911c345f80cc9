-- The queries and the NOTIFY that are built.
use Rattle.std.specs.Prelude.{ℕ, ◌==◌, ◌∷◌, List, [], None, Option, Some, if◌then◌else◌, false, max, true}
use Rattle.base.specs.DNSClass.{class_of}
use Rattle.base.specs.RecordType.{type_of}
use Rattle.base.specs.declared.dns_class.DNSClass.TheVariants as classes
use Rattle.base.specs.declared.record_type.RecordType.TheVariants as record_types
use Rattle.base.specs.declared.limits.TheConstants.{MAX_MESSAGE, MIN_PAYLOAD}
use Rattle.base.specs.names.Labels.{NameValue}
use Rattle.op.specs.Edns.{new_edns}
use Rattle.op.specs.Message.{MessageValue, empty_message}
use Rattle.op.specs.MessageWritten.{message_answer}
use Rattle.op.specs.Metadata.{plain_metadata}
use Rattle.op.specs.declared.edns.Edns.{Edns}
use Rattle.op.specs.declared.header.message_type.MessageType.TheVariants as types
use Rattle.op.specs.declared.op_code.OpCode.TheVariants as operations
use Rattle.tasks.specs.Asked.{Asked, ◌>>=◌, written}
use Rattle.tasks.specs.ZoneText.{zone_name_of}
use Rattle.tasks.specs.declared.query.Question.{Question}

-- EDNS that says how many bytes are taken (RFC 6891, 6.2.3), none for 0
abbrev pub edns_of : ℕ → Option Edns
edns_of payload = if payload == 0 then None
    else Some (record new_edns { max_payload = max MIN_PAYLOAD payload })

-- the query of a name (RFC 1035, 4.1.1 and 4.1.2)
abbrev pub query_of : Question → NameValue → MessageValue
query_of q name = record (empty_message (record (plain_metadata q.id types.Query operations.Query) {
  recursion_desired = q.recursion;
})) {
  queries = record {
    name = name;
    query_type = type_of q.record_type;
    query_class = class_of q.dns_class;
    mdns_unicast_response = false;
  } ∷ [];
  edns = edns_of q.payload;
}

-- what is written of the query for the name of a text
abbrev pub query_sent : List ℕ → Question → Asked (List ℕ)
query_sent text q = zone_name_of text >>= λ name. written (message_answer MAX_MESSAGE (query_of q name))

-- the NOTIFY for a zone (RFC 1996, 3)
abbrev pub notify_of : ℕ → NameValue → MessageValue
notify_of id zone = record (empty_message (record (plain_metadata id types.Query operations.Notify) {
  authoritative = true;
})) {
  queries = record {
    name = zone;
    query_type = record_types.SOA;
    query_class = classes.IN;
    mdns_unicast_response = false;
  } ∷ [];
}

-- what is written of the NOTIFY for the zone that a text names
abbrev pub notify_sent : ℕ → List ℕ → Asked (List ℕ)
notify_sent id text = zone_name_of text >>= λ zone. written (message_answer MAX_MESSAGE (notify_of id zone))
