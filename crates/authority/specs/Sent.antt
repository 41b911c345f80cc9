-- Which bytes a server sends for those that it received (RFC 1035, 4.2; RFC 2181, 9; RFC 6891, 6.2.5 and 7).
use Rattle.authority.specs.Reply.{framed, only_code, reply}
use Rattle.authority.specs.declared.sending.Carrier.TheVariants as carriers
use Rattle.authority.specs.declared.sending.Carrier.{Carrier}
use Rattle.base.specs.declared.error.decode_error.DecodeError.{DecodeError}
use Rattle.base.specs.declared.error.proto_error.ProtoError.{ProtoError}
use Rattle.base.specs.declared.limits.TheConstants.{MAX_MESSAGE, MIN_PAYLOAD}
use Rattle.op.specs.Header.{bit_of, header_at}
use Rattle.op.specs.Message.{MessageValue, empty_message, message_at}
use Rattle.op.specs.MessageType.{is_response}
use Rattle.op.specs.MessageWritten.{message_answer}
use Rattle.op.specs.Parts.{payload_taken}
use Rattle.op.specs.declared.header.Header.{Header}
use Rattle.op.specs.declared.response_code.ResponseCode.TheVariants.{FormErr}
use Rattle.op_use.specs.Responses.{is_empty_list}
use Rattle.op_use.specs.Zone.{Zone}
use Rattle.std.specs.Prelude.{Bool, Err, List, None, Ok, Option, Result, Some, [], if◌then◌else◌, max, min, slice_index}
use Rattle.std.specs.Prelude.{ℕ, ◌&&◌}

-- the reply to bytes by their header: FormErr to that of a query (RFC 1035, 4.1.1; RFC 6891, 7)
abbrev pub malformed_by : Result (Header × ℕ) DecodeError → Option MessageValue
malformed_by (Ok h) = if is_response h.0.metadata.message_type then None
    else Some (framed (empty_message h.0.metadata) (only_code FormErr))
malformed_by (Err f) = None

-- the reply to bytes that begin with no message
abbrev pub malformed : List ℕ → Option MessageValue
malformed bytes = malformed_by (header_at bytes 0)

-- the most bytes that are sent to one who takes so many (RFC 1035, 4.2; RFC 6891, 6.2.5)
abbrev pub most_sent : Carrier → ℕ → ℕ
most_sent (carriers.Datagram most) taken = max (min most taken) MIN_PAYLOAD
most_sent carriers.Stream taken = MAX_MESSAGE

-- whether TC is set in the header of bytes (RFC 1035, 4.1.1)
abbrev pub is_cut_short : List ℕ → Bool
is_cut_short bytes = bit_of 2 (slice_index bytes 2)

-- The bytes of a reply, or those without additional records where they hold not all of it and it is no referral, which
-- has authorities (RFC 2181, 9).
abbrev pub whole_or_less : ℕ → MessageValue → Result (List ℕ) ProtoError → Result (List ℕ) ProtoError
whole_or_less limit m (Ok bytes) = if is_cut_short bytes && is_empty_list m.authorities
    then message_answer limit (record m { additionals = [] }) else Ok bytes
whole_or_less limit m (Err e) = Err e

-- the bytes of a reply under a limit
abbrev pub bytes_of : ℕ → MessageValue → Result (List ℕ) ProtoError
bytes_of limit m = whole_or_less limit m (message_answer limit m)

-- bytes that are there
abbrev pub some_bytes : Result (List ℕ) ProtoError → Result (Option (List ℕ)) ProtoError
some_bytes (Ok bytes) = Ok (Some bytes)
some_bytes (Err e) = Err e

-- the bytes of a reply, if there is one
abbrev pub sent_of : ℕ → Option MessageValue → Result (Option (List ℕ)) ProtoError
sent_of limit (Some m) = some_bytes (bytes_of limit m)
sent_of limit None = Ok None

-- what is sent for a message
abbrev pub sent_to : Zone → Carrier → MessageValue → Result (Option (List ℕ)) ProtoError
sent_to z carrier m = sent_of (most_sent carrier (payload_taken m.edns)) (reply z m)

-- what is sent for a message, or for bytes that begin with none
abbrev pub sent_by : Zone → Carrier → List ℕ → Result (MessageValue × ℕ) DecodeError
    → Result (Option (List ℕ)) ProtoError
sent_by z carrier bytes (Ok m) = sent_to z carrier m.0
sent_by z carrier bytes (Err f) = sent_of (most_sent carrier MIN_PAYLOAD) (malformed bytes)

-- what a server sends for bytes that it received
abbrev pub sent : Zone → Carrier → List ℕ → Result (Option (List ℕ)) ProtoError
sent z carrier bytes = sent_by z carrier bytes (message_at bytes 0)
