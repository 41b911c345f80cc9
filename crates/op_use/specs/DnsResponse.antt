-- Responses: a message, and the bytes that it was read from or is written as.
use Rattle.std.specs.Prelude.{ℕ, List, ◌≡◌}
use Rattle.base.specs.reading.Reading.{Fails}
use Rattle.base.specs.declared.error.proto_error.ProtoError.{ProtoError}
use Rattle.base.specs.declared.error.proto_error.ProtoError.TheVariants as refusals
use Rattle.op.specs.Message.{IsMessageAt, MessageValue, message_at}
use Rattle.op.specs.declared.header.message_type.MessageType.TheVariants as message_types

-- the message, and its bytes
pub record ResponseValue : Type 0 where
  pub message : MessageValue
  pub buffer : List ℕ

-- the message is a response (RFC 1035, 4.1.1)
abbrev pub IsResponse : MessageValue → Type 0
IsResponse m = m.metadata.message_type ≡ message_types.Response

-- the message is a query (RFC 1035, 4.1.1)
abbrev pub IsQuery : MessageValue → Type 0
IsQuery m = m.metadata.message_type ≡ message_types.Query

-- Why bytes are no response: a message that is a query begins them; or what reading met, the first fault of bytes that
-- begin with no message, or memory ran out.
abbrev pub IsRefusedResponse : List ℕ → ProtoError → Type 0
IsRefusedResponse bytes refusals.NotAResponse = (m : MessageValue) × (e : ℕ)
    × IsMessageAt bytes 0 m e × IsQuery m
IsRefusedResponse bytes (refusals.Decode fault) = Fails fault (message_at bytes 0)
IsRefusedResponse bytes _ = ⊥
