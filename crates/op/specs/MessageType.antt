-- The QR bit of the header (RFC 1035, 4.1.1).
use Rattle.std.specs.Prelude.{ℕ, List, codes, Bool, true, false}
use Rattle.std.specs.Int.{from_bool}
use Rattle.std.specs.Ordering.{nat_cmp, on}
use Rattle.std.specs.declared.cmp.Ordering.{Ordering}
use Rattle.op.specs.declared.header.message_type.MessageType.{MessageType}
use Rattle.op.specs.declared.header.message_type.MessageType.TheVariants as kind

-- the name of a type of message
abbrev pub message_type_text : MessageType → List ℕ
message_type_text kind.Query = codes "QUERY"
message_type_text kind.Response = codes "RESPONSE"

-- what the QR bit says, and what a message's type sets it to
abbrev pub kind_value : Bool → MessageType
kind_value true = kind.Response
kind_value false = kind.Query

-- whether a message is a response
abbrev pub is_response : MessageType → Bool
is_response kind.Response = true
is_response kind.Query = false

-- the order: queries before responses
abbrev pub message_type_cmp : MessageType → MessageType → Ordering
message_type_cmp = on (λ m. from_bool (is_response m)) nat_cmp
