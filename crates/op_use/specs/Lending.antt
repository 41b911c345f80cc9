-- What a response ends as where its message was lent to be changed.
use Rattle.std.specs.Borrow.{Fml, Lends, MutBor}
use Rattle.op.specs.Message.{message_value}
use Rattle.op.specs.contracts.message.Message.{the_row as message_row}
use Rattle.op.specs.declared.message.Message.{Message}
use Rattle.op_use.specs.DnsResponse.{ResponseValue}
use Rattle.op_use.specs.contracts.dns_response.DnsResponse.{the_row as response_row}

-- the response ends with the message that is left after the reference, and the bytes that it had
abbrev pub LendsMessage : MutBor ResponseValue → MutBor Message → Fml
LendsMessage response message =
    Lends response_row message_row response message
    (λ (w : Message). record response.now { message = message_value w })
