use Rattle.op.proofs.BitLemmas.{high_of}
use Rattle.op.specs.MessageType.{is_response}
use Rattle.op.specs.OpCode.{op_number}
use Rattle.op.proofs.header.high_byte_of.Goals as goal

pub returns : goal.returns
returns c =
    let m = c.args.metadata.now in
    rw (
      c.from-response.ensures,
      c.from-op_code.ensures,
      c.from-authoritative.ensures,
      c.from-truncation.ensures,
      c.from-recursion_desired.ensures,
      c.bit.ensures,
    )
    (high_of (is_response m.message_type) m.authoritative m.truncation m.recursion_desired (op_number m.op_code))
