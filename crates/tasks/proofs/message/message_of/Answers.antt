use Rattle.std.proofs.Common.{ap}
use Rattle.op.proofs.reading.MessageStands.{message_again}
use Rattle.op.specs.Message.{message_value}
use Rattle.tasks.specs.Asked.{read}
use Rattle.tasks.proofs.message.message_of.Goals as goal

pub returns : goal.returns
returns c =
    let found = c.in_ok-from_vec.ensures.found in
    ap read (message_again c.args.bytes.now 0 (message_value c.in_ok-from_vec.field-0) found.0 found.1)
