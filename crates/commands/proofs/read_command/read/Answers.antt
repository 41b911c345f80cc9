use Rattle.std.proofs.Common.{◌≡◌, ℕ, List, ap, sym, ◌∙◌, Ok}
use Rattle.op.specs.Message.{IsMessageAt, MessageValue, message_value}
use Rattle.op.specs.MessageText.{message_text}
use Rattle.op.proofs.reading.MessageStands.{message_again}
use Rattle.commands.specs.Answer.{done}
use Rattle.commands.specs.HexInput.{bytes_of}
use Rattle.commands.specs.ReadCommand.{answer_to_buffer, answer_to_message, read_answer}
use Rattle.commands.proofs.read_command.read.Goals as goal

message_is_printed : (input bytes : List ℕ) (m : MessageValue) (e : ℕ) → bytes_of input ≡ Ok bytes
    → IsMessageAt bytes 0 m e → read_answer input ≡ done (message_text m)
message_is_printed input bytes m e spelled stands =
    ap answer_to_buffer spelled ∙ ap answer_to_message (message_again bytes 0 m e stands)

pub returns : goal.returns
returns c =
    let found = c.in_ok-message.ensures.found in
    message_is_printed c.args.text.now c.deref.result.now (message_value c.in_ok-message.message) found.0
    (c.in_ok-bytes.ensures ∙ ap Ok (sym c.deref.ensures.value)) found.1 ∙ ap done (sym c.in_ok-to_string.ensures.ok)
