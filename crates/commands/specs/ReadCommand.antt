-- What the command `read` prints.
use Rattle.std.specs.Prelude.{ℕ, List, Result, Ok, Err}
use Rattle.hex.specs.declared.error.FromHexError.{FromHexError}
use Rattle.base.specs.reading.Reading.{Read}
use Rattle.base.specs.DecodeError.{decode_number}
use Rattle.op.specs.Message.{MessageValue, message_at}
use Rattle.op.specs.MessageText.{message_text}
use Rattle.commands.specs.Answer.{Answer, done, refused}
use Rattle.commands.specs.HexInput.{bytes_of}

-- the text of a message that was read, or the number of the fault
abbrev pub answer_to_message : Read MessageValue → Answer
answer_to_message (Ok (message, end)) = done (message_text message)
answer_to_message (Err fault) = refused (decode_number fault)

-- the answer to the bytes of the input, or refusal 24
abbrev pub answer_to_buffer : Result (List ℕ) FromHexError → Answer
answer_to_buffer (Ok bytes) = answer_to_message (message_at bytes 0)
answer_to_buffer (Err fault) = refused 24

-- the answer to the bytes of a message in hexadecimal, whatever stands after it
abbrev pub read_answer : List ℕ → Answer
read_answer input = answer_to_buffer (bytes_of input)
