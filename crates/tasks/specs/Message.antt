-- What calls on messages are asked for.
use Rattle.std.specs.Prelude.{ℕ, List, Ok}
use Rattle.op.specs.Cut.{IsWritten}
use Rattle.op.specs.Message.{IsMessageAt, MessageValue, message_at}
use Rattle.op.specs.MessageText.{message_text}
use Rattle.op.specs.MessageWritten.{message_answer}
use Rattle.tasks.specs.Asked.{Asked, ◌>>=◌, place_found, read, written}

-- the message that the bytes begin with
abbrev pub message_of : List ℕ → Asked MessageValue
message_of bytes = read (message_at bytes 0)

-- the place after the message that the bytes begin with
abbrev pub end_of : List ℕ → Asked ℕ
end_of bytes = place_found (message_at bytes 0)

-- what a new encoder writes of that message under a limit
abbrev pub cut_of : List ℕ → ℕ → Asked (List ℕ)
cut_of bytes limit = message_of bytes >>= λ m. written (message_answer limit m)

-- the text of that message
abbrev pub text_of : List ℕ → Asked (List ℕ)
text_of bytes = message_of bytes >>= λ m. Ok (message_text m)

-- These bytes are a cut of the message that the input begins with, and are read as that cut.
pub record IsCutOf (input : List ℕ) (limit : ℕ) (bytes : List ℕ) : Type 0 where
  pub message : MessageValue
  pub end : ℕ
  pub stands : IsMessageAt input 0 message end
  pub written : IsWritten message limit bytes
