-- What the command `cut` prints.
use Rattle.std.specs.Prelude.{◌≡◌, ◌⊎◌, ℕ, List, [], ◌∷◌, ◌++◌, Option, Result, Ok, Err, String}
use Rattle.std.specs.declared.alloc.Global.{Global}
use Rattle.hex.specs.Hex.{encode_lower}
use Rattle.hex.specs.declared.error.FromHexError.{FromHexError}
use Rattle.base.specs.reading.Reading.{Read}
use Rattle.base.specs.DecodeError.{decode_number}
use Rattle.base.specs.ProtoError.{proto_number}
use Rattle.base.specs.declared.error.proto_error.ProtoError.{ProtoError}
use Rattle.op.specs.Cut.{IsTooSmall, IsWritten}
use Rattle.op.specs.Message.{MessageValue, message_at}
use Rattle.op.specs.MessageWritten.{message_answer}
use Rattle.commands.specs.Answer.{Answer, IsGivenBy, done, refused}
use Rattle.commands.specs.Answering.{AnswersBy}
use Rattle.commands.specs.HexInput.{bytes_of}
use Rattle.commands.specs.declared.refusal.Refusal.{Refusal}

-- bytes in hexadecimal, one line
abbrev pub hex_line : List ℕ → List ℕ
hex_line bytes = encode_lower bytes ++ 10 ∷ []

-- The answer is a cut of the message under the limit, or that the limit has no room for header and questions: whichever
-- of these a new encoder answers, which message and limit decide.
abbrev pub CutsMessage : MessageValue → ℕ → Answer → Type 0
CutsMessage m limit answer =
    ((B : List ℕ) × (IsWritten m limit B × (message_answer limit m ≡ Ok B))
    × (answer ≡ done (hex_line B)))
    ⊎ ((e : ProtoError) × (IsTooSmall m limit e × (message_answer limit m ≡ Err e))
    × (answer ≡ refused (proto_number e)))

-- the answer to a message that was read, or the number of the fault that reading met
abbrev pub CutsRead : ℕ → Read MessageValue → Answer → Type 0
CutsRead limit (Ok (message, end)) answer = CutsMessage message limit answer
CutsRead limit (Err fault) answer = answer ≡ refused (decode_number fault)

-- the answer to the bytes of the input, or refusal 24 where it isn't hexadecimal
abbrev pub CutsBuffer : ℕ → Result (List ℕ) FromHexError → Answer → Type 0
CutsBuffer limit (Ok bytes) answer = CutsRead limit (message_at bytes 0) answer
CutsBuffer limit (Err fault) answer = answer ≡ refused 24

-- an answer to the bytes of a message in hexadecimal, whatever stands after it, under a limit
abbrev pub IsCutAnswer : ℕ → List ℕ → Answer → Type 0
IsCutAnswer limit input answer = CutsBuffer limit (bytes_of input) answer

-- what a call of `cut` answers: such an answer, or that memory ran out
abbrev pub CutAnswers : ℕ → List ℕ → Result (String Global) Refusal → Type 0
CutAnswers limit input result = AnswersBy (IsCutAnswer limit input) result

-- what a run of `cut` prints, and its status
abbrev pub IsCutGiven : ℕ → List ℕ → ℕ → Option (List ℕ) → Option (List ℕ) → Type 0
IsCutGiven limit input status old new = IsGivenBy (IsCutAnswer limit input) status old new
