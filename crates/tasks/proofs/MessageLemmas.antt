-- What is written of a message that was read.
use Rattle.std.proofs.Common.{Err, List, Result, ap, inl, inr, ℕ, ◌≡◌, ◌⊎◌, ◌∙◌}
use Rattle.base.specs.ProtoError.{proto_number}
use Rattle.base.specs.declared.error.proto_error.ProtoError.{ProtoError}
use Rattle.base.specs.declared.error.proto_error.ProtoError.TheVariants as refusals
use Rattle.op.proofs.reading.MessageStands.{message_again}
use Rattle.op.specs.Message.{IsMessageAt, MessageValue}
use Rattle.op.specs.MessageWritten.{message_answer}
use Rattle.tasks.specs.Asked.{◌>>=◌, read, written}
use Rattle.tasks.specs.Message.{cut_of}

-- a cut is what is written of the message that stands
pub cut_written : (bytes : List ℕ) (limit : ℕ) (m : MessageValue) (e : ℕ) (made : Result (List ℕ) ProtoError)
    → IsMessageAt bytes 0 m e
    → message_answer limit m ≡ made → cut_of bytes limit ≡ written made
cut_written bytes limit m e made stands is =
    ap (λ found. read found >>= λ n. written (message_answer limit n)) (message_again bytes 0 m e stands)
    ∙ ap written is

-- and its refusal has that one's number
pub cut_refused : (bytes : List ℕ) (limit : ℕ) (m : MessageValue) (e : ℕ) (refusal : ProtoError)
    → IsMessageAt bytes 0 m e
    → (refusal ≡ refusals.Memory) ⊎ (message_answer limit m ≡ Err refusal)
    → (proto_number refusal ≡ 3) ⊎ (cut_of bytes limit ≡ Err (proto_number refusal))
cut_refused bytes limit m e refusal stands (inl memory) = inl (ap proto_number memory)
cut_refused bytes limit m e refusal stands (inr is) = inr (cut_written bytes limit m e (Err refusal) stands is)
