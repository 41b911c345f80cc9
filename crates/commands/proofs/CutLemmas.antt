-- What the command `cut` answers.
use Rattle.std.proofs.Common.{◌≡◌, ◌⊎◌, ℕ, List, [], refl, ap, sym, subst, inl, inr, Err, Ok}
use Rattle.base.specs.ProtoError.{proto_number}
use Rattle.base.specs.declared.error.proto_error.ProtoError.{ProtoError}
use Rattle.base.specs.declared.error.proto_error.ProtoError.TheVariants as refusals
use Rattle.op.specs.Cut.{IsWritten}
use Rattle.op.specs.Message.{IsMessageAt, MessageValue}
use Rattle.op.specs.MessageWritten.{message_answer}
use Rattle.op.proofs.AnswerLaws.{too_small}
use Rattle.op.proofs.reading.MessageStands.{message_again}
use Rattle.commands.specs.Answer.{Answer, done, refused}
use Rattle.commands.specs.CutCommand.{CutsBuffer, CutsMessage, CutsRead, IsCutAnswer, hex_line}
use Rattle.commands.specs.HexInput.{bytes_of}

module _ (limit : ℕ) (input bytes : List ℕ) (m : MessageValue) (e : ℕ) (spelled : bytes_of input ≡ Ok bytes)
    (stands : IsMessageAt bytes 0 m e) where
  answers : (answer : Answer) → CutsMessage m limit answer → IsCutAnswer limit input answer
  answers answer cuts = subst (λ r. CutsBuffer limit r answer) (sym spelled)
      (subst (λ r. CutsRead limit r answer) (sym (message_again bytes 0 m e stands)) cuts)

  -- the bytes of a cut are printed
  pub cut_answers : (B line : List ℕ) → IsWritten m limit B → message_answer limit m ≡ Ok B → line ≡ hex_line B
      → IsCutAnswer limit input (done line)
  cut_answers B line written exact is = answers (done line) (inl (B, (written, exact), ap done is))

  -- and else the number of the refusal
  pub refusal_answers : (refusal : ProtoError) → (refusal ≡ refusals.Memory) ⊎ (message_answer limit m ≡ Err refusal)
      → (proto_number refusal ≡ 3) ⊎ IsCutAnswer limit input (refused (proto_number refusal))
  refusal_answers refusal (inl memory) = inl (ap proto_number memory)
  refusal_answers refusal (inr exact) =
      inr (answers (refused (proto_number refusal)) (inr (refusal, (too_small m limit [] refusal exact, exact), refl)))
