-- What comes of a response that isn't written.
use Rattle.std.proofs.Common.{Err, List, Ok, ap, inl, inr, ℕ, ◌≡◌, ◌⊎◌}
use Rattle.base.specs.ProtoError.{proto_number}
use Rattle.base.specs.declared.error.proto_error.ProtoError.{ProtoError}
use Rattle.base.specs.declared.error.proto_error.ProtoError.TheVariants as refusals
use Rattle.op.specs.Message.{MessageValue}
use Rattle.op.specs.MessageWritten.{message_answer}
use Rattle.tasks.specs.Asked.{Asked, written}
use Rattle.tasks.specs.Reply.{IsBuilt}
use Rattle.tasks.specs.Reply.IsBuilt.{unwritten}

-- what isn't written is refused with that number, or memory ran out
pub unbuilt : (asked : Asked (ℕ × MessageValue)) (limit : ℕ) (m : MessageValue) (e : ProtoError)
    → asked ≡ Ok (limit, m) → (e ≡ refusals.Memory) ⊎ (message_answer limit m ≡ Err e)
    → IsBuilt asked (Err (proto_number e)) ⊎ (◌≡◌ {A = Asked (List ℕ)} (Err (proto_number e)) (Err 3))
unbuilt asked limit m e made (inl memory) = inr (ap (λ x. Err (proto_number x)) memory)
unbuilt asked limit m e made (inr is) = inl (unwritten made (ap written is))
