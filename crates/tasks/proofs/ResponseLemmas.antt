-- What comes of the response that bytes begin with.
use Rattle.std.proofs.Common.{Err, List, Ok, Result, ap, inl, inr, refl, ℕ, ◌≡◌, ◌⊎◌, ◌∙◌}
use Rattle.std.specs.Prelude.{if◌then◌else◌}
use Rattle.base.specs.DecodeError.{decode_number}
use Rattle.base.specs.ProtoError.{proto_number}
use Rattle.base.specs.declared.error.decode_error.DecodeError.{DecodeError}
use Rattle.base.specs.declared.error.decode_error.DecodeError.TheVariants as faults
use Rattle.base.specs.declared.error.proto_error.ProtoError.{ProtoError}
use Rattle.base.specs.declared.error.proto_error.ProtoError.TheVariants as refusals
use Rattle.base.specs.reading.Reading.{Fails}
use Rattle.op.proofs.reading.MessageStands.{message_again}
use Rattle.op.specs.Message.{IsMessageAt, MessageValue, message_at}
use Rattle.op.specs.MessageType.{is_response}
use Rattle.op.specs.declared.header.message_type.MessageType.{MessageType}
use Rattle.op_use.specs.DnsResponse.{IsQuery, IsRefusedResponse, IsResponse}
use Rattle.tasks.specs.Asked.{Asked, ◌>>=◌, read}
use Rattle.tasks.specs.Response.{responding, response_of}

module _ (bytes : List ℕ) (m : MessageValue) (e : ℕ) (stands : IsMessageAt bytes 0 m e) where
  -- the message that stands is asked whether it is a response
  asks : response_of bytes ≡ responding m
  asks = ap (λ found. read found >>= λ n. responding n) (message_again bytes 0 m e stands)

  abbrev by_type : MessageType → Asked MessageValue
  by_type t = if is_response t then Ok m else Err 16

  pub response_again : IsResponse m → response_of bytes ≡ Ok m
  response_again is = asks ∙ ap by_type is

  pub query_again : IsQuery m → response_of bytes ≡ Err 16
  query_again is = asks ∙ ap by_type is

-- the refusal of a read is told by its number
told_as : {X A : Type 0} (f : DecodeError) (r : Result X DecodeError) (s : Asked A)
    → (r ≡ Err f → s ≡ Err (decode_number f)) → Fails f r
    → (decode_number f ≡ 3) ⊎ (s ≡ Err (decode_number f))
told_as faults.Memory r s through fails = inl refl
told_as f r s through fails = inr (through fails)

-- and that of a response
pub response_refused : (bytes : List ℕ) (f : ProtoError) → IsRefusedResponse bytes f
    → (proto_number f ≡ 3) ⊎ (response_of bytes ≡ Err (proto_number f))
response_refused bytes refusals.NotAResponse (m, e, stands, is) = inr (query_again bytes m e stands is)
response_refused bytes (refusals.Decode fault) fails =
    told_as fault (message_at bytes 0) (response_of bytes)
    (λ is. ap (λ found. read found >>= λ n. responding n) is) fails
response_refused bytes f never = absurd never
