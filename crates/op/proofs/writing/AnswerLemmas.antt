-- What an encoder answers that is new.
use Rattle.std.proofs.Common.{◌≡◌, ℕ, List, [], length, ap, sym, ◌∙◌, Ok}
use Rattle.std.specs.Prelude.{drop}
use Rattle.base.specs.writing.State.{State}
use Rattle.op.specs.Message.{MessageValue}
use Rattle.op.specs.MessageWritten.{message_answer, message_answer_at}

-- an encoder that is new, but for its limit: it holds nothing
pub record IsNew (limit : ℕ) (s : State) : Type 0 where
  pub bytes : s.bytes ≡ []
  pub within : s.limit ≡ limit
  pub suffixes : s.suffixes ≡ []

pub new_of : {limit buffer : ℕ} {s : State} → s ≡ record { buffer = buffer; bytes = []; limit = limit; suffixes = [] }
    → IsNew limit s
new_of is = record {
  bytes = ap (λ (t : State). t.bytes) is;
  within = ap (λ (t : State). t.limit) is;
  suffixes = ap (λ (t : State). t.suffixes) is;
}

module _ (m : MessageValue) (limit : ℕ) (old : State) (begun : IsNew limit old) where
  -- what the encoder answers is what any new one does
  same_answer : message_answer limit m ≡ message_answer_at old.limit m (length old.bytes) old.suffixes
  same_answer = λ i. message_answer_at (sym begun.within i) m (length (sym begun.bytes i)) (sym begun.suffixes i)

  pub new_answer : (written : List ℕ) → message_answer_at old.limit m (length old.bytes) old.suffixes ≡ Ok
      (drop (length old.bytes) written)
      → message_answer limit m ≡ Ok written
  new_answer written is = same_answer ∙ is ∙ ap (λ (bytes : List ℕ). Ok (drop (length bytes) written)) begun.bytes
