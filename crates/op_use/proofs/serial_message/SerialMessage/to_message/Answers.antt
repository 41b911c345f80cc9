use Rattle.std.proofs.Common.{◌≡◌, ℕ, List, IfOk, MatchResult, subst}
use Rattle.base.specs.declared.error.decode_error.DecodeError.TheVariants as faults
use Rattle.op.specs.Message.{IsMessageAt, MessageValue, message_value}
use Rattle.op_use.proofs.serial_message.SerialMessage.to_message.Goals as goal

pub returns-clause-found : goal.returns-clause-found
returns-clause-found c =
    let same : c.deref.result.now ≡ c.args.self.now.bytes = cc in
    subst (λ (bytes : List ℕ). IfOk c.from_vec.result (λ m. (e : ℕ) × IsMessageAt bytes 0 (message_value m) e)) same
    c.from_vec.ensures.found

pub returns-clause-only : goal.returns-clause-only
returns-clause-only c =
    let same : c.deref.result.now ≡ c.args.self.now.bytes = cc in
    subst (λ (bytes : List ℕ). (m : MessageValue) (e : ℕ) → IsMessageAt bytes 0 m e
    → MatchResult c.from_vec.result (λ read. message_value read ≡ m) (λ f. f ≡ faults.Memory)) same
    c.from_vec.ensures.only
