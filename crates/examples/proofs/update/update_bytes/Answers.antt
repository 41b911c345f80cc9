use Rattle.std.proofs.Common.{◌≡◌, ◌∙◌, ◌⊎◌, Result, Ok, Err, [], ap, subst, sym}
use Rattle.std.proofs.lemmas.Result.{IfOk-weaker}
use Rattle.std.specs.Prelude.{IfErr, IfOk}
use Rattle.base.specs.names.Labels.{NameValue}
use Rattle.base.specs.declared.error.proto_error.ProtoError.TheVariants as refusals
use Rattle.op.proofs.AnswerLaws.{answer_bytes}
use Rattle.op.specs.Cut.{IsWritten}
use Rattle.op.specs.Message.{MessageValue, message_value}
use Rattle.op.specs.MessageWritten.{message_answer, message_bytes}
use Rattle.op_use.specs.SoundSet.{IsSendable}
use Rattle.examples.specs.Callers.{creating}
use Rattle.examples.proofs.update.update_bytes.Goals as goal

-- a fact of a result under a premise is one of its value
under : {X E : Type 0} (S : Type 0) (P : X → Type 0) (r : Result X E) → (S → IfOk r P) → IfOk r (λ x. S → P x)
under S P (Ok x) holds = holds
under S P (Err e) holds = tt

pub returns-clause-written : goal.returns-clause-written
returns-clause-written c =
    let same : c.in_ok-clone.field-0 ≡ c.args.origin.now = c.in_ok-clone.ensures.cases in
    let built = c.in_ok-update.ensures.built ∙ ap (λ (origin : NameValue). creating origin c.args.set) same in
    under (IsSendable c.args.origin.now c.args.set)
    (λ bytes. IsWritten (creating c.args.origin.now c.args.set) 65535 bytes.items) c.to_vec.result (λ sendable.
    subst (λ (m : MessageValue). IfOk c.to_vec.result (λ bytes. IsWritten m 65535 bytes.items)) built
    (c.to_vec.ensures.written (c.in_ok-update.ensures.fits
    (subst (λ (origin : NameValue). IsSendable origin c.args.set) (sym same) sendable))))

pub returns-clause-exact : goal.returns-clause-exact
returns-clause-exact c =
    let same : c.in_ok-clone.field-0 ≡ c.args.origin.now = c.in_ok-clone.ensures.cases in
    let built = c.in_ok-update.ensures.built ∙ ap (λ (origin : NameValue). creating origin c.args.set) same in
    subst (λ (m : MessageValue). IfOk c.to_vec.result (λ bytes. bytes.items ≡ message_bytes 65535 m)) built
    (IfOk-weaker c.to_vec.result _ _
    (λ bytes is. answer_bytes (message_value c.in_ok-update.update) 65535 0 [] bytes.items is)
    c.to_vec.ensures.answer)

pub returns-clause-refused : goal.returns-clause-refused
returns-clause-refused c =
    let same : c.in_ok-clone.field-0 ≡ c.args.origin.now = c.in_ok-clone.ensures.cases in
    let built = c.in_ok-update.ensures.built ∙ ap (λ (origin : NameValue). creating origin c.args.set) same in
    subst (λ (m : MessageValue). IfErr c.to_vec.result (λ e. (e ≡ refusals.Memory) ⊎ (message_answer 65535 m ≡ Err e)))
    built
    c.to_vec.ensures.refusal
