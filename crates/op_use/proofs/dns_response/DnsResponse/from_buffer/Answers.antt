use Rattle.std.proofs.Common.{ℕ, List, ap, inl, sym, subst}
use Rattle.std.proofs.lemmas.Result.{err_from_is_err_and}
use Rattle.base.specs.reading.Reading.{Fails}
use Rattle.base.specs.declared.error.proto_error.ProtoError.TheVariants as refusals
use Rattle.op.specs.Message.{IsMessageAt, message_at}
use Rattle.op_use.proofs.dns_response.DnsResponse.from_buffer.Goals as goal

pub returns-in_err-message-clause-only : goal.returns-in_err-message-clause-only
returns-in_err-message-clause-only c m e stands =
    let p = err_from_is_err_and c.from_residual.result c.from_residual.ensures.1 in
    rw (p.1, p.2) (inl (ap refusals.Decode (c.in_err-message.ensures.only m e
    (subst (λ (bytes : List ℕ). IsMessageAt bytes 0 m e) (sym c.deref.ensures.value) stands))))

pub returns-in_err-message-clause-refused : goal.returns-in_err-message-clause-refused
returns-in_err-message-clause-refused c =
    let p = err_from_is_err_and c.from_residual.result c.from_residual.ensures.1 in
    rw (p.1, p.2) (subst (λ (bytes : List ℕ). Fails c.in_err-message.field-0.0 (message_at bytes 0))
    c.deref.ensures.value c.in_err-message.ensures.refused)

pub returns-in-Response-clause-only : goal.returns-in-Response-clause-only
returns-in-Response-clause-only c m e stands =
    c.in_ok-message.ensures.only m e (subst (λ (bytes : List ℕ). IsMessageAt bytes 0 m e)
    (sym c.deref.ensures.value) stands)
