use Rattle.std.proofs.Common.{List, subst, ℕ}
use Rattle.std.proofs.lemmas.Result.{err_from_is_err_and}
use Rattle.op.specs.Message.{IsMessageAt}
use Rattle.op_use.specs.DnsResponse.{IsRefusedResponse}
use Rattle.tasks.proofs.ResponseLemmas.{response_again, response_refused}
use Rattle.tasks.proofs.response.response_of.Goals as goal

pub returns-in_err-from_buffer : goal.returns-in_err-from_buffer
returns-in_err-from_buffer c =
    let p = err_from_is_err_and c.from_residual-in_err-from_buffer.result
    c.from_residual-in_err-from_buffer.ensures.1 in
    let f = c.in_err-from_buffer.field-0.0 in
    rw (p.1, p.2) (response_refused c.args.bytes.now f
    (subst (λ (xs : List ℕ). IsRefusedResponse xs f) c.in_ok-from_slice.ensures.items
    c.in_err-from_buffer.ensures.refused))

pub returns : goal.returns
returns c =
    let found = c.in_ok-from_buffer.ensures.found in
    let m = c.in_ok-from_buffer.field-0.message in
    response_again c.args.bytes.now m found.0.0
    (subst (λ (xs : List ℕ). IsMessageAt xs 0 m found.0.0) c.in_ok-from_slice.ensures.items found.0.1) found.1
