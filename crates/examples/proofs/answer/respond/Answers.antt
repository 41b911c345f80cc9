use Rattle.std.proofs.Common.{rules, sym, ◌∙◌}
use Rattle.std.proofs.lemmas.Result.{err_from_is_err_and}
use Rattle.op.specs.Message.{message_value}
use Rattle.examples.proofs.CallerLemmas.{answered, unanswered}
use Rattle.examples.proofs.answer.respond.Goals as goal

pub returns-then-not-is_query-clause-sent : goal.returns-then-not-is_query-clause-sent
returns-then-not-is_query-clause-sent c =
    let found = c.in_ok-query.ensures.found in
    record {
      message = message_value c.in_ok-query.query;
      end = found.0;
      stands = found.1;
      other =
          sym c.is_query.ensures ∙ c.if-not-is_query.true;
    }

pub returns-in_err-to_vec_within-clause-refused : goal.returns-in_err-to_vec_within-clause-refused
returns-in_err-to_vec_within-clause-refused c =
    let p = err_from_is_err_and c.from_residual-in_err-to_vec_within.result
    c.from_residual-in_err-to_vec_within.ensures.1 in
    let found = c.in_ok-query.ensures.found in
    rw (p.1, p.2) (unanswered c.args.received.now c.args.answers.items
    (message_value c.in_ok-query.query) found.0 found.1 (message_value c.response_to-response.result)
    c.max_payload-limit.result c.response_to-response.ensures c.max_payload-limit.ensures
    c.in_err-to_vec_within.field-0.0 c.in_err-to_vec_within.ensures.refusal)

pub returns-clause-sent : goal.returns-clause-sent
returns-clause-sent c =
    let found = c.in_ok-query.ensures.found in
    answered c.args.received.now c.args.answers.items (message_value c.in_ok-query.query) found.0 found.1
    (message_value c.response_to-response.result) c.max_payload-limit.result
    c.response_to-response.ensures c.max_payload-limit.ensures c.in_ok-to_vec_within.field-0.items
    (sym c.is_query.ensures ∙ c.if-not-is_query.false)
    c.in_ok-query.ensures.fits c.in_ok-to_vec_within.ensures.written c.in_ok-to_vec_within.ensures.answer
