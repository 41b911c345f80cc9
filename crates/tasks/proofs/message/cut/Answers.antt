use Rattle.std.proofs.Common.{Ok}
use Rattle.std.proofs.lemmas.Result.{err_from_is_err_and}
use Rattle.op.specs.Message.{message_value}
use Rattle.tasks.proofs.MessageLemmas.{cut_refused, cut_written}
use Rattle.tasks.proofs.message.cut.Goals as goal

pub returns-in_err-to_vec_within-clause-exact : goal.returns-in_err-to_vec_within-clause-exact
returns-in_err-to_vec_within-clause-exact c =
    let p = err_from_is_err_and c.from_residual-in_err-to_vec_within.result
    c.from_residual-in_err-to_vec_within.ensures.1 in
    let found = c.in_ok-message.ensures.found in
    rw (p.1, p.2) (cut_refused c.args.bytes.now c.args.limit
    (message_value c.in_ok-message.message) found.0 c.in_err-to_vec_within.field-0.0 found.1
    c.in_err-to_vec_within.ensures.refusal)

pub returns-clause-exact : goal.returns-clause-exact
returns-clause-exact c =
    let found = c.in_ok-message.ensures.found in
    cut_written c.args.bytes.now c.args.limit (message_value c.in_ok-message.message) found.0
    (Ok c.in_ok-to_vec_within.field-0.items) found.1 c.in_ok-to_vec_within.ensures.answer

pub returns-clause-cut : goal.returns-clause-cut
returns-clause-cut c =
    let found = c.in_ok-message.ensures.found in
    record {
      message = message_value c.in_ok-message.message;
      end = found.0;
      stands = found.1;
      written =
          c.in_ok-to_vec_within.ensures.written c.in_ok-message.ensures.fits;
    }
