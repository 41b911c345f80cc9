use Rattle.std.proofs.Common.{ap, sym, ◌∙◌}
use Rattle.base.specs.declared.limits.TheConstants.{MAX_MESSAGE}
use Rattle.base.specs.names.Labels.{NameValue}
use Rattle.op.specs.Message.{MessageValue}
use Rattle.op.specs.MessageWritten.{message_answer}
use Rattle.tasks.specs.Asked.{Asked, ◌>>=◌, written}
use Rattle.tasks.specs.Query.{query_of}
use Rattle.tasks.proofs.query.query_bytes.Goals as goal

pub returns : goal.returns
returns c =
    ap (λ (asked : Asked NameValue). asked >>= λ name. written
    (message_answer MAX_MESSAGE (query_of c.args.question name)))
    c.in_ok-name.ensures
    ∙ ap (λ (m : MessageValue). written (message_answer MAX_MESSAGE m)) (sym c.in_ok-message.ensures)
    ∙ ap written c.in_ok-to_vec.ensures.answer
