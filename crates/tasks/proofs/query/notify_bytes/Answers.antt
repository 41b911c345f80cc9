use Rattle.std.proofs.Common.{ap, sym, ◌∙◌}
use Rattle.base.specs.declared.limits.TheConstants.{MAX_MESSAGE}
use Rattle.base.specs.names.Labels.{NameValue}
use Rattle.op.specs.Message.{MessageValue}
use Rattle.op.specs.MessageWritten.{message_answer}
use Rattle.tasks.specs.Asked.{Asked, ◌>>=◌, written}
use Rattle.tasks.specs.Query.{notify_of}
use Rattle.tasks.proofs.query.notify_bytes.Goals as goal

pub returns : goal.returns
returns c =
    ap (λ (asked : Asked NameValue). asked >>= λ zone. written
    (message_answer MAX_MESSAGE (notify_of c.args.id zone)))
    c.in_ok-zone.ensures
    ∙ ap (λ (m : MessageValue). written (message_answer MAX_MESSAGE m)) (sym c.in_ok-message.ensures)
    ∙ ap written c.in_ok-to_vec.ensures.answer
