use Rattle.std.proofs.Common.{Err, sym, ap, ◌∙◌, subst}
use Rattle.op.specs.Composition.{CountsItems}
use Rattle.op.proofs.message.writing.count_items.Goals as goal

pub returns-in-Ok : goal.returns-in-Ok
returns-in-Ok c = subst (λ answer. CountsItems answer c.narrow.result) (sym c.in-Ok.is) c.narrow.ensures

pub returns-in-NotAllRecordsWritten : goal.returns-in-NotAllRecordsWritten
returns-in-NotAllRecordsWritten c =
    let is = c.in-Err.is ∙ ap Err c.in-NotAllRecordsWritten.is in
    subst (λ answer. CountsItems answer c.narrow-in-NotAllRecordsWritten.result)
    (sym is) c.narrow-in-NotAllRecordsWritten.ensures
