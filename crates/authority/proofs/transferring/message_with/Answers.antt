use Rattle.authority.proofs.transferring.message_with.Goals as goal
use Rattle.authority.specs.Reply.{framed, one_question}
use Rattle.authority.specs.Transfer.{questions_at}
use Rattle.op.specs.Message.{message_value}
use Rattle.op.specs.declared.query.Query.{Query}
use Rattle.std.proofs.Common.{List, ap, ◌∙◌, ◌≡◌}

pub returns : goal.returns
returns c =
    let m = message_value c.args.query.now in
    let place = c.args.place.now in
    let asked : c.in_ok-queries.queries.items ≡ questions_at place (one_question m.queries)
    = c.in_ok-queries.ensures ∙ ap (λ (qs : List Query). questions_at place (one_question qs)) c.deref.ensures.value in
    c.framed.ensures ∙ (λ i. record (framed m (c.plain-answer.ensures i)) { queries = asked i })
