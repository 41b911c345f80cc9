use Rattle.authority.proofs.FillingLemmas.{next_is}
use Rattle.authority.proofs.transferring.next_message.Goals as goal
use Rattle.authority.specs.Transfer.{room_beside}
use Rattle.op.specs.Message.{message_value}
use Rattle.std.proofs.Common.{ap, length, sym, ◌∙◌}
use Rattle.std.proofs.lemmas.Bool.{eq-eqb, false≢true}

pub returns-clause-next : goal.returns-clause-next
returns-clause-next c =
    let zone = c.args.zone.now in
    let filled = c.fill.new.self in
    next_is zone.origin.now zone.class zone.sets.now c.args.soa.now (message_value c.args.query.now) c.args.place.now
    c.in_ok-next.next c.new-answers.result filled (message_value c.in_ok-message.message) c.new-answers.ensures.none
    (c.new-answers.ensures.room ∙ c.room_beside.ensures ∙ ap room_beside c.deref.ensures.value)
    (λ h. false≢true (sym c.if-is_empty.false ∙ c.is_empty.ensures
    ∙ eq-eqb filled.records.len 0 (filled.records.ok.0 ∙ ap length h))) c.in_ok-next.ensures.value
    c.in_ok-message.ensures
