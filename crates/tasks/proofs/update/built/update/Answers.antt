use Rattle.std.proofs.lemmas.Result.{IfOk-weaker, err_from_is_err_and}
use Rattle.op.specs.Message.{message_value}
use Rattle.tasks.proofs.RefusalLemmas.{first_refused, next_refused, refusal_comes}
use Rattle.tasks.specs.Update.{IsSent, change_asked, update_asked}
use Rattle.tasks.specs.Update.IsSent.{refused}
use Rattle.tasks.specs.ZoneText.{zone_name_of}
use Rattle.tasks.proofs.update.built.update.Goals as goal

pub returns-in_err-zone-clause-sent : goal.returns-in_err-zone-clause-sent
returns-in_err-zone-clause-sent c =
    let p = err_from_is_err_and c.from_residual.result c.from_residual.ensures.1 in
    let number = c.in_err-zone.field-0.0.number in
    rw (p.1, p.2) (refusal_comes (IsSent (update_asked c.args.id c.args.use_edns c.args.origin.now c.args.change))
    number
    (first_refused (zone_name_of c.args.origin.now)
    (change_asked c.args.id c.args.use_edns c.args.change) number c.in_err-zone.ensures) (λ is. refused is))

pub returns-in_err-message-clause-sent : goal.returns-in_err-message-clause-sent
returns-in_err-message-clause-sent c =
    let p = err_from_is_err_and c.from_residual-in_err-message.result c.from_residual-in_err-message.ensures.1 in
    let number = c.in_err-message.field-0.0.number in
    rw (p.1, p.2) (refusal_comes (IsSent (update_asked c.args.id c.args.use_edns c.args.origin.now c.args.change))
    number
    (next_refused (zone_name_of c.args.origin.now)
    (change_asked c.args.id c.args.use_edns c.args.change) number c.in_ok-zone.zone c.in_ok-zone.ensures
    c.in_err-message.ensures.made) (λ is. refused is))

pub returns-clause-update : goal.returns-clause-update
returns-clause-update c = IfOk-weaker c.whole_bytes.result _ _ (λ bytes whole. record {
  zone = c.in_ok-zone.zone;
  named = c.in_ok-zone.ensures;
  message = message_value c.in_ok-message.message;
  whole = whole;
  means = c.in_ok-message.ensures.means;
}) c.whole_bytes.ensures.whole
