use Rattle.std.proofs.Common.{Ok}
use Rattle.std.proofs.lemmas.Result.{err_from_is_err_and}
use Rattle.op_use.specs.UpdateMessage.{transfer_message}
use Rattle.tasks.proofs.RefusalLemmas.{first_refused, next_refused, refusal_comes}
use Rattle.tasks.specs.Update.{IsSent, soa_of_text, transfer_asked, transfer_of}
use Rattle.tasks.specs.Update.IsSent.{refused}
use Rattle.tasks.specs.ZoneText.{zone_name_of}
use Rattle.tasks.proofs.update.built.transfer.Goals as goal

pub returns-in_err-zone : goal.returns-in_err-zone
returns-in_err-zone c =
    let p = err_from_is_err_and c.from_residual.result c.from_residual.ensures.1 in
    let number = c.in_err-zone.field-0.0.number in
    rw (p.1, p.2) (refusal_comes (IsSent (transfer_asked c.args.id c.args.origin.now c.args.last_soa.now)) number
    (first_refused (zone_name_of c.args.origin.now)
    (transfer_of c.args.id c.args.last_soa.now) number c.in_err-zone.ensures) (λ is. refused is))

pub returns-in_err-last : goal.returns-in_err-last
returns-in_err-last c =
    let p = err_from_is_err_and c.from_residual-in_err-last.result c.from_residual-in_err-last.ensures.1 in
    let number = c.in_err-last.field-0.0.number in
    let zone = c.in_ok-zone.zone in
    rw (p.1, p.2) (refusal_comes (IsSent (transfer_asked c.args.id c.args.origin.now c.args.last_soa.now)) number
    (next_refused (zone_name_of c.args.origin.now)
    (transfer_of c.args.id c.args.last_soa.now) number zone c.in_ok-zone.ensures
    (first_refused (soa_of_text zone c.args.last_soa.now)
    (λ soa. Ok (transfer_message c.args.id zone soa)) number c.in_err-last.ensures)) (λ is. refused is))
