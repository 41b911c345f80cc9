use Rattle.std.proofs.Common.{rules}
use Rattle.tasks.specs.Update.{IsSent, transfer_asked}
use Rattle.capi.proofs.AnswerLemmas.{answered_by}
use Rattle.capi.specs.Answer.{IsAnsweredBy}
use Rattle.capi.proofs.update.fuzsbanel_zone_transfer.Goals as goal

pub returns : goal.returns
returns c =
    let Comes = IsSent (transfer_asked c.args.id c.args.origin.now c.args.last_soa.now) in
    let answered : IsAnsweredBy Comes c.args.out.now c.give.new.out c.give.new.needed c.give.result =
    answered_by Comes c.transfer.result c.args.out.now c.give.new.out c.give.new.needed c.give.result c.transfer.ensures
    c.give.ensures in
    search rules
