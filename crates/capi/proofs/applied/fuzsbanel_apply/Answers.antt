use Rattle.std.proofs.Common.{rules}
use Rattle.tasks.specs.Applied.{IsApplied}
use Rattle.capi.proofs.AnswerLemmas.{answered_by}
use Rattle.capi.specs.Answer.{IsAnsweredBy}
use Rattle.capi.proofs.applied.fuzsbanel_apply.Goals as goal

pub returns : goal.returns
returns c =
    let Comes = IsApplied c.args.update.now c.args.origin.now c.args.text.now in
    let answered : IsAnsweredBy Comes c.args.out.now c.give.new.out c.give.new.needed c.give.result =
    answered_by Comes c.apply.result c.args.out.now c.give.new.out c.give.new.needed c.give.result c.apply.ensures
    c.give.ensures in
    search rules
