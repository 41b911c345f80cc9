use Rattle.std.proofs.Common.{rules}
use Rattle.tasks.specs.ZoneText.{IsCanonical}
use Rattle.capi.proofs.AnswerLemmas.{answered_by}
use Rattle.capi.specs.Answer.{IsAnsweredBy}
use Rattle.capi.proofs.zone.fuzsbanel_zone.Goals as goal

pub returns : goal.returns
returns c =
    let Comes = IsCanonical c.args.origin.now c.args.text.now in
    let answered : IsAnsweredBy Comes c.args.out.now c.give.new.out c.give.new.needed c.give.result =
    answered_by Comes c.canonical_text.result c.args.out.now c.give.new.out c.give.new.needed c.give.result
    c.canonical_text.ensures c.give.ensures in
    search rules
