use Rattle.std.proofs.Common.{rules}
use Rattle.capi.proofs.AnswerLemmas.{update_answered}
use Rattle.capi.specs.Update.{IsUpdateAnswered}
use Rattle.capi.proofs.update.give_update.Goals as goal

pub returns : goal.returns
returns c =
    let answered : IsUpdateAnswered c.args.id c.args.use_edns c.args.origin.now c.args.change c.args.out.now
    c.give.new.out c.give.new.needed c.give.result =
    update_answered c.args.id c.args.use_edns c.args.origin.now c.args.change c.update.result c.args.out.now
    c.give.new.out c.give.new.needed c.give.result c.update.ensures.sent c.update.ensures.update c.give.ensures in
    search rules
