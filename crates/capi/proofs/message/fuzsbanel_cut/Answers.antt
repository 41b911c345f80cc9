use Rattle.std.proofs.Common.{List, ℕ}
use Rattle.tasks.specs.Message.{IsCutOf}
use Rattle.capi.proofs.AnswerLemmas.{put_holds}
use Rattle.capi.proofs.message.fuzsbanel_cut.Goals as goal

pub returns-clause-cut : goal.returns-clause-cut
returns-clause-cut c some room =
    put_holds (λ (bytes : List ℕ). IsCutOf c.args.message.now c.args.limit bytes) c.cut.result c.args.out.now
    c.give.new.out c.give.new.needed c.give.result
    c.cut.ensures.cut c.give.ensures some room
