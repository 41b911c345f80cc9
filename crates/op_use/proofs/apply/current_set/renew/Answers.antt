use Rattle.op_use.proofs.apply.current_set.renew.Goals as goal
use Rattle.rr.proofs.SetSteps.{same_clone}
use Rattle.rr.specs.SetChanges.{joined, with_records}
use Rattle.std.proofs.Common.{ap, ◌∙◌}

pub returns-in_default-clause-err : goal.returns-in_default-clause-err
returns-in_default-clause-err c = c.in_default.ensures.err

pub returns-clause-ok : goal.returns-clause-ok
returns-clause-ok c = c.in-Ok.ensures.ok ∙ ap (λ r. with_records c.args.set.now (joined r c.args.set.now.records))
    (same_clone _ _ c.in_ok-clone.ensures.cases)
