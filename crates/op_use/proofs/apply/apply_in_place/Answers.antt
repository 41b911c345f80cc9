use Rattle.op_use.proofs.ToldSteps.{change_told}
use Rattle.op_use.proofs.apply.apply_in_place.Goals as goal

pub returns-in-Refused-clause-applied : goal.returns-in-Refused-clause-applied
returns-in-Refused-clause-applied c = rw c.in-Refused.is at c.in_ok-answer.ensures

pub install-requires : goal.install-requires
install-requires c =
    let both = rw c.in-Done.is at c.in_ok-answer.ensures in
    both.0

pub returns-in_ok-install-in-Done-clause-applied : goal.returns-in_ok-install-in-Done-clause-applied
returns-in_ok-install-in-Done-clause-applied c =
    let both = rw c.in-Done.is at c.in_ok-answer.ensures in
    both.1 c.install.new.sets c.in_ok-install-in-Done.ensures.ok

pub returns-in_ok-install-in-Done-clause-told : goal.returns-in_ok-install-in-Done-clause-told
returns-in_ok-install-in-Done-clause-told c =
    let both = rw c.in-Done.is at c.in_ok-answer.ensures in
    change_told c.in-Done.outcome c.args.sets.now c.install.new.sets c.has_any-is_changed.result
    c.has_any-is_changed.ensures both.0 c.in_ok-install-in-Done.ensures.ok
