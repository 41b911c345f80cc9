use Rattle.op_use.proofs.SettleSteps.{all_out}
use Rattle.op_use.proofs.apply.outcome.Outcome.install.Goals as goal
use Rattle.std.proofs.Common.{ap, ◌∙◌}
use Rattle.std.specs.Map.{keys_of}

pub returns-in_default-clause-err : goal.returns-in_default-clause-err
returns-in_default-clause-err c = all_out c.args.self.added.items c.as_slice-in_default.result.now c.args.sets.now
    c.put_all.new.sets c.remove_all.new.sets
    (c.as_slice-in_default.ensures.value ∙ c.in_ok-keys.ensures ∙ ap keys_of c.as_slice.ensures.value)
    (λ q e. (c.requires q).absent e) c.in_default.ensures.err c.remove_all.ensures
