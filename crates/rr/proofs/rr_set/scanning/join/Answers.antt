use Rattle.rr.proofs.SetSteps.{replaced_none}
use Rattle.rr.proofs.rr_set.scanning.join.Goals as goal
use Rattle.rr.specs.SetChanges.{has_data_of}
use Rattle.std.proofs.Common.{false, rules, ◌∙◌, ◌≡◌}
use Rattle.std.proofs.lemmas.Result.{err_from_is_err_and}
use Rattle.std.specs.List.{list_any}

pub returns-in_err-push-clause-err : goal.returns-in_err-push-clause-err
returns-in_err-push-clause-err c =
    let none : list_any (has_data_of c.args.entry) c.args.records.now.items ≡ false = search rules in
    let p = err_from_is_err_and c.from_residual-in_err-push.result c.from_residual-in_err-push.ensures.1 in
    rw p.1 (c.in_err-push.ensures.items ∙ c.in_ok-replace.ensures.ok
    ∙ replaced_none c.args.entry c.args.records.now.items none)
