use Rattle.std.proofs.Common.{sym, ◌∙◌}
use Rattle.std.proofs.lemmas.Result.{err_from_is_err_and}
use Rattle.tasks.proofs.WalkLemmas.{comes_all, comes_fault, comes_more}
use Rattle.tasks.proofs.walk.whole.go_on.Goals as goal

pub loop-preserved : goal.loop-preserved
loop-preserved c = rw (c.in_ok-push.ensures.items, c.in_ok-stop.ensures.1)
    (comes_more c.loop-test.true c.in_ok-stop.ensures.0 c.loop.invariant)

pub returns-in_err-stop-clause-read : goal.returns-in_err-stop-clause-read
returns-in_err-stop-clause-read c =
    let p = err_from_is_err_and c.from_residual.result c.from_residual.ensures.1 in
    rw (p.1, p.2) (comes_fault c.in_err-stop.field-0.0 c.loop-test.true c.in_err-stop.ensures c.loop.invariant)

pub returns-clause-read : goal.returns-clause-read
returns-clause-read c = (comes_all c.loop-test.false c.loop.invariant, c.loop.invariant.same ∙ sym c.requires)
