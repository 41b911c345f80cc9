use Rattle.std.proofs.lemmas.Result.{err_from_is_err_and}
use Rattle.tasks.proofs.WalkLemmas.{question_unnamed}
use Rattle.tasks.proofs.walk.whole.question.Goals as goal

pub returns-in_err-name : goal.returns-in_err-name
returns-in_err-name c =
    let p = err_from_is_err_and c.from_residual.result c.from_residual.ensures.1 in
    let at = c.args.decoder.now in
    rw (p.1, p.2) (question_unnamed at.bytes at.index (rw (← c.index-place.ensures.value) c.index-place.ensures.inside)
    c.in_err-name.field-0.0 c.in_err-name.ensures.read)
