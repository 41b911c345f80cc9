use Rattle.std.proofs.Common.{refl, true}
use Rattle.std.proofs.Output.{has_written_append, has_written_of_eq}
use Rattle.op.specs.MessageText.{query_line}
use Rattle.op.proofs.writing.LineLemmas.{one_more}
use Rattle.op.proofs.message.display.QueryLinesDisplay.fmt.Goals as goal

pub loop-query-preserved : goal.loop-query-preserved
loop-query-preserved g c = λ plain.
    let before = c.loop-query.invariant plain in
    has_written_of_eq _ _ _ _ _ (one_more query_line c.args.self.now.0.now c.loop-query.query-index c.query-item.result
    c.loop-query-test.true c.query-item.is)
    (has_written_append _ _ _ _ _ _ before (c.in_ok-writeln.ensures.writes before.plain (refl {a = true})))
