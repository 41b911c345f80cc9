use Rattle.std.proofs.Common.{refl, true}
use Rattle.std.proofs.Output.{has_written_append, has_written_of_eq}
use Rattle.rr.specs.Record.{record_text}
use Rattle.op.specs.MessageText.{line}
use Rattle.op.proofs.writing.LineLemmas.{one_more}
use Rattle.op.proofs.message.display.RecordLinesDisplay.fmt.Goals as goal

pub loop-record-preserved : goal.loop-record-preserved
loop-record-preserved g c = λ plain.
    let before = c.loop-record.invariant plain in
    has_written_of_eq _ _ _ _ _ (one_more (λ r. line (record_text r)) c.args.self.now.0.now c.loop-record.record-index
    c.record-item.result c.loop-record-test.true c.record-item.is)
    (has_written_append _ _ _ _ _ _ before (c.in_ok-writeln.ensures.writes before.plain (refl {a = true})))
