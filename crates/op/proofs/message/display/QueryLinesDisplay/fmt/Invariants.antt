use Rattle.std.proofs.Common.{take}
use Rattle.std.specs.Fmt.{HasWritten, IsPlainFormatter}
use Rattle.op.specs.MessageText.{query_lines}
use Rattle.op.proofs.message.display.QueryLinesDisplay.fmt.Given as goal

abbrev pub invariant-loop-query : goal.invariant-loop-query
invariant-loop-query g l =
    IsPlainFormatter l.initial.f → HasWritten g.W.Write.write_str_gives l.initial.f
    (query_lines (take l.query-index l.query-items)) l.f
