use Rattle.op.specs.Message.{message_value}
use Rattle.op_use.specs.Server.{sections_of}
use Rattle.parsed_zone.proofs.AppliedLines.{lines_answered}
use Rattle.parsed_zone.proofs.applying.lines_after.Goals as goal

pub returns : goal.returns
returns c =
    lines_answered c.args.name.now (sections_of (message_value c.args.message.now)) c.args.sets c.in_ok-code.changed
    c.in_ok-code.code
    c.in_ok-update_lines.ensures.ordered c.in_ok-code.ensures.applied _ c.in_ok-code.ensures.all
    c.in_ok-update_lines.ensures.lines
