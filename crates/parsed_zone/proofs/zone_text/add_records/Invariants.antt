use Rattle.std.proofs.Common.{◌≡◌, ◌++◌}
use Rattle.std.specs.String.{string_bytes}
use Rattle.op.specs.MessageText.{record_lines}
use Rattle.parsed_zone.proofs.zone_text.add_records.Given as goal

abbrev pub invariant-loop-entry : goal.invariant-loop-entry
invariant-loop-entry l = string_bytes l.lines ++ record_lines l.entry-iterator.rest.items
    ≡ string_bytes l.fn.lines ++ record_lines l.fn.records.items
