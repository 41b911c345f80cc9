use Rattle.std.proofs.Common.{◌≡◌, ◌++◌}
use Rattle.std.specs.String.{string_bytes}
use Rattle.txt.specs.Run.{sets_in}
use Rattle.parsed_zone.specs.ZoneText.{set_lines, zone_lines}
use Rattle.parsed_zone.proofs.zone_text.sets_lines.Given as goal

abbrev pub invariant-loop-block : goal.invariant-loop-block
invariant-loop-block l = string_bytes l.lines ++ set_lines (sets_in l.block-iterator.rest.items) ≡ zone_lines
    (l.fn.name, l.fn.sets)
