use Rattle.std.proofs.Common.{◌≡◌, ◌++◌}
use Rattle.std.specs.String.{string_bytes}
use Rattle.parsed_zone.specs.ZoneText.{origin_line, set_lines}
use Rattle.parsed_zone.proofs.zone_text.zone_lines.Given as goal

abbrev pub invariant-loop-key : goal.invariant-loop-key
invariant-loop-key l = string_bytes l.lines ++ set_lines l._key-iterator
    ≡ origin_line l.name ++ set_lines l.fn.sets.entries
