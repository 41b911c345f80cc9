use Rattle.std.proofs.Common.{◌≡◌, take}
use Rattle.std.specs.List.{flat_map}
use Rattle.base_data.specs.TXT.{string_byte}
use Rattle.base_data.proofs.rdata.txt.display.plain_text.Given as goal

abbrev pub invariant-loop-b : goal.invariant-loop-b
invariant-loop-b l = flat_map string_byte (take l.b-index l.string) ≡ take l.b-index l.string
