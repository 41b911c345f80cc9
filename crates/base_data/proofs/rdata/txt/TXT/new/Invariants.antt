use Rattle.std.proofs.Common.{◌≡◌, map, take}
use Rattle.base.specs.names.Labels.{wire_of}
use Rattle.base_data.proofs.rdata.txt.TXT.new.Given as goal

abbrev pub invariant-loop-string : goal.invariant-loop-string
invariant-loop-string l = l.bytes.items ≡ wire_of (map (λ string. string.now) (take l.string-index l.strings))
