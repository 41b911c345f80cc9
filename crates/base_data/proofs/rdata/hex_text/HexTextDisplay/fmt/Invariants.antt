use Rattle.std.proofs.Common.{take}
use Rattle.std.specs.Fmt.{HasWritten, IsPlainFormatter}
use Rattle.base_data.specs.Opaque.{hex_text}
use Rattle.base_data.proofs.rdata.hex_text.HexTextDisplay.fmt.Given as goal

abbrev pub invariant-loop-byte : goal.invariant-loop-byte
invariant-loop-byte g l =
    IsPlainFormatter l.initial.f → HasWritten g.W.Write.write_str_gives l.initial.f
    (hex_text (take l.byte-index l.byte-items)) l.f
