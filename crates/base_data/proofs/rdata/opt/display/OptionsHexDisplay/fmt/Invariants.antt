use Rattle.std.proofs.Common.{take}
use Rattle.std.specs.Fmt.{HasWritten, IsPlainFormatter}
use Rattle.base_data.specs.Opaque.{hex_text}
use Rattle.base_data.specs.OPT.{options_wire}
use Rattle.base_data.proofs.rdata.opt.display.OptionsHexDisplay.fmt.Given as goal

abbrev pub invariant-loop-option : goal.invariant-loop-option
invariant-loop-option g l =
    IsPlainFormatter l.initial.f → HasWritten g.W.Write.write_str_gives l.initial.f
    (hex_text (options_wire (take l.option-index l.option-items))) l.f
