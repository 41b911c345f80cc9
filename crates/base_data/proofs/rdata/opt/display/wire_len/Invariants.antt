use Rattle.std.proofs.Common.{◌≡◌, ◌*◌, ◌≤◌, take}
use Rattle.base_data.specs.OPT.{options_len}
use Rattle.base_data.proofs.rdata.opt.display.wire_len.Given as goal

abbrev pub invariant-loop-option : goal.invariant-loop-option
invariant-loop-option l = record {
  counted : l.len ≡ options_len (take l.option-index l.options);
  small : l.len ≤ 65539 * l.option-index;
}
