use Rattle.std.proofs.Common.{◌≡◌, take}
use Rattle.std.specs.Prelude.{All}
use Rattle.base.specs.writing.Laws.{Keeps}
use Rattle.base.specs.writing.Wire.{state_of}
use Rattle.base.specs.writing.Written.{after, in_turn}
use Rattle.base_data.specs.OPT.{FitsOption, option_written}
use Rattle.base_data.proofs.rdata.opt.OPTBinEncodable.emit.Given as goal

abbrev pub invariant-loop-option : goal.invariant-loop-option
invariant-loop-option l = record {
  keeps : Keeps (state_of l.fn.encoder) (state_of l.encoder);
  fits : All FitsOption (take l.option-index l.self);
  exact : state_of l.encoder ≡ after (in_turn option_written (take l.option-index l.self)) (state_of l.fn.encoder);
}
