use Rattle.std.proofs.Common.{◌-◌, []}
use Rattle.base.specs.reading.Tracks.{Tracked}
use Rattle.base_data.proofs.OptionLemmas.{AreGathered}
use Rattle.base_data.proofs.rdata.opt.OPTSizedData.read.Given as goal

abbrev pub invariant-options : goal.invariant-options
invariant-options l = record {
  gathered : AreGathered l.len l.end l.fn.decoder.bytes l.decoder.bytes l.fn.decoder.index l.decoder.index
      l.options.items;
  tracked : Tracked [] l.fn.decoder l.decoder;
}

abbrev pub decreases-options : goal.decreases-options
decreases-options l = l.end - l.decoder.index
