use Rattle.base.proofs.reading.TrackLemmas.{tracked_on}
use Rattle.base.proofs.wire.decoder.BinDecoder.read_u32.Goals as goal

pub returns-in-len4-up-clause-tracks : goal.returns-in-len4-up-clause-tracks
returns-in-len4-up-clause-tracks c = tracked_on 4 c.self.view_is
