use Rattle.base.proofs.reading.TrackLemmas.{tracked_on}
use Rattle.base.proofs.wire.decoder.BinDecoder.read_u16.Goals as goal

pub returns-in-len2-up-clause-tracks : goal.returns-in-len2-up-clause-tracks
returns-in-len2-up-clause-tracks c = tracked_on 2 c.self.view_is
