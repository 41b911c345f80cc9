use Rattle.base.proofs.reading.TrackLemmas.{tracked_on}
use Rattle.base.proofs.wire.decoder.BinDecoder.pop.Goals as goal

pub returns-in-Some-clause-tracks : goal.returns-in-Some-clause-tracks
returns-in-Some-clause-tracks c = tracked_on 1 c.self.view_is
