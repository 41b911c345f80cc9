use Rattle.base.proofs.reading.TrackLemmas.{tracked_on}
use Rattle.base.proofs.wire.decoder.BinDecoder.read_slice.Goals as goal

pub returns-clause-tracks : goal.returns-clause-tracks
returns-clause-tracks c = tracked_on c.args.len c.self.view_is
