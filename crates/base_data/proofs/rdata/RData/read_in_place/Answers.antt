use Rattle.base.proofs.reading.TrackLemmas.{tracked_itself}
use Rattle.base_data.proofs.rdata.RData.read_in_place.Goals as goal

pub returns-then-len-eq0-clause-tracks : goal.returns-then-len-eq0-clause-tracks
returns-then-len-eq0-clause-tracks c = tracked_itself c.args.decoder.now
