use Rattle.base.proofs.reading.TrackLemmas.{passed_now}
use Rattle.base.proofs.wire.laws.reads_keep_what_is_passed.Goals as goal

pub returns : goal.returns
returns c = λ names old new tracked. passed_now tracked
