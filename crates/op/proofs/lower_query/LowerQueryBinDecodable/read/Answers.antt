use Rattle.std.proofs.lemmas.Result.{err_from_is_err_and}
use Rattle.base.proofs.reading.TrackLemmas.{bounded_here}
use Rattle.op.proofs.lower_query.LowerQueryBinDecodable.read.Goals as goal

pub returns-in_err-name-clause-tracks : goal.returns-in_err-name-clause-tracks
returns-in_err-name-clause-tracks c =
    rw (err_from_is_err_and c.from_residual-in_err-name.result c.from_residual-in_err-name.ensures.1).1
    (bounded_here c.in_ok-original.ensures.tracks)
