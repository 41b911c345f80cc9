use Rattle.std.proofs.Common.{All, take}
use Rattle.op.specs.Query.{FitsQuery}
use Rattle.op.specs.QuerySays.{QueryKept}
use Rattle.op.proofs.message.fits_wire.queries_fit.Given as goal

abbrev pub invariant-loop-query : goal.invariant-loop-query
invariant-loop-query l = All FitsQuery (take l.query-index l.queries) × All QueryKept (take l.query-index l.queries)
