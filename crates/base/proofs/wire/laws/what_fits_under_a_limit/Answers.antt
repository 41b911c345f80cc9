use Rattle.base.proofs.writing.FittingLemmas.{all_fit, no_fewer_fit}
use Rattle.base.proofs.writing.FittingLemmas.{Fits-cut}
use Rattle.base.proofs.wire.laws.what_fits_under_a_limit.Goals as goal

pub returns-clause-first : goal.returns-clause-first
returns-clause-first c = λ start limit values s. Fits-cut _ limit values s

pub returns-clause-all : goal.returns-clause-all
returns-clause-all c = λ start limit values at stored room. all_fit _ limit values at stored room

pub returns-clause-no_fewer : goal.returns-clause-no_fewer
returns-clause-no_fewer c = λ start limit larger values at stored le. no_fewer_fit _ limit larger values at stored le
