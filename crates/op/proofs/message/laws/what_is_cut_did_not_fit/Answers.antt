use Rattle.base.proofs.writing.FittingLemmas.{Fits-cut}
use Rattle.op.specs.Query.{query_written}
use Rattle.rr.specs.Record.{record_written}
use Rattle.op.proofs.message.laws.what_is_cut_did_not_fit.Goals as goal

pub returns-clause-records : goal.returns-clause-records
returns-clause-records c = λ limit rs s. Fits-cut record_written limit rs s

pub returns-clause-questions : goal.returns-clause-questions
returns-clause-questions c = λ limit qs s. Fits-cut query_written limit qs s
