use Rattle.op.specs.Query.{query_written}
use Rattle.rr.specs.Record.{record_written}
use Rattle.op.proofs.writing.PartLemmas.{no_fewer}
use Rattle.op.proofs.message.laws.a_larger_limit_keeps_no_fewer.Goals as goal

pub returns-clause-records : goal.returns-clause-records
returns-clause-records c = λ small large more rs at stored. no_fewer record_written small large more rs at stored

pub returns-clause-questions : goal.returns-clause-questions
returns-clause-questions c = λ small large more qs at stored. no_fewer query_written small large more qs at stored
