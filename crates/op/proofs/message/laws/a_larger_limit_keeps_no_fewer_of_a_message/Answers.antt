use Rattle.op.specs.Query.{query_written}
use Rattle.op.proofs.writing.PartLemmas.{answers_grow, no_fewer}
use Rattle.op.proofs.message.laws.a_larger_limit_keeps_no_fewer_of_a_message.Goals as goal

pub returns-clause-queries : goal.returns-clause-queries
returns-clause-queries c = λ small large more m at stored. no_fewer query_written small large more m.queries at stored

pub returns-clause-answers : goal.returns-clause-answers
returns-clause-answers c = answers_grow
