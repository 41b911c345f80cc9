use Rattle.op.proofs.reading.QueryLemmas.{reads_question, refuses_question, question_same}
use Rattle.op.proofs.query.reading_is_the_question_word.Goals as goal

pub returns-clause-word : goal.returns-clause-word
returns-clause-word c = reads_question

pub returns-clause-fault : goal.returns-clause-fault
returns-clause-fault c = refuses_question

pub returns-clause-same : goal.returns-clause-same
returns-clause-same c = question_same
