use Rattle.op.proofs.reading.HeaderReading.{reads_word, faults_short}
use Rattle.op.proofs.header.reading_is_the_header_word.Goals as goal

pub returns-clause-word : goal.returns-clause-word
returns-clause-word c = reads_word

pub returns-clause-fault : goal.returns-clause-fault
returns-clause-fault c = faults_short
