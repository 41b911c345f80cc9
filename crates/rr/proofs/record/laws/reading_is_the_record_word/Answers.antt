use Rattle.rr.proofs.ReadRecords.{reads_record, value_stands, record_same}
use Rattle.rr.proofs.RecordFaults.{refuses_record}
use Rattle.rr.proofs.record.laws.reading_is_the_record_word.Goals as goal

pub returns-clause-word : goal.returns-clause-word
returns-clause-word c = reads_record

pub returns-clause-fault : goal.returns-clause-fault
returns-clause-fault c = refuses_record

pub returns-clause-written : goal.returns-clause-written
returns-clause-written c = value_stands

pub returns-clause-same : goal.returns-clause-same
returns-clause-same c = record_same
