use Rattle.op.proofs.reading.MessageFaults.{refuses_message, refuses_questions}
use Rattle.op.proofs.reading.MessageStands.{one_message, reads_message, reads_questions, reads_section}
use Rattle.op.proofs.reading.SectionFaults.{refuses_section}
use Rattle.op.proofs.message.laws.reading_is_the_message_word.Goals as goal

pub returns-clause-word : goal.returns-clause-word
returns-clause-word c = reads_message

pub returns-clause-once : goal.returns-clause-once
returns-clause-once c = one_message

pub returns-clause-section : goal.returns-clause-section
returns-clause-section c = reads_section

pub returns-clause-questions : goal.returns-clause-questions
returns-clause-questions c = reads_questions

pub returns-clause-fault : goal.returns-clause-fault
returns-clause-fault c = refuses_message

pub returns-clause-section_fault : goal.returns-clause-section_fault
returns-clause-section_fault c = refuses_section

pub returns-clause-questions_fault : goal.returns-clause-questions_fault
returns-clause-questions_fault c = refuses_questions
