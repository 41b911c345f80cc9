use Rattle.base_data.proofs.DataRows.{reads_data, refuses_data, data_again}
use Rattle.base_data.proofs.TextWords.{short_strings}
use Rattle.base_data.proofs.rdata.words.reading_is_the_data_word.Goals as goal

pub returns-clause-word : goal.returns-clause-word
returns-clause-word c = reads_data

pub returns-clause-fault : goal.returns-clause-fault
returns-clause-fault c = refuses_data

pub returns-clause-short : goal.returns-clause-short
returns-clause-short c = short_strings

pub returns-clause-written : goal.returns-clause-written
returns-clause-written c = data_again
