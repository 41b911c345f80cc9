use Rattle.base_data.proofs.ItemsRead.{data_read, text_shown}
use Rattle.base_data.proofs.rdata.laws.texts_are_read.Goals as goal

pub returns-clause-shown : goal.returns-clause-shown
returns-clause-shown c = text_shown

pub returns-clause-read : goal.returns-clause-read
returns-clause-read c = data_read
