use Rattle.base_data.proofs.DataRows.{written_again}
use Rattle.base_data.proofs.rdata.words.written_data_is_read.Goals as goal

pub returns : goal.returns
returns c = written_again
