use Rattle.base_data.proofs.ByteWords.{bytes_same}
use Rattle.base_data.proofs.rdata.laws.bytes_are_equal_as_they_are.Goals as goal

pub returns-clause-null : goal.returns-clause-null
returns-clause-null c = bytes_same

pub returns-clause-tsig : goal.returns-clause-tsig
returns-clause-tsig c = bytes_same
