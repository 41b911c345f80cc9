use Rattle.std.proofs.Common.{rules}
use Rattle.base.proofs.writing.WrittenLemmas.{Exactly-then}
use Rattle.base_data.proofs.rdata.mx.MXBinEncodable.emit.Goals as goal

pub returns-clause-exact : goal.returns-clause-exact
returns-clause-exact c = search (rules, Exactly-then)
