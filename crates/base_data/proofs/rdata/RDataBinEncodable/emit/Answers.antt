use Rattle.std.proofs.Common.{refl, sym}
use Rattle.base.proofs.writing.LawLemmas.{Keeps-same}
use Rattle.base.proofs.writing.WrittenLemmas.{after-none}
use Rattle.base.specs.writing.Wire.{state_of}
use Rattle.base_data.proofs.rdata.RDataBinEncodable.emit.Goals as goal

pub returns-in-Update0-clause-keeps : goal.returns-in-Update0-clause-keeps
returns-in-Update0-clause-keeps c = Keeps-same _ _ refl

pub returns-in-Update0-clause-exact : goal.returns-in-Update0-clause-exact
returns-in-Update0-clause-exact c = rw c.in-Update0.is (sym (after-none (state_of c.args.encoder.now)))
