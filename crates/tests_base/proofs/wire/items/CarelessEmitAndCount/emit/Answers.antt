use Rattle.std.proofs.Common.{refl}
use Rattle.base.proofs.writing.LawLemmas.{Keeps-same}
use Rattle.tests_base.proofs.wire.items.CarelessEmitAndCount.emit.Goals as goal

pub returns-clause-keeps : goal.returns-clause-keeps
returns-clause-keeps c = Keeps-same _ _ refl
