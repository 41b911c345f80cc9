use Rattle.std.proofs.Common.{refl}
use Rattle.base.proofs.writing.LawLemmas.{Keeps-same}
use Rattle.tests_messages.proofs.messages.message.CarelessEmitAndCount.emit.Goals as goal

pub returns-then-self-clause-keeps : goal.returns-then-self-clause-keeps
returns-then-self-clause-keeps c = Keeps-same _ _ refl

pub returns-else-self-clause-keeps : goal.returns-else-self-clause-keeps
returns-else-self-clause-keeps c = Keeps-same _ _ refl
