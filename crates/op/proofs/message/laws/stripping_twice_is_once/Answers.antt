use Rattle.op.proofs.StripLemmas.{strip_none, strip_twice}
use Rattle.op.proofs.message.laws.stripping_twice_is_once.Goals as goal

pub returns-clause-once : goal.returns-clause-once
returns-clause-once c = strip_twice

pub returns-clause-unasked : goal.returns-clause-unasked
returns-clause-unasked c = strip_none
