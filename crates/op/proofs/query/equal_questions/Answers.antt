use Rattle.op.specs.contracts.query.QueryHash.TheImpl.Laws.{respects_eq-law}
use Rattle.op.proofs.equality.QueryEquals.{equal_is}
use Rattle.op.proofs.query.equal_questions.Goals as goal

pub returns-clause-equal : goal.returns-clause-equal
returns-clause-equal c = equal_is

pub returns-clause-hashed : goal.returns-clause-hashed
returns-clause-hashed c = respects_eq-law
