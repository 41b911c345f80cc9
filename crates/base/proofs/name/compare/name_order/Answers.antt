use Rattle.base.specs.contracts.name.compare.NameHash.TheImpl.Laws.{respects_eq-law}
use Rattle.base.specs.names.NameOrder.{folded}
use Rattle.base.specs.names.NameOrderLaws.{same_by-is, cmp_by-ties}
use Rattle.base.proofs.name.compare.name_order.Goals as goal

pub returns-clause-equal : goal.returns-clause-equal
returns-clause-equal c = same_by-is folded

pub returns-clause-ties : goal.returns-clause-ties
returns-clause-ties c = cmp_by-ties folded

pub returns-clause-relative_first : goal.returns-clause-relative_first
returns-clause-relative_first c = λ a b relative absolute. rw (relative, absolute)

pub returns-clause-hashed : goal.returns-clause-hashed
returns-clause-hashed c = respects_eq-law
