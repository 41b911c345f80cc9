use Rattle.std.proofs.Common.{arith}
use Rattle.base.proofs.name.reading.kept_labels.Goals as goal

pub returns-then-from-start-clause-refused : goal.returns-then-from-start-clause-refused
returns-then-from-start-clause-refused c = λ below. absurd (omega (arith, c.from.ensures, c.if-from-start.true, below))

pub returns-in_default-clause-below : goal.returns-in_default-clause-below
returns-in_default-clause-below c = omega (arith, c.from.ensures, c.if-from-start.false)

pub returns-clause-below : goal.returns-clause-below
returns-clause-below c = omega (arith, c.from.ensures, c.if-from-start.false)

pub returns-clause-short : goal.returns-clause-short
returns-clause-short c = omega (arith, c.if-used-labels-gt-MAX_LABELS.false)
