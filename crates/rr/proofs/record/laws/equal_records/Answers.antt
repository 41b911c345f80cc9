use Rattle.rr.proofs.EqualRecords.{equal_is}
use Rattle.rr.specs.RecordOrderLaws.{same_record-equiv}
use Rattle.rr.proofs.record.laws.equal_records.Goals as goal

pub returns-clause-equal : goal.returns-clause-equal
returns-clause-equal g c = equal_is g.R.PartialEq.eq

pub returns-clause-equivalence : goal.returns-clause-equivalence
returns-clause-equivalence g c = same_record-equiv g.met.R.Eq.laws
