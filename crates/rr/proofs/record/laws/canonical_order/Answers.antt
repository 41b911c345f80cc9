use Rattle.rr.proofs.OrderRecords.{records_tied}
use Rattle.rr.specs.RecordOrderLaws.{record_cmp-total}
use Rattle.rr.proofs.record.laws.canonical_order.Goals as goal

pub returns-clause-total : goal.returns-clause-total
returns-clause-total c = record_cmp-total

pub returns-clause-ties : goal.returns-clause-ties
returns-clause-ties c = records_tied
