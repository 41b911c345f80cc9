use Rattle.std.proofs.Common.{rules}
use Rattle.rr.proofs.record.compare.Record+RData.canonical_cmp.Goals as goal

pub returns : goal.returns
returns c = search rules
