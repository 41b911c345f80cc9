use Rattle.rr.proofs.SetLaws.{Distinct}
use Rattle.rr.proofs.SetTidy.{distinct_none}
use Rattle.rr.specs.RecordSet.{SetValue}
use Rattle.std.proofs.Common.{subst, sym}
use Rattle.tests_records.proofs.sets.many.opened.Goals as goal

pub open-requires : goal.open-requires
open-requires c = subst (λ (s : SetValue). Distinct s.records) (sym c.new-set.ensures) distinct_none
