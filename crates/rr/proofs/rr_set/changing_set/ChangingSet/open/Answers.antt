use Rattle.base_data.specs.SameData.{same_data}
use Rattle.base_data.specs.declared.rdata.RData.{RData}
use Rattle.rr.proofs.PlacedLemmas.{joined_next}
use Rattle.rr.proofs.rr_set.changing_set.ChangingSet.open.Goals as goal
use Rattle.rr.specs.declared.record.Record.{Record}
use Rattle.std.proofs.Common.{arith, subst, sym}
use Rattle.std.specs.List.{IsDistinct}
use Rattle.std.specs.Ordering.{on}

pub loop-entry-preserved : goal.loop-entry-preserved
loop-entry-preserved c =
    joined_next c.loop-entry.entry-index c.entry-item.result c.loop-entry.records c.as_slice-entries.result.now
    c.join.new.self
    (subst (IsDistinct (on (λ (r : Record RData). r.rdata) same_data)) (sym c.as_slice-entries.ensures) c.requires)
    (omega arith) c.entry-item.is c.loop-entry.invariant c.in_ok-join.ensures.ok
