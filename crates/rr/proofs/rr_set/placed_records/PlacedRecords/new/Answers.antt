use Rattle.base.proofs.writing.LawLemmas.{none_is_not}
use Rattle.rr.proofs.SetTidy.{distinct_none}
use Rattle.rr.proofs.rr_set.placed_records.PlacedRecords.new.Goals as goal
use Rattle.std.proofs.Common.{refl}
use Rattle.std.specs.Prelude.{Some}

pub invariant_of-result : goal.invariant_of-result
invariant_of-result c = rw c.new.ensures.items (
  record { distinct = distinct_none; indexed = record { at = λ i r e. absurd (none_is_not (Some r) e) } },
  refl,
)
