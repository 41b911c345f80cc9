use Rattle.rr.proofs.rr_set.placed_records.PlacedRecords.into_vec.Given as goal
use Rattle.rr.specs.PlacedRecords.{present}
use Rattle.std.proofs.Common.{length, ◌++◌, ◌≡◌}
use Rattle.std.specs.Vec.Iter.{into_iter_items, into_iter_len}

-- the records so far and those that are left make up what there is
abbrev pub invariant-loop-place : goal.invariant-loop-place
invariant-loop-place l = (l.records.items ++ present (into_iter_items l.place-iterator) ≡ l.fn.self)
    × (into_iter_len l.place-iterator ≡ length (into_iter_items l.place-iterator))
