use Rattle.rr.proofs.rr_set.placed_records.scanned.Given as goal
use Rattle.rr.specs.PlacedRecords.{present}
use Rattle.rr.specs.SetChanges.{has_data_of}
use Rattle.std.proofs.Common.{false, take, ◌≡◌}
use Rattle.std.specs.List.{list_any}

-- none so far
abbrev pub invariant-loop-place : goal.invariant-loop-place
invariant-loop-place l = list_any (has_data_of l.entry) (present (take l.place l.places.items)) ≡ false
