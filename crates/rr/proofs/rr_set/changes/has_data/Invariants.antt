use Rattle.std.proofs.Common.{◌≡◌, false, take}
use Rattle.std.specs.List.{list_any}
use Rattle.rr.specs.SetChanges.{has_data_of}
use Rattle.rr.proofs.rr_set.changes.has_data.Given as goal

-- none so far
abbrev pub invariant-loop-known : goal.invariant-loop-known
invariant-loop-known l = list_any (has_data_of l.entry) (take l.known-index l.records) ≡ false
