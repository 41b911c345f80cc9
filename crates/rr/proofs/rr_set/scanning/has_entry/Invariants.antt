use Rattle.std.proofs.Common.{◌≡◌, false, take}
use Rattle.rr.specs.SetChanges.{has_entry}
use Rattle.rr.proofs.rr_set.scanning.has_entry.Given as goal

-- none so far
abbrev pub invariant-loop-known : goal.invariant-loop-known
invariant-loop-known l = has_entry l.entry (take l.known-index l.records) ≡ false
