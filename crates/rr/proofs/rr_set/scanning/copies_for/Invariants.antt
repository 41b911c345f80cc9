use Rattle.std.proofs.Common.{◌≡◌, ◌++◌, ◌<◌, ◌==◌, drop, length, not, take}
use Rattle.std.specs.List.{AllByRecursion, list_any}
use Rattle.rr.specs.SetChanges.{has_data_of, renewed, replaced}
use Rattle.rr.proofs.rr_set.scanning.copies_for.Given as goal

-- a copy for each place so far
abbrev pub invariant-loop-i : goal.invariant-loop-i
invariant-loop-i l =
    (renewed l.copies.items l.records.items ≡ replaced l.entry (take l.i l.records.items) ++ drop l.i l.records.items)
    × AllByRecursion (λ p. p.0 < length l.records.items) l.copies.items
    × ((length l.copies.items == 0) ≡ not (list_any (has_data_of l.entry) (take l.i l.records.items)))
