use Rattle.std.proofs.Common.{take}
use Rattle.base.specs.Keys.{indexed_at}
use Rattle.rr.specs.DataIndex.{IsIndexOf}
use Rattle.rr.proofs.rr_set.indexed_records.index_of.Given as goal

-- it is the index of those so far
abbrev pub invariant-loop-place : goal.invariant-loop-place
invariant-loop-place l = IsIndexOf (indexed_at l.places) (take l.place l.records.items)
