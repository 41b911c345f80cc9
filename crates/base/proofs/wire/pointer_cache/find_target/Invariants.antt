use Rattle.std.proofs.Common.{◌≡◌, ℕ, List, drop}
use Rattle.std.specs.FinMap as map
use Rattle.std.specs.Ordering.{nat_cmp}
use Rattle.base.specs.reading.Pointers.{first_of, target_entries}
use Rattle.base.proofs.wire.pointer_cache.find_target.Given as goal

abbrev pub invariant-loop-target : goal.invariant-loop-target
invariant-loop-target l = (copied : List ℕ)
    → map.find nat_cmp l.offset (target_entries copied (first_of l.first)) ≡ map.find nat_cmp l.offset
    (target_entries copied (drop l.target-index (first_of l.first)))
