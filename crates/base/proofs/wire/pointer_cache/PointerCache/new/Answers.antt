use Rattle.std.proofs.Common.{ℕ, List, [], ◌++◌, ap}
use Rattle.std.specs.FinMap as map
use Rattle.std.specs.Ordering.{nat_cmp}
use Rattle.base.specs.reading.Pointers.{entries_from}
use Rattle.base.proofs.wire.pointer_cache.PointerCache.new.Goals as goal

pub returns : goal.returns
returns c = ap (λ (places : List ℕ). map.from_entries {R = nat_cmp} (entries_from 0 c.new.result places ++ []))
    c.new-2.ensures.items
