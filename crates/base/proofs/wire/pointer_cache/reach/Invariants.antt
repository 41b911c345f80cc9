use Rattle.std.proofs.Common.{◌≡◌, ℕ, ◌≤◌, length, get_or, ◌+◌, ◌-◌}
use Rattle.std.specs.Vec.{vec_capacity}
use Rattle.base.proofs.wire.pointer_cache.reach.Given as goal

abbrev pub invariant-loop-none : goal.invariant-loop-none
invariant-loop-none l = record {
  same : (q : ℕ) → get_or l.places.items q 0 ≡ get_or l.fn.places.items q 0;
  room : length l.places.items ≤ l.offset → l.offset + 256 ≤ vec_capacity l.places;
}

abbrev pub decreases-loop-none : goal.decreases-loop-none
decreases-loop-none l = l.offset + 1 - length l.places.items
