use Rattle.std.proofs.Common.{◌≡◌, ◌<◌, length}
use Rattle.std.specs.List.{AllByRecursion}
use Rattle.std.specs.Vec.Iter.{into_iter_items, into_iter_len}
use Rattle.rr.specs.SetChanges.{renewed}
use Rattle.rr.proofs.rr_set.scanning.renew.Given as goal

-- the copies that are left make up what all of them make up
abbrev pub invariant-loop-place : goal.invariant-loop-place
invariant-loop-place l =
    (renewed (into_iter_items l.place-iterator) l.records.items ≡ renewed l.fn.copies.items l.fn.records.items)
    × AllByRecursion (λ p. p.0 < length l.records.items) (into_iter_items l.place-iterator)
    × (into_iter_len l.place-iterator ≡ length (into_iter_items l.place-iterator))
