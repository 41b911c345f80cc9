use Rattle.authority.proofs.records.add_all.Given as goal
use Rattle.authority.specs.Found.{answered}
use Rattle.std.proofs.Common.{drop, ◌++◌, ◌≡◌}
use Rattle.std.specs.List.{flat_map}

-- the records so far and those of the sets that are left are all
abbrev pub invariant-loop-set : goal.invariant-loop-set
invariant-loop-set l =
    l.records.items ++ flat_map (λ s. answered l.class l.owner s.now) (drop l.set-index l.sets)
    ≡ l.fn.records.items ++ flat_map (λ s. answered l.class l.owner s.now) l.sets
