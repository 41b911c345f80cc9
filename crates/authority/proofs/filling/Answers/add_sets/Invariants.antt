use Rattle.authority.proofs.SetsFromLemmas.{IsEnd}
use Rattle.authority.proofs.filling.Answers.add_sets.Given as goal
use Rattle.authority.specs.Filling.{Fills}
use Rattle.authority.specs.Transfer.{given_from}
use Rattle.base.specs.RrKey.{key_cmp}
use Rattle.std.specs.BTreeMap.Range.{entries_between}
use Rattle.std.specs.declared.ops.Bound.TheVariants.{Included, Unbounded}

-- the sets that are left are the last of the map, and their records are left
abbrev pub invariant-loop-key : goal.invariant-loop-key
invariant-loop-key l =
    IsEnd l.zone.sets.now.entries l.key-iterator ×
    Fills (given_from l.zone.origin.now l.zone.class l.fn.from
    (entries_between key_cmp (Included l.fn.key) Unbounded l.zone.sets.now.entries))
    (given_from l.zone.origin.now l.zone.class l.from l.key-iterator) l.fn.self l.self ×
    (goal.iterator-loop-key).can_next l.key-iterator ×
    (goal.iterator-loop-key).is_finite l.key-iterator
