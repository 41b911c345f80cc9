use Rattle.authority.proofs.OwnSets.{IsWalk}
use Rattle.authority.proofs.sets.own_sets.Given as goal

-- what was found and what is left are all that the name has
abbrev pub invariant-loop-key : goal.invariant-loop-key
invariant-loop-key l = IsWalk l.sets l.name l.record_type l.own l.key-iterator ×
    (goal.iterator-loop-key).can_next l.key-iterator ×
    (goal.iterator-loop-key).is_finite l.key-iterator
