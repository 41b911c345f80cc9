use Rattle.parsed_zone.proofs.classes.are_sets_in.Given as goal
use Rattle.parsed_zone.specs.Classes.{are_sets_in, is_set_in}
use Rattle.std.proofs.Common.{◌≡◌}
use Rattle.std.specs.List.{list_all}

-- what is left decides
abbrev pub invariant-loop-set : goal.invariant-loop-set
invariant-loop-set l =
    (list_all is_set_in l.set-iterator ≡ are_sets_in l.sets.entries) ×
    (goal.iterator-loop-set).can_next l.set-iterator ×
    (goal.iterator-loop-set).is_finite l.set-iterator
