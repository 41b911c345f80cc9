use Rattle.authority.proofs.room.room_after_strings.Given as goal
use Rattle.base.specs.names.Labels.{size_of}
use Rattle.std.proofs.Common.{◌+◌, ◌≡◌}

-- the strings so far took what is gone of the room
abbrev pub invariant-loop-string : goal.invariant-loop-string
invariant-loop-string l =
    (l.left + size_of l.txt ≡ l.room + size_of l.string-iterator) ×
    (goal.iterator-loop-string).can_next l.string-iterator ×
    (goal.iterator-loop-string).is_finite l.string-iterator
