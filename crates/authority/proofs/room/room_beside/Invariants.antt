use Rattle.authority.proofs.room.room_beside.Given as goal
use Rattle.authority.specs.Transfer.{room_beside}
use Rattle.op.specs.Fits.{plain_queries}
use Rattle.std.proofs.Common.{drop, ◌-◌, ◌≡◌}

-- what is left after the other questions too is the room
abbrev pub invariant-loop-question : goal.invariant-loop-question
invariant-loop-question l = l.left - plain_queries (drop l.question-index l.questions) ≡ room_beside l.questions
