use Rattle.authority.proofs.room.room_after_options.Given as goal
use Rattle.base_data.specs.OPT.{options_len}
use Rattle.std.proofs.Common.{drop, ◌+◌, ◌≡◌}

-- the options so far took what is gone of the room
abbrev pub invariant-loop-option : goal.invariant-loop-option
invariant-loop-option l =
    l.left + options_len l.options ≡ l.room + options_len (drop l.option-index l.options)
