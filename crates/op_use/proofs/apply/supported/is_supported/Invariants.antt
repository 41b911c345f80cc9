use Rattle.op_use.proofs.apply.supported.is_supported.Given as goal
use Rattle.op_use.specs.Applying.{is_supported, is_supported_prerequisite}
use Rattle.std.proofs.Common.{drop, true, ◌≡◌}
use Rattle.std.specs.List.{list_all}

-- what is left of the prerequisites decides, and then what is left of the updates
abbrev pub invariant-loop-prerequisite : goal.invariant-loop-prerequisite
invariant-loop-prerequisite l = list_all is_supported_prerequisite (drop l.prerequisite-index l.prerequisite-items)
    ≡ list_all is_supported_prerequisite l.prerequisite-items

abbrev pub invariant-loop-update : goal.invariant-loop-update
invariant-loop-update l = (list_all is_supported (drop l.update-index l.update-items)
    ≡ list_all is_supported l.update-items)
    × (list_all is_supported_prerequisite l.message.answers.items ≡ true)
