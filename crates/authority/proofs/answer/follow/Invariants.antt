use Rattle.authority.proofs.answer.follow.Given as goal
use Rattle.authority.specs.Answer.{answer}
use Rattle.authority.specs.declared.answer.TheConstants.{MAX_ALIASES}
use Rattle.authority.specs.ZoneRef.{zone_of}
use Rattle.std.proofs.Common.{◌≡◌}

-- what is answered after the aliases so far, for the name to which they lead, is the answer
abbrev pub invariant-names : goal.invariant-names
invariant-names l =
    answer (zone_of l.zone) l.record_type l.room l.answers.items l.name
    ≡ answer (zone_of l.zone) l.record_type MAX_ALIASES l.fn.answers.items l.fn.name

abbrev pub decreases-names : goal.decreases-names
decreases-names l = l.room
