use Rattle.authority.proofs.AnswerLemmas.{extras_after}
use Rattle.authority.proofs.additionals.additionals.Given as goal
use Rattle.authority.specs.ZoneRef.{zone_of}
use Rattle.std.proofs.Common.{[], drop, ◌++◌, ◌≡◌}

-- the additional records so far and the hosts that are left decide
abbrev pub invariant-loop-record : goal.invariant-loop-record
invariant-loop-record l =
    extras_after (zone_of l.zone) l.is_referral (l.answers ++ l.records) l.additionals.items
    (drop l.record-index l.records)
    ≡ extras_after (zone_of l.zone) l.is_referral (l.answers ++ l.records) [] l.records
