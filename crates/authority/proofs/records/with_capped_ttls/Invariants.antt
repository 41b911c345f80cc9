use Rattle.authority.proofs.records.with_capped_ttls.Given as goal
use Rattle.authority.specs.Answer.{as_negative}
use Rattle.std.proofs.Common.{drop, map, take, ◌++◌, ◌≡◌}

-- those so far are changed
abbrev pub invariant-loop-record : goal.invariant-loop-record
invariant-loop-record l = l.record-items ≡ map as_negative
    (take l.record-index l.fn.records.items) ++ drop l.record-index l.fn.records.items
