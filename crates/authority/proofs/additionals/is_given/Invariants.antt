use Rattle.authority.proofs.additionals.is_given.Given as goal
use Rattle.authority.specs.Answer.{is_given}
use Rattle.std.proofs.Common.{drop, ◌≡◌}

-- what is left decides
abbrev pub invariant-loop-record : goal.invariant-loop-record
invariant-loop-record l = is_given (drop l.record-index l.records) l.name l.record_type
    ≡ is_given l.records l.name l.record_type
