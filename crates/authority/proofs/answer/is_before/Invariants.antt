use Rattle.authority.proofs.answer.is_before.Given as goal
use Rattle.authority.specs.Answer.{owns}
use Rattle.std.proofs.Common.{drop, ◌≡◌}

-- what is left decides
abbrev pub invariant-loop-record : goal.invariant-loop-record
invariant-loop-record l = owns l.name (drop l.record-index l.records) ≡ owns l.name l.records
