use Rattle.authority.proofs.found.target_of.Given as goal
use Rattle.authority.specs.Lookup.{first_target}
use Rattle.std.proofs.Common.{drop, ◌≡◌}

-- what is left decides
abbrev pub invariant-loop-record : goal.invariant-loop-record
invariant-loop-record l = first_target (drop l.record-index l.records) ≡ first_target l.records
