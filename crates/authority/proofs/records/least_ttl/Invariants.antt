use Rattle.authority.proofs.SetLemmas.{least_after, shown_from}
use Rattle.authority.proofs.records.least_ttl.Given as goal
use Rattle.authority.specs.Lookup.{least_ttl, shown}
use Rattle.op_use.specs.NamedChanges.{datum_of}
use Rattle.std.proofs.Common.{map, ◌≡◌}

-- the least so far and what is left decide
abbrev pub invariant-loop-record : goal.invariant-loop-record
invariant-loop-record l =
    least_after l.least (shown_from l.records l.record-index) ≡ least_ttl (shown (map datum_of l.records))
