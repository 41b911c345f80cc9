use Rattle.authority.proofs.SetLemmas.{shown_from}
use Rattle.authority.proofs.records.add_answered.Given as goal
use Rattle.authority.specs.Found.{answered}
use Rattle.authority.specs.Lookup.{record_of}
use Rattle.std.proofs.Common.{map, ◌++◌, ◌≡◌}

-- the records so far and what is left are all
abbrev pub invariant-loop-entry : goal.invariant-loop-entry
invariant-loop-entry l =
    l.records.items ++ map (record_of l.class l.owner l.ttl) (shown_from l.entries l.entry-index)
    ≡ l.fn.records.items ++ answered l.class l.owner l.set
