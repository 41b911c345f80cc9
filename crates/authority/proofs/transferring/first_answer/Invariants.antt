use Rattle.authority.proofs.SetLemmas.{shown_from}
use Rattle.authority.proofs.transferring.first_answer.Given as goal
use Rattle.authority.specs.Lookup.{record_of}
use Rattle.authority.specs.Transfer.{records_from}
use Rattle.std.proofs.Common.{map, slice_get, ◌≡◌}

-- the first record of those that are left is the first of all
abbrev pub invariant-loop-entry : goal.invariant-loop-entry
invariant-loop-entry l =
    slice_get (map (record_of l.class l.set.name l.ttl) (shown_from l.entries l.entry-index)) 0
    ≡ slice_get (records_from l.class 0 l.set) 0
