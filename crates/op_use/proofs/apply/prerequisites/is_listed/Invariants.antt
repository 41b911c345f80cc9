use Rattle.op_use.proofs.apply.prerequisites.is_listed.Given as goal
use Rattle.op_use.specs.MapFaults.{asks_for}
use Rattle.std.proofs.Common.{drop, ◌≡◌}
use Rattle.std.specs.List.{list_any}

-- what is left decides
abbrev pub invariant-loop-listed : goal.invariant-loop-listed
invariant-loop-listed l = list_any (asks_for l.class l.entry l.known) (drop l.listed-index l.entries) ≡ list_any
    (asks_for l.class l.entry l.known) l.entries
