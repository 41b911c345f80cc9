use Rattle.authority.proofs.FillingLemmas.{left_of}
use Rattle.authority.proofs.filling.Answers.add_set.Given as goal
use Rattle.authority.specs.Filling.{Fills}
use Rattle.authority.specs.Transfer.{records_from}
use Rattle.std.proofs.Common.{length, ◌-◌}

-- those from the number on are left
abbrev pub invariant-loop-i : goal.invariant-loop-i
invariant-loop-i l =
    Fills (records_from l.class l.fn.from l.set) (left_of l.class l.set.name l.ttl l.entries l.i) l.fn.self l.self

abbrev pub decreases-loop-i : goal.decreases-loop-i
decreases-loop-i l = length l.entries - l.i
