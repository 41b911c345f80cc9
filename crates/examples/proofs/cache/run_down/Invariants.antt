use Rattle.std.proofs.Common.{◌≡◌, ◌++◌, map, take, drop}
use Rattle.rr.specs.Record.{decremented}
use Rattle.examples.proofs.cache.run_down.Given as goal

-- those so far are run down
abbrev pub invariant-loop-entry : goal.invariant-loop-entry
invariant-loop-entry l = l.entry-items ≡ map (decremented l.seconds)
    (take l.entry-index l.fn.records.items) ++ drop l.entry-index l.fn.records.items
