use Rattle.std.proofs.Common.{◌≡◌, ◌++◌, map, take, drop}
use Rattle.op_use.specs.UpdateMessage.{without_ttl}
use Rattle.op_use.proofs.update_message.builders.with_zero_ttl.Given as goal

-- those so far are changed
abbrev pub invariant-loop-record : goal.invariant-loop-record
invariant-loop-record l = l.record-items ≡ map (without_ttl)
    (take l.record-index l.fn.records.items) ++ drop l.record-index l.fn.records.items
