use Rattle.std.proofs.Common.{◌≡◌, ◌++◌, map, take, drop}
use Rattle.base.specs.declared.dns_class.DNSClass.TheVariants as classes
use Rattle.op_use.specs.UpdateMessage.{untimed_in}
use Rattle.op_use.proofs.update_message.builders.with_class_none.Given as goal

-- those so far are changed
abbrev pub invariant-loop-record : goal.invariant-loop-record
invariant-loop-record l = l.record-items ≡ map (untimed_in classes.NONE)
    (take l.record-index l.fn.records.items) ++ drop l.record-index l.fn.records.items
