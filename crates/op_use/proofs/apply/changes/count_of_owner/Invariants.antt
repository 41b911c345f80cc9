use Rattle.base.specs.names.NameOrder.{same_name}
use Rattle.base_data.specs.declared.rdata.RData.{RData}
use Rattle.op_use.proofs.apply.changes.count_of_owner.Given as goal
use Rattle.rr.specs.declared.record.Record.{Record}
use Rattle.std.proofs.Common.{drop, ◌+◌, ◌≡◌}
use Rattle.std.specs.Borrow.{Bor}
use Rattle.std.specs.List.{prefix_len}

-- those so far are of the owner
abbrev pub invariant-loop-place : goal.invariant-loop-place
invariant-loop-place l = prefix_len (λ (r : Bor (Record RData)). same_name r.now.name l.owner) l.entries
    ≡ l.place + prefix_len (λ (r : Bor (Record RData)). same_name r.now.name l.owner) (drop l.place l.entries)
