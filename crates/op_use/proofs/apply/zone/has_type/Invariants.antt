use Rattle.base.specs.declared.rr_key.RrKey.{RrKey}
use Rattle.op_use.proofs.OwnerKeys.{owned_entry, passes}
use Rattle.op_use.proofs.apply.zone.has_type.Given as goal
use Rattle.op_use.specs.Server.{is_cname}
use Rattle.std.proofs.Common.{not, ◌&&◌, ◌≡◌}
use Rattle.std.specs.BTreeMap.{keys}
use Rattle.std.specs.List.{list_any, take_while}
use Rattle.std.specs.Map.{keys_of}

-- what is left of the owner's keys decides
abbrev pub invariant-loop-key : goal.invariant-loop-key
invariant-loop-key g l =
    (list_any (passes l.owner (λ (k : RrKey). not (l.is_beside && is_cname k.record_type)))
    (keys_of (take_while (owned_entry l.owner) l.key-iterator))
    ≡ list_any (passes l.owner (λ (k : RrKey). not (l.is_beside && is_cname k.record_type))) (keys l.sets)) ×
    (goal.iterator-loop-key g).can_next l.key-iterator ×
    (goal.iterator-loop-key g).is_finite l.key-iterator
