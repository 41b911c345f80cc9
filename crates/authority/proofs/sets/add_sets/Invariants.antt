use Rattle.authority.proofs.sets.add_sets.Given as goal
use Rattle.base.specs.names.Labels.{NameValue}
use Rattle.base.specs.RrKey.{key_of}
use Rattle.base.specs.declared.record_type.RecordType.TheVariants as types
use Rattle.base.specs.declared.rr_key.RrKey.{RrKey}
use Rattle.op_use.proofs.OwnerKeys.{owned_entry}
use Rattle.op_use.specs.Zone.{is_owned}
use Rattle.rr.specs.RecordSet.{SetValue}
use Rattle.std.proofs.Common.{map, ◌++◌, ◌≡◌}
use Rattle.std.specs.List.{filter, take_while}
use Rattle.std.specs.Map.{values_of}

-- the sets found and those left of the owner are all
abbrev pub invariant-loop-key : goal.invariant-loop-key
invariant-loop-key l =
    ((owner : NameValue) → l.least ≡ key_of owner types.ZERO
    → map (λ s. s.now) l.found.items ++ values_of (take_while (owned_entry owner) l.key-iterator)
    ≡ map (λ s. s.now) l.fn.found.items
    ++ values_of (filter (λ (e : RrKey × SetValue). is_owned owner e.0) l.sets.entries)) ×
    (goal.iterator-loop-key).can_next l.key-iterator ×
    (goal.iterator-loop-key).is_finite l.key-iterator
