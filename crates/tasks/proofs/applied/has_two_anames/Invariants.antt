use Rattle.std.proofs.Common.{◌≡◌}
use Rattle.std.specs.List.{list_any}
use Rattle.base.specs.declared.rr_key.RrKey.{RrKey}
use Rattle.rr.specs.RecordSet.{SetValue}
use Rattle.tasks.proofs.applied.has_two_anames.Given as goal
use Rattle.tasks.specs.Applied.{are_anames}

-- what is left decides
abbrev pub invariant-loop-key : goal.invariant-loop-key
invariant-loop-key l =
    (list_any (λ (e : RrKey × SetValue). are_anames e.0 e.1.records) l.key-iterator
    ≡ list_any (λ (e : RrKey × SetValue). are_anames e.0 e.1.records) l.sets.entries) ×
    (goal.iterator-loop-key).can_next l.key-iterator ×
    (goal.iterator-loop-key).is_finite l.key-iterator
