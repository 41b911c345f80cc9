use Rattle.std.proofs.Common.{All, ◌↔◌}
use Rattle.std.specs.List.{AllByRecursion}
use Rattle.rr.specs.Record.{FitsRecord}
use Rattle.rr.specs.RecordSet.{SetValue}
use Rattle.tasks.specs.ZoneText.{FitsWire}
use Rattle.tasks.proofs.fits.fits_wire.Given as goal

-- what is left decides
abbrev pub invariant-loop-set : goal.invariant-loop-set
invariant-loop-set l =
    (AllByRecursion (λ (s : SetValue). All FitsRecord s.records) l.set-iterator ↔ FitsWire l.sets.entries) ×
    (goal.iterator-loop-set).can_next l.set-iterator ×
    (goal.iterator-loop-set).is_finite l.set-iterator
