use Rattle.std.proofs.Common.{All, take}
use Rattle.rr.specs.Record.{FitsRecord}
use Rattle.tasks.proofs.fits.records_fit.Given as goal

abbrev pub invariant-loop-entry : goal.invariant-loop-entry
invariant-loop-entry l = All FitsRecord (take l.entry-index l.records)
