use Rattle.std.proofs.Common.{All, take}
use Rattle.rr.specs.RecordSays.{KeptRecord}
use Rattle.op.specs.Fits.{FitsIn}
use Rattle.op.proofs.message.fits_wire.records_fit.Given as goal

abbrev pub invariant-loop-entry : goal.invariant-loop-entry
invariant-loop-entry l = let seen = take l.entry-index l.records in
    All (FitsIn l.among_additionals l.op_code) seen × All KeptRecord seen
