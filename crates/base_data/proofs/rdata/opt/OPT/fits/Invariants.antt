use Rattle.std.specs.Prelude.{All, take}
use Rattle.base_data.specs.OPT.{FitsOption}
use Rattle.base_data.proofs.rdata.opt.OPT.fits.Given as goal

abbrev pub invariant-options : goal.invariant-options
invariant-options l = All FitsOption (take l.option-index l.option-items)
