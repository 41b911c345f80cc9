use Rattle.std.proofs.Common.{arith, subst, sym}
use Rattle.base_data.specs.Kinds.{KeptData}
use Rattle.base_data.proofs.rdata.RData.fits.Goals as goal

pub returns-in-MX : goal.returns-in-MX
returns-in-MX c =
    let name = c.as_wire-in-MX.ensures in
    subst KeptData (sym c.in-MX.is) (
      omega (arith, c.preference.type_inv, c.preference.ensures),
      (name.labels, name.plain),
    )
