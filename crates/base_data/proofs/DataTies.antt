-- The order of record data ties exactly the data that is equal.
use Rattle.std.proofs.Common.{IsTrue, ◌≡◌}
use Rattle.std.specs.Prelude.{◌↔◌}
use Rattle.std.specs.declared.cmp.Ordering.TheVariants.{Equal}
use Rattle.base_data.proofs.EachKind.{same_data}
use Rattle.base_data.proofs.SameData.{tied}
use Rattle.base_data.specs.DataOrder.{data_cmp}
use Rattle.base_data.specs.Kinds.{KeptData}
use Rattle.base_data.specs.contracts.rdata.RDataPartialEq.TheImpl.{ghosts as equality}
use Rattle.base_data.specs.declared.rdata.RData.{RData}

-- the order ties exactly equal data
pub data_ties : (a b : RData) → KeptData a → KeptData b → (data_cmp a b ≡ Equal) ↔ IsTrue (equality.eq a b)
data_ties a b p q = (λ h. (same_data a b p q).0 ((tied a b).0 h), λ h. (tied a b).1 ((same_data a b p q).1 h))
